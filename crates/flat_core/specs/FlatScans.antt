-- What flat statements do to a store, which has the values of the cells and behind them those of the scratch cells, and one scan.
-- They call nothing, and their cells begin at place 0.
use Rattle.std.specs.Prelude.{ℕ, suc, zero, ◌-◌, List, [], ◌∷◌, ◌++◌, map, length, take, Bool, true, not, ◌||◌, nat_lt, slice_set, ℤ, pos, if◌then◌else◌}
use Rattle.plc_types.specs.declared.range.Range.{Range}
use Rattle.plc_types.specs.Types.{in_range}
use Rattle.program_tree.specs.declared.scratch.Scratch.{Scratch}
use Rattle.scan_model.specs.meaning.Values.{State, no_callees, value_of, faults, is_truth}
use Rattle.scan_model.specs.meaning.Effects.{with_fault, stored}
use Rattle.scan_model.specs.Scans.{ranges_of}
use Rattle.flat_core.specs.FlatTree.{FlatStatement, set, branch, FlatStatements, no_flats, flat, FlatData}

-- a scratch cell of a subrange takes the values of its range, and any other takes each
abbrev pub takes : List Scratch → ℕ → ℤ → Bool
takes [] n v = true
takes (c ∷ cs) zero v = not c.is_subrange || in_range v c.range
takes (c ∷ cs) (suc n) v = takes cs n v

-- A cell gets a value as by an assignment of the program. A value that a scratch cell does not take is a fault, and leaves it.
abbrev pub placed : List Range → List Scratch → ℕ → ℤ → State → State
placed rs cs place v s =
    if nat_lt place (length rs) then stored rs place v s else (if takes cs (place - length rs) v then slice_set s place v else slice_set s 0 (pos 1))

abbrev mutual
  pub run_of : List Range → List Scratch → FlatStatement → State → State
  run_of rs cs (set place e) s = placed rs cs place (value_of no_callees 0 e s) (with_fault (faults no_callees 0 e s) s)
  run_of rs cs (branch e a b) s =
      if is_truth (value_of no_callees 0 e s) then run_of_all rs cs a (with_fault (faults no_callees 0 e s) s) else run_of_all rs cs b (with_fault (faults no_callees 0 e s) s)

  pub run_of_all : List Range → List Scratch → FlatStatements → State → State
  run_of_all rs cs no_flats s = s
  run_of_all rs cs (flat t ts) s = run_of_all rs cs ts (run_of rs cs t s)

-- scratch cells begin each scan with 0
abbrev pub cleared : List Scratch → State
cleared cs = map (λ c. pos 0) cs

-- the cells that a scan leaves
abbrev pub flat_scanned : FlatData → State → State
flat_scanned f s = take (length f.cells) (run_of_all (ranges_of f.cells) f.scratch f.body (s ++ cleared f.scratch))
