-- States and rows whose values lie in their cells' ranges, and the programs that scans are run of.
use Rattle.std.specs.Prelude.{◌≡◌, ◌≤ℤ◌, ℕ, Bool, true, false, ◌&&◌, List, [], ◌∷◌, slice_set, ℤ}
use Rattle.plc_types.specs.declared.elementary.Elementary.TheVariants as types
use Rattle.plc_types.specs.declared.data_type.DataType.TheVariants.{Elementary}
use Rattle.program_tree.specs.declared.typed.Part.TheVariants as parts
use Rattle.plc_types.specs.declared.range.Range.{Range}
use Rattle.plc_types.specs.Types.{range_of, in_range}
use Rattle.program_tree.specs.Tree.{CellData, ProgramData}
use Rattle.meaning.specs.Values.{State}
use Rattle.meaning.specs.Effects.{range_at}
use Rattle.scan_model.specs.Scans.{ranges_of, initial}

-- each cell has one value, in its range
abbrev pub IsInRange : List Range → State → Type 0
IsInRange [] [] = Unit {0}
IsInRange [] (v ∷ vs) = ⊥
IsInRange (r ∷ rs) [] = ⊥
IsInRange (r ∷ rs) (v ∷ vs) = (r.low ≤ℤ v) × (v ≤ℤ r.high) × IsInRange rs vs

-- the first cell is FAULT, a BOOL
abbrev pub BeginsWithFault : List CellData → Type 0
BeginsWithFault [] = ⊥
BeginsWithFault (c ∷ cs) = (c.part ≡ parts.Fault) × (c.kind ≡ Elementary types.Bool) × (c.range ≡ range_of types.Bool)

-- what scans ask of a program
pub record IsFitToRun (p : ProgramData) : Type 0 where
  pub begins_with_fault : BeginsWithFault p.cells
  pub start_in_range : IsInRange (ranges_of p.cells) (initial p.cells)

-- one scan's numbers, in order
abbrev pub Row : Type 0
Row = List ℤ

-- a row has one number for each of the places, in its cell's range
abbrev pub fits_places : List Range → List ℕ → Row → Bool
fits_places rs [] [] = true
fits_places rs [] (v ∷ vs) = false
fits_places rs (p ∷ ps) [] = false
fits_places rs (p ∷ ps) (v ∷ vs) = in_range v (range_at rs p) && fits_places rs ps vs

-- the numbers of a row put into the cells at the places
abbrev pub put_at : List ℕ → Row → State → State
put_at [] vs s = s
put_at (p ∷ ps) [] s = s
put_at (p ∷ ps) (v ∷ vs) s = put_at ps vs (slice_set s p v)
