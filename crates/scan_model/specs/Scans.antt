-- The states of a program, and one scan of it.
use Rattle.std.specs.Prelude.{List, length, map, slice_set, pos}
use Rattle.plc_types.specs.declared.range.Range.{Range}
use Rattle.program_tree.specs.Tree.{CellData, ProgramData}
use Rattle.meaning.specs.Values.{State, Callees}
use Rattle.meaning.specs.Effects.{state_of, effect_of_all}
use Rattle.meaning.specs.Calls.{callees_of}

abbrev pub ranges_of : List CellData → List Range
ranges_of cells = map (λ c. c.range) cells

abbrev pub initial : List CellData → State
initial cells = map (λ c. c.initial) cells

-- what the POUs do that a program may call
abbrev pub callees_in : ProgramData → Callees
callees_in p = callees_of p.called (length p.called)

-- FAULT becomes FALSE, then the body runs; whatever ends it, the scan has the state that is left
abbrev pub scanned : ProgramData → State → State
scanned p s = state_of (effect_of_all (callees_in p) (ranges_of p.cells) 0 p.body (slice_set s 0 (pos 0)))
