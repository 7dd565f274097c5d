-- What places of a program take.
use Rattle.std.specs.Prelude.{◌≡◌, ℕ, List, true, false, slice_index_or, pos}
use Rattle.plc_types.specs.declared.elementary.Elementary.{Elementary}
use Rattle.plc_types.specs.declared.elementary.Elementary.TheVariants as types
use Rattle.plc_types.specs.DataTypes.{carrier}
use Rattle.plc_types.specs.Types.{range_of, in_range}
use Rattle.program_tree.specs.declared.scratch.Scratch.{Scratch}
use Rattle.program_tree.specs.Tree.{CellData}

-- what a cell takes: the type of its numbers, a range, and whether it is a subrange, which takes no others
abbrev pub of_cell : CellData → Scratch
of_cell c = record { kind = carrier c.kind; range = c.range; is_subrange = c.is_subrange }

-- where there is no place, there is nothing that one takes
abbrev pub place_at : List Scratch → ℕ → Scratch
place_at ps place = slice_index_or ps place (record { kind = types.Bool; range = record { low = pos 1; high = pos 0 }; is_subrange = false })

-- a place that takes each value of a type
abbrev pub whole_cell : Elementary → Scratch
whole_cell kind = record { kind = kind; range = range_of kind; is_subrange = false }

-- the range of a place is one of numbers of its type
abbrev pub IsTypedPlace : Scratch → Type 0
IsTypedPlace p = (in_range p.range.low (range_of p.kind) ≡ true) × (in_range p.range.high (range_of p.kind) ≡ true)
