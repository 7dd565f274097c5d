-- Whether values lie in their cells' ranges, as a test.
use Rattle.std.specs.Prelude.{Bool, true, false, ◌&&◌, List, [], ◌∷◌}
use Rattle.plc_types.specs.declared.range.Range.{Range}
use Rattle.plc_types.specs.Types.{in_range}
use Rattle.program_tree.specs.Tree.{ProgramData}
use Rattle.meaning.specs.Values.{State}
use Rattle.scan_model.specs.Scans.{ranges_of}
use Rattle.scan_model.specs.Pairs.{Pair}

-- each cell has one value, in its range
abbrev pub are_in_range : List Range → State → Bool
are_in_range [] [] = true
are_in_range [] (v ∷ vs) = false
are_in_range (r ∷ rs) [] = false
are_in_range (r ∷ rs) (v ∷ vs) = in_range v r && are_in_range rs vs

abbrev pub is_pair_in_range : ProgramData → ProgramData → Pair → Bool
is_pair_in_range old new pair = are_in_range (ranges_of old.cells) pair.old && are_in_range (ranges_of new.cells) pair.new
