-- Which values stay in a range, by the types and the ranges that they come from.
use Rattle.std.specs.Prelude.{Bool, false, ◌&&◌, List, [], ◌∷◌, pos, ◌+ℤ◌, ◌*ℤ◌, int_le}
use Rattle.program_tree.specs.plc_types.declared.function.Function.{Function}
use Rattle.program_tree.specs.plc_types.declared.function.Function.TheVariants as functions
use Rattle.program_tree.specs.plc_types.declared.range.Range.{Range}
use Rattle.program_tree.specs.plc_types.Types.{range_of, in_range}
use Rattle.program_tree.specs.declared.typed.Turns.{Turns}
use Rattle.program_tree.specs.Tree.{Operands, no_operands, operand}
use Rattle.meaning.specs.Values.{result_type}

-- all values of the second range lie in the first
abbrev pub covers : Range → Range → Bool
covers r s = int_le r.low s.low && int_le s.high r.high

-- the result of the last operator lies in a range; without operators it is told
abbrev pub last_stays : Bool → Operands → Range → Bool
last_stays first no_operands r = first
last_stays first (operand o t e os) r = last_stays (covers r (range_of (result_type o t))) os r

-- SEL answers one of its last two operands
abbrev pub chosen_stay : Function → List Bool → Bool
chosen_stay functions.Select (g ∷ v ∷ w ∷ []) = v && w
chosen_stay _ _ = false

-- all values that the control variable of a FOR gets, the one that ends it among them, lie in a range
abbrev pub turns_stay : Turns → Range → Bool
turns_stay turns r = in_range turns.first r && in_range (turns.first +ℤ pos turns.count *ℤ turns.step) r
