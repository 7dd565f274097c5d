-- Constant expressions, and the turns of a FOR.
use Rattle.std.specs.Prelude.{ℕ, zero, suc, nat_lt, [], Bool, true, false, not, ◌&&◌, Option, Some, None, if◌then◌else◌, ℤ, pos, ◌+ℤ◌, int_le, int_lt}
use Rattle.plc_types.specs.declared.data_type.DataType.{DataType}
use Rattle.rules.specs.declared.rule.Rule.{Rule}
use Rattle.rules.specs.declared.rule.Rule.TheVariants.{StepZero, TooManyTurns, OutsideControl}
use Rattle.plc_types.specs.declared.range.Range.{Range}
use Rattle.plc_types.specs.Types.{in_range}
use Rattle.source_tree.specs.Syntax.{Tree, literal, path, enumerator, paren, unary, chain, call, Links, no_links, link}
use Rattle.meaning.specs.Values.{value_of, faults, no_callees, is_zero}
use Rattle.typing.specs.declared.scope.Place.{Place}
use Rattle.typing.specs.declared.scope.Place.TheVariants as places
use Rattle.typing.specs.declared.scope.Meaning.{Meaning}
use Rattle.typing.specs.Typing.{Scope, by_path, by_value}
use Rattle.typing.specs.Typed.{typed}

abbrev pub is_value : Place → Bool
is_value (places.Cell c) = false
is_value (places.Value v) = true

abbrev pub means_value : Option Meaning → Bool
means_value None = false
means_value (Some m) = is_value m.place

-- An expression over literals, values of enumerations and constants alone, without calls.
abbrev mutual
  pub is_constant : Scope → Tree → Bool
  is_constant scope (literal l) = true
  is_constant scope (path p) = means_value (scope.means (by_path p))
  is_constant scope (enumerator t v) = means_value (scope.means (by_value v))
  is_constant scope (paren at e) = is_constant scope e
  is_constant scope (unary o at e) = is_constant scope e
  is_constant scope (chain e ls) = is_constant scope e && are_constant scope ls
  is_constant scope (call n at args) = false

  pub are_constant : Scope → Links → Bool
  are_constant scope no_links = true
  are_constant scope (link o at e ls) = is_constant scope e && are_constant scope ls

-- The value of a constant expression where a type is expected: there is one where its evaluation meets no fault.
abbrev pub constant_value : Scope → Option DataType → Tree → Option ℤ
constant_value scope expected e =
    if is_constant scope e && not (faults no_callees 0 (typed scope expected e) []) then Some (value_of no_callees 0 (typed scope expected e) []) else None

-- a turn begins with a value that does not pass the last one, in the direction of the step
abbrev pub goes_on : ℤ → ℤ → ℤ → Bool
goes_on v last step = if int_lt (pos 0) step then int_le v last else int_le last v

-- how many turns there are from a value on, up to a bound
unfoldable pub turns_within : ℕ → ℤ → ℤ → ℤ → ℕ
turns_within zero v last step = 0
turns_within (suc bound) v last step = if goes_on v last step then suc (turns_within bound (v +ℤ step) last step) else 0

-- 4,096 turns are allowed; 4,097 stand for any greater number
unfoldable pub turn_count : ℤ → ℤ → ℤ → ℕ
turn_count first last step = turns_within 4097 first last step

-- the value of each of so many turns, and the one that ends the FOR, lie in a range
abbrev pub are_in_range : ℕ → ℤ → ℤ → Range → Bool
are_in_range zero v step r = in_range v r
are_in_range (suc count) v step r = in_range v r && are_in_range count (v +ℤ step) step r

-- the rule that the turns of a FOR break, whose control variable has a range
abbrev pub broken_by_turns : Range → ℤ → ℤ → ℤ → Option Rule
broken_by_turns r first last step =
    if is_zero step then Some StepZero
    else (if nat_lt 4096 (turn_count first last step) then Some TooManyTurns
    else (if are_in_range (turn_count first last step) first step r then None else Some OutsideControl))
