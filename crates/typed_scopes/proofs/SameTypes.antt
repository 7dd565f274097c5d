-- Which data types are known, and which are elementary.
use Rattle.std.proofs.Common.{◌≡◌, ℕ, ◌==◌, true, not, refl, ap, arith, rules, false}
use Rattle.std.proofs.lemmas.Bool.{false≢true}
use Rattle.std.proofs.lemmas.Bool.Decides.{nat_tests}
use denote.Enum.Bare.{same_true}
use Rattle.plc_types.specs.contracts.elementary.Elementary.{the_type}
use Rattle.plc_types.specs.declared.elementary.Elementary.{Elementary}
use Rattle.plc_types.specs.declared.elementary.Elementary.TheVariants as types
use Rattle.plc_types.specs.declared.data_type.DataType.{DataType}
use Rattle.plc_types.specs.declared.data_type.DataType.TheVariants as kinds
use Rattle.plc_types.specs.DataTypes.{carrier, is_same_type, is_integer_type}
use Rattle.plc_types.specs.Types.{is_signed, is_integer}
use Rattle.plc_types.proofs.Widths.{bits_unsigned as unsigned}
use Rattle.typing.specs.Typing.{has_bits, is_ordered, is_unknown}

-- a type that is the same as another is known
pub same_known : (u t : DataType) → is_same_type u t ≡ true → is_unknown t ≡ false
same_known (kinds.Elementary k) kinds.Unknown h = absurd (false≢true h)
same_known (kinds.Enumeration n) kinds.Unknown h = absurd (false≢true h)
same_known kinds.Unknown kinds.Unknown h = absurd (false≢true h)
same_known u (kinds.Elementary l) h = refl
same_known u (kinds.Enumeration n) h = refl

abbrev pub IsElementary : DataType → Type 0
IsElementary (kinds.Elementary k) = Unit {0}
IsElementary (kinds.Enumeration n) = ⊥
IsElementary kinds.Unknown = ⊥

pub elementary_known : (t : DataType) → IsElementary t → is_unknown t ≡ false
elementary_known (kinds.Elementary k) h = refl
elementary_known (kinds.Enumeration n) h = refl
elementary_known kinds.Unknown h = absurd h

pub of_integers : (t : DataType) → is_integer_type t ≡ true → IsElementary t
of_integers (kinds.Elementary k) h = tt
of_integers (kinds.Enumeration n) h = absurd (false≢true h)
of_integers kinds.Unknown h = absurd (false≢true h)

pub of_bits : (t : DataType) → has_bits t ≡ true → IsElementary t
of_bits (kinds.Elementary k) h = tt
of_bits (kinds.Enumeration n) h = absurd (false≢true h)
of_bits kinds.Unknown h = absurd (false≢true h)

pub of_ordered : (t : DataType) → is_ordered t ≡ true → IsElementary t
of_ordered (kinds.Elementary k) h = tt
of_ordered (kinds.Enumeration n) h = absurd (false≢true h)
of_ordered kinds.Unknown h = absurd (false≢true h)

pub bits_unsigned : (t : DataType) → has_bits t ≡ true → not (is_signed (carrier t)) ≡ true
bits_unsigned (kinds.Elementary k) h = unsigned k h
bits_unsigned (kinds.Enumeration n) h = absurd (false≢true h)
bits_unsigned kinds.Unknown h = absurd (false≢true h)
