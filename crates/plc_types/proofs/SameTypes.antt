-- Data types that are the same are equal, and their values are of one elementary type.
use Rattle.std.proofs.Common.{◌≡◌, ℕ, ◌==◌, true, ap, subst, ℤ, arith, rules}
use Rattle.std.proofs.lemmas.Bool.{false≢true}
use Rattle.std.proofs.lemmas.Bool.Decides.{nat_tests}
use denote.Enum.Bare.{same_true}
use Rattle.plc_types.specs.contracts.elementary.Elementary.{the_type}
use Rattle.plc_types.specs.declared.elementary.Elementary.{Elementary}
use Rattle.plc_types.specs.declared.data_type.DataType.{DataType}
use Rattle.plc_types.specs.declared.data_type.DataType.TheVariants as kinds
use Rattle.plc_types.specs.DataTypes.{carrier, is_same_type}
use Rattle.plc_types.specs.Types.{range_of, in_range, wrap_to}
use Rattle.plc_types.proofs.TypeRanges.{wrapped_in}

same_number : (m n : ℕ) → m == n ≡ true → m ≡ n
same_number m n h = grind (arith, nat_tests)

pub same_type : (a b : DataType) → is_same_type a b ≡ true → a ≡ b
same_type (kinds.Elementary k) (kinds.Elementary l) h = ap kinds.Elementary (same_true the_type (search rules) k l h)
same_type (kinds.Elementary k) (kinds.Enumeration n) h = absurd (false≢true h)
same_type (kinds.Elementary k) kinds.Unknown h = absurd (false≢true h)
same_type (kinds.Enumeration m) (kinds.Elementary l) h = absurd (false≢true h)
same_type (kinds.Enumeration m) (kinds.Enumeration n) h = ap kinds.Enumeration (same_number m n h)
same_type (kinds.Enumeration m) kinds.Unknown h = absurd (false≢true h)
same_type kinds.Unknown b h = absurd (false≢true h)

pub same_carrier : (a b : DataType) → is_same_type a b ≡ true → carrier a ≡ carrier b
same_carrier a b h = ap carrier (same_type a b h)

-- a number that is wrapped to a type that is an elementary one is a value of that
pub wrapped_to : (t : DataType) (k : Elementary) (v : ℤ) → is_same_type t (kinds.Elementary k) ≡ true → in_range (wrap_to (carrier t) v) (range_of k) ≡ true
wrapped_to t k v same = subst (λ (e : Elementary). in_range (wrap_to (carrier t) v) (range_of e) ≡ true) (same_carrier t (kinds.Elementary k) same) (wrapped_in (carrier t) v)
