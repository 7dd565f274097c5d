-- Truth values as numbers.
use Rattle.std.proofs.Common.{◌⊎◌, inl, inr, ◌≡◌, Bool, true, false, ◌||◌, ℤ, pos, refl}
use Rattle.plc_types.specs.declared.elementary.Elementary.TheVariants as types
use Rattle.plc_types.specs.declared.operator.Operator.TheVariants as ops
use Rattle.plc_types.specs.Types.{range_of, in_range}
use Rattle.plc_types.proofs.TypeRanges.{zero_or_one as one_of_bool}
use Rattle.meaning.specs.Values.{number_of, is_truth, applied}

pub is_truth-number_of : (b : Bool) → is_truth (number_of b) ≡ b
is_truth-number_of true = refl
is_truth-number_of false = refl

pub number_of-in : (b : Bool) → in_range (number_of b) (range_of types.Bool) ≡ true
number_of-in true = refl
number_of-in false = refl

pub number_of-or : (a b : Bool) → applied ops.Or types.Bool (number_of a) (number_of b) ≡ number_of (a || b)
number_of-or true true = refl
number_of-or true false = refl
number_of-or false true = refl
number_of-or false false = refl

-- a number that is 0 or 1 is that of a truth value
pub zero_or_one : (v : ℤ) → in_range v (range_of types.Bool) ≡ true → v ≡ number_of (is_truth v)
zero_or_one v h = by v (one_of_bool v h)
  where
    by : (v : ℤ) → (v ≡ pos 0) ⊎ (v ≡ pos 1) → v ≡ number_of (is_truth v)
    by v (inl e) = rw e refl
    by v (inr e) = rw e refl
