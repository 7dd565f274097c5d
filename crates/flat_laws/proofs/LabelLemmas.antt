-- The tests of labels: TRUE where the selector's value is among those of the labels, and never a fault.
use Rattle.std.proofs.Common.{◌≡◌, ℕ, Bool, true, false, ◌&&◌, ◌||◌, List, [], ◌∷◌, map, ℤ, pos, refl, zero-add}
use Rattle.std.proofs.Math.Bool.{or_assoc}
use Rattle.std.specs.Prelude.{slice_index_or, int_le}
use Rattle.std.specs.Ordering.{int_eq}
use Rattle.plc_types.specs.declared.elementary.Elementary.{Elementary}
use Rattle.plc_types.specs.declared.elementary.Elementary.TheVariants.{Bool as Bit}
use Rattle.plc_types.specs.declared.operator.Operator.TheVariants.{Or, And}
use Rattle.program_tree.specs.declared.typed.TypedLabel.{TypedLabel}
use Rattle.program_tree.specs.declared.typed.TypedLabel.TheVariants.{Single, Span}
use Rattle.plc_types.specs.Types.{wrap_to}
use Rattle.program_tree.specs.View.{operands_of}
use Rattle.meaning.specs.Values.{State, no_callees, value_of, value_on, faults, any_faults, applied, number_of, is_truth}
use Rattle.meaning.specs.Effects.{is_named, is_labelled}
use Rattle.flat_form.specs.FlatLists.{label_test, or_test, labels_test}

-- ---- truth values

pub is_truth-number_of : (b : Bool) → is_truth (number_of b) ≡ b
is_truth-number_of true = refl
is_truth-number_of false = refl

wrapped : (b : Bool) → wrap_to Bit (number_of b) ≡ number_of b
wrapped true = refl
wrapped false = refl

pub and_bits : (a b : Bool) → applied And Bit (number_of a) (number_of b) ≡ number_of (a && b)
and_bits false false = refl
and_bits false true = refl
and_bits true false = refl
and_bits true true = refl

pub or_bits : (a b : Bool) → applied Or Bit (number_of a) (number_of b) ≡ number_of (a || b)
or_bits false false = refl
or_bits false true = refl
or_bits true false = refl
or_bits true true = refl

-- ---- the tests

module _ (kind : Elementary) (t : ℕ) (x : State) where
  label_test-fault : (l : TypedLabel) → faults no_callees 0 (label_test kind t l) x ≡ false
  label_test-fault (Single k) = refl
  label_test-fault (Span r) = refl

  any_faults-or_tests : (rs : List TypedLabel) → any_faults no_callees 0 (operands_of (map (or_test kind t) rs)) x ≡ false
  any_faults-or_tests [] = refl
  any_faults-or_tests (r ∷ rs) = rw (label_test-fault r, any_faults-or_tests rs)

  pub labels_test-fault : (rs : List TypedLabel) → faults no_callees 0 (labels_test kind t rs) x ≡ false
  labels_test-fault [] = refl
  labels_test-fault (r ∷ []) = label_test-fault r
  labels_test-fault (r ∷ more ∷ rs) = rw (label_test-fault r) (any_faults-or_tests (more ∷ rs))

  module _ (v : ℤ) (held : slice_index_or x t (pos 0) ≡ v) where
    label_test-value : (l : TypedLabel) → value_of no_callees 0 (label_test kind t l) x ≡ number_of (is_named v l)
    label_test-value (Single k) = rw (zero-add t, held, wrapped (int_eq v k))
    label_test-value (Span r) = rw (zero-add t, held, wrapped (int_le r.low v), wrapped (int_le v r.high)) (and_bits (int_le r.low v) (int_le v r.high))

    value_on-or_tests : (b : Bool) (rs : List TypedLabel) → value_on no_callees 0 (number_of b) (operands_of (map (or_test kind t) rs)) x ≡ number_of (b || is_labelled v rs)
    value_on-or_tests true [] = refl
    value_on-or_tests false [] = refl
    value_on-or_tests b (r ∷ rs) = rw (label_test-value r, or_bits b (is_named v r)) (rw (value_on-or_tests (b || is_named v r) rs, or_assoc b (is_named v r) (is_labelled v rs)))

    pub labels_test-value : (rs : List TypedLabel) → value_of no_callees 0 (labels_test kind t rs) x ≡ number_of (is_labelled v rs)
    labels_test-value [] = refl
    labels_test-value (r ∷ []) = rw (label_test-value r) (only (is_named v r))
      where
        only : (b : Bool) → number_of b ≡ number_of (b || false)
        only true = refl
        only false = refl
    labels_test-value (r ∷ more ∷ rs) = rw (label_test-value r) (value_on-or_tests (is_named v r) (more ∷ rs))
