-- The tests of labels are BOOLs.
use Rattle.std.proofs.Common.{◌≡◌, ℕ, List, [], ◌∷◌, map, refl}
use Rattle.std.specs.Prelude.{All}
use Rattle.std.proofs.lemmas.List.Elements.{All-head, All-tail}
use Rattle.plc_types.specs.declared.elementary.Elementary.{Elementary}
use Rattle.plc_types.specs.declared.elementary.Elementary.TheVariants as types
use Rattle.program_tree.specs.declared.typed.TypedLabel.{TypedLabel}
use Rattle.program_tree.specs.declared.typed.TypedLabel.TheVariants.{Single, Span}
use Rattle.program_tree.specs.View.{operands_of}
use Rattle.program_tree.specs.declared.scratch.Scratch.{Scratch}
use Rattle.program_tree.specs.Places.{place_at}
use Rattle.flat_form.specs.FlatLists.{label_test, or_test, labels_test}
use Rattle.node_core.specs.TypedFlats.{IsOf, Join}
use Rattle.typed_programs.specs.Statements.{IsLabelOf}

module _ (ps : List Scratch) (kind : Elementary) (t : ℕ) (is : (place_at ps t).kind ≡ kind) where
  label_test-is : (l : TypedLabel) → IsLabelOf kind l → IsOf ps types.Bool (label_test kind t l)
  label_test-is (Single v) h = (is, (refl, refl, h, refl))
  label_test-is (Span r) h = ((h.0, (refl, refl, is, refl)), (refl, refl, (is, (refl, refl, h.1, refl)), refl))

  or_tests-join : (ls : List TypedLabel) → All (IsLabelOf kind) ls → Join ps types.Bool types.Bool (operands_of (map (or_test kind t) ls))
  or_tests-join [] h = refl
  or_tests-join (l ∷ ls) h = (refl, refl, label_test-is l (All-head (IsLabelOf kind) l ls h), or_tests-join ls (All-tail (IsLabelOf kind) l ls h))

  pub labels_test-is : (ls : List TypedLabel) → All (IsLabelOf kind) ls → IsOf ps types.Bool (labels_test kind t ls)
  labels_test-is [] h = refl
  labels_test-is (l ∷ []) h = label_test-is l (All-head (IsLabelOf kind) l [] h)
  labels_test-is (l ∷ more ∷ ls) h = (label_test-is l (All-head (IsLabelOf kind) l (more ∷ ls) h), or_tests-join (more ∷ ls) (All-tail (IsLabelOf kind) l (more ∷ ls) h))
