-- One more association of a step, and one more step of a chart.
use Rattle.std.proofs.Common.{◌≡◌, ℕ, ◌+◌, List, [], ◌∷◌, ◌++◌, length, if◌then◌else◌, sym, ap, ◌∙◌, add-zero, zero-add, arith}
use Rattle.std.proofs.lemmas.List.{append_assoc, append-nil}
use Rattle.std.specs.Str.{bytes_eq}
use Rattle.program_tree.specs.declared.typed.Association.{Association}
use Rattle.source_tree.specs.Syntax.{StepActionData, ChartStepData}
use Rattle.naming.specs.ChartWords.{qualifier_of}
use Rattle.sfc_shape.specs.Shapes.{association_with, associated, associated_from}

abbrev own : List ℕ → ℕ → StepActionData → List Association
own text i a = if bytes_eq a.action.text text then association_with i (qualifier_of a) else []

more : (text : List ℕ) (i : ℕ) (xs : List StepActionData) (a : StepActionData) → associated text i (xs ++ a ∷ []) ≡ associated text i xs ++ own text i a
more text i [] a = append-nil (own text i a)
more text i (x ∷ xs) a = ap (λ rest. own text i x ++ rest) (more text i xs a) ∙ sym (append_assoc (own text i x) (associated text i xs) (own text i a))

pub associated-push : (text : List ℕ) (i : ℕ) (xs : List StepActionData) (a : StepActionData) (old mid new : List Association) → mid ≡ old ++ associated text i xs → new ≡ mid ++ own text i a
    → new ≡ old ++ associated text i (xs ++ a ∷ [])
associated-push text i xs a old mid new so now = now ∙ ap (λ l. l ++ own text i a) so ∙ append_assoc old (associated text i xs) (own text i a) ∙ ap (λ l. old ++ l) (sym (more text i xs a))

more_from : (text : List ℕ) (k : ℕ) (xs : List ChartStepData) (s : ChartStepData) → associated_from text k (xs ++ s ∷ []) ≡ associated_from text k xs ++ associated text (k + length xs) s.actions
more_from text k [] s = append-nil (associated text k s.actions) ∙ ap (λ n. associated text n s.actions) (sym (add-zero k))
more_from text k (x ∷ xs) s =
    let number : k + 1 + length xs ≡ k + length (x ∷ xs) = omega arith in
    ap (λ rest. associated text k x.actions ++ rest) (more_from text (k + 1) xs s ∙ ap (λ n. associated_from text (k + 1) xs ++ associated text n s.actions) number)
    ∙ sym (append_assoc (associated text k x.actions) (associated_from text (k + 1) xs) (associated text (k + length (x ∷ xs)) s.actions))

pub associated_from-push : (text : List ℕ) (xs : List ChartStepData) (s : ChartStepData) (i : ℕ) (old new : List Association) → length xs ≡ i → old ≡ associated_from text 0 xs → new ≡ old ++ associated text i s.actions
    → new ≡ associated_from text 0 (xs ++ s ∷ [])
associated_from-push text xs s i old new number so now =
    now ∙ ap (λ l. l ++ associated text i s.actions) so ∙ ap (λ n. associated_from text 0 xs ++ associated text n s.actions) (sym number) ∙ ap (λ n. associated_from text 0 xs ++ associated text n s.actions) (sym (zero-add (length xs))) ∙ sym (more_from text 0 xs s)
