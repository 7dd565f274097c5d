-- The transitions that fire, by those before each.
use Rattle.std.proofs.Common.{◌≡◌, ℕ, Bool, false, List, [], ◌∷◌, ◌++◌, refl, ap, ◌∙◌, ℤ, sym}
use Rattle.std.specs.Prelude.{◌&&◌, ◌||◌, not, filter, if◌then◌else◌}
use Rattle.std.specs.List.{list_all}
use Rattle.std.proofs.Math.Bool.{or-false}
use Rattle.program_tree.specs.Tree.{TransitionData}
use Rattle.meaning.specs.Charts.{Marking, is_on, is_among, is_exited, may_fire, evaluated}
use Rattle.meaning.specs.Laws.{TransitionsFireInTurn}
use Rattle.meaning.proofs.Cases.{by_test, or-swap}

list_all-same : (p q : ℕ → Bool) → ((i : ℕ) → p i ≡ q i) → (is : List ℕ) → list_all p is ≡ list_all q is
list_all-same p q e [] = refl
list_all-same p q e (i ∷ is) =
    let r = list_all-same p q e is in
    ap (λ b. b && list_all p is) (e i) ∙ ap (λ b. q i && b) r

-- all FROM steps are active, and no transition of the two lists left one
abbrev pub may_next : List ℤ → List TransitionData → List TransitionData → TransitionData → Bool
may_next x acc before t = list_all (λ i. is_on x i && not (is_exited acc i || is_exited before i)) t.from

-- those of some transitions that fire, once others fired
abbrev chosen : Marking → (TransitionData → Bool) → List TransitionData → List TransitionData → List TransitionData
chosen x holds earlier ts = filter holds (evaluated x holds earlier ts)

fired-last : (x : List ℤ) (holds : TransitionData → Bool) (acc ts : List TransitionData) (t : TransitionData) →
    chosen x holds acc (ts ++ (t ∷ [])) ≡ chosen x holds acc ts ++ (if may_next x acc (chosen x holds acc ts) t && holds t then t ∷ [] else [])
fired-last x holds acc [] t =
    let e : may_fire x acc t ≡ may_next x acc [] t = list_all-same (λ i. is_on x i && not (is_exited acc i)) (λ i. is_on x i && not (is_exited acc i || false)) (λ i. ap (λ b. is_on x i && not b) (sym (or-false (is_exited acc i)))) t.from in
    by_test (may_next x acc [] t)
    (λ o. by_test (holds t) (λ h. rw (e, o, h) refl) (λ h. rw (e, o, h) refl))
    (λ o. rw (e, o) refl)
fired-last x holds acc (u ∷ ts) t =
    by_test (may_fire x acc u)
    (λ m. by_test (holds u)
    (λ h. let f = chosen x holds (u ∷ acc) ts in
    let e : may_next x (u ∷ acc) f t ≡ may_next x acc (u ∷ f) t = list_all-same (λ i. is_on x i && not (is_exited (u ∷ acc) i || is_exited f i)) (λ i. is_on x i && not (is_exited acc i || is_exited (u ∷ f) i)) (λ i. ap (λ b. is_on x i && not b) (sym (or-swap (is_exited acc i) (is_among i u.from) (is_exited f i)))) t.from in
    rw (m, h) (ap (λ q. u ∷ q) (fired-last x holds (u ∷ acc) ts t ∙ ap (λ b. f ++ (if b && holds t then t ∷ [] else [])) e)))
    (λ h. rw (m, h) (fired-last x holds acc ts t)))
    (λ m. rw m (fired-last x holds acc ts t))

pub fires_in_turn : TransitionsFireInTurn
fires_in_turn x holds before t = fired-last x holds [] before t
