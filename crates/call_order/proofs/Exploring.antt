-- What is marked while the uses of numbers are followed.
use Rattle.std.proofs.Common.{◌≡◌, ℕ, ◌<◌, ◌≤◌, Bool, true, false, List, [], ◌∷◌, ◌++◌, length, replicate, ◌↔◌, refl, arith, ◌∙◌, sym, subst, ◌⊎◌, inl, inr, ⊎_elim}
use Rattle.std.proofs.lemmas.Bool.{cases_Bool, false_from_ne_true, or_cases, or_left, or_right, or_parts, and_parts, and_from, not_from_false, both_ways, lt-ltb, cases_lt, cases_eq}
use Rattle.std.proofs.lemmas.List.{get_or_past, get_or-replicate, length-replicate}
use Rattle.call_order.specs.Uses.{Graph, uses_at, is_among, Reaches, directly, through}
use Rattle.call_order.specs.Marks.{is_marked, GetMarks}
use Rattle.call_order.specs.Parts.{IsReached}
use Rattle.call_order.proofs.Members.{is_among-left, is_among-right, is_among-head, is_among-cases, is_among-either}
use Rattle.call_order.proofs.Orders.{begins}
use Rattle.call_order.proofs.Circles.{reaches-step}

-- what is marked is reached, and but for what waits, the uses of what is marked are marked
pub record Explores (g : Graph) (starts : List ℕ) (marks : List Bool) (waiting : List ℕ) : Type 0 where
  pub size : length marks ≡ length g
  pub reached : (k : ℕ) → is_marked marks k ≡ true → IsReached g starts k
  pub waits : (k : ℕ) → is_among k waiting ≡ true → is_marked marks k ≡ true
  pub closed : (k used : ℕ) → is_marked marks k ≡ true → is_among k waiting ≡ false → is_among used (uses_at g k) ≡ true → used < length g → is_marked marks used ≡ true
  pub begun : (used : ℕ) → is_among used starts ≡ true → used < length g → is_marked marks used ≡ true

-- what has a mark is below the length
pub below-from_mark : (marks : List Bool) (k : ℕ) → is_marked marks k ≡ true → k < length marks
below-from_mark marks k h =
    ⊎_elim (λ (below : k < length marks). below)
    (λ (past : length marks ≤ k). absurd (both_ways _ (get_or_past marks k false past) h))
    (cases_lt k (length marks))

-- numbers below the length are marked, and what was marked stays so
got : (numbers : List ℕ) (old new : List Bool) (waited waiting : List ℕ) → GetMarks numbers old new waited waiting → (k : ℕ) → k < length old → is_among k numbers ≡ true → is_marked new k ≡ true
got numbers old new waited waiting is k below m = is.marks k ∙ or_right _ _ (and_from _ _ (lt-ltb k (length old) below) m)

kept : (numbers : List ℕ) (old new : List Bool) (waited waiting : List ℕ) → GetMarks numbers old new waited waiting → (k : ℕ) → is_marked old k ≡ true → is_marked new k ≡ true
kept numbers old new waited waiting is k h = is.marks k ∙ or_left _ _ h

-- what is marked was marked, or is one of the numbers
was : (numbers : List ℕ) (old new : List Bool) (waited waiting : List ℕ) → GetMarks numbers old new waited waiting → (k : ℕ) → is_marked new k ≡ true → (is_marked old k ≡ true) ⊎ (is_among k numbers ≡ true)
was numbers old new waited waiting is k h = ⊎_elim (λ o. inl o) (λ n. inr ((and_parts _ _ n).1)) (or_cases _ _ (sym (is.marks k) ∙ h))

-- what waits is marked
waits_marked : (numbers : List ℕ) (old new : List Bool) (waited waiting : List ℕ) → GetMarks numbers old new waited waiting → (k : ℕ) → is_among k waiting ≡ true → (is_among k waited ≡ true) ⊎ (is_marked new k ≡ true)
waits_marked numbers old new waited waiting is k h = ⊎_elim (λ o. inl o) (λ n. inr ((and_parts _ _ n).0)) (or_cases _ _ (sym (is.waits k) ∙ h))

-- what does not wait waited not, and was marked if it is
settled : (numbers : List ℕ) (old new : List Bool) (waited waiting : List ℕ) → GetMarks numbers old new waited waiting → (k : ℕ) → is_marked new k ≡ true → is_among k waiting ≡ false → (is_among k waited ≡ false) × (is_marked old k ≡ true)
settled numbers old new waited waiting is k h out =
    let p = or_parts _ _ (sym (is.waits k) ∙ out) in
    (p.0, ⊎_elim (λ there. there) (λ gone. absurd (both_ways _ p.1 (and_from _ _ h (not_from_false _ gone)))) (cases_Bool (is_marked old k)))

-- what is neither the last nor among the rest is not among both
apart : (k number : ℕ) (rest : List ℕ) → (k ≡ number → ⊥) → is_among k rest ≡ false → is_among k (rest ++ number ∷ []) ≡ false
apart k number rest other out =
    false_from_ne_true _ (λ h. ⊎_elim (λ r. both_ways _ out r) (λ last. ⊎_elim other (λ none. cc) (is_among-cases k number [] last)) (is_among-either k rest (number ∷ []) h))

no_marks : (n k : ℕ) → is_marked (replicate n false) k ≡ false
no_marks n k =
    ⊎_elim (λ (below : k < n). get_or-replicate n k false false below)
    (λ (past : n ≤ k). get_or_past (replicate n false) k false (omega (arith, length-replicate n false)))
    (cases_lt k n)

-- what a reached number uses is reached
reached-step : (g : Graph) (starts : List ℕ) (b c : ℕ) → IsReached g starts b → is_among c (uses_at g b) ≡ true → IsReached g starts c
reached-step g starts b c (inl there) used = inr (b, there, directly b c used)
reached-step g starts b c (inr way) used = inr (way.0, way.1, reaches-step g way.0 b c way.2 used)

-- at first the starts are marked
pub explores-begun : (g : Graph) (starts : List ℕ) (marks : List Bool) (waiting : List ℕ) → GetMarks starts (replicate (length g) false) marks [] waiting → Explores g starts marks waiting
explores-begun g starts marks waiting is =
    let n = length g in
    let size : length marks ≡ length g = is.size ∙ length-replicate (length g) false in
    record {
      size = size;
      reached = λ k h. ⊎_elim (λ o. absurd (both_ways _ (no_marks (length g) k) o)) (λ m. inl m) (was _ _ _ _ _ is k h);
      waits = λ k h. ⊎_elim (λ o. cc) (λ m. m) (waits_marked _ _ _ _ _ is k h);
      closed = λ k used h out u below. absurd (both_ways _ (no_marks (length g) k) ((settled _ _ _ _ _ is k h out).1));
      begun = λ used u below. got _ _ _ _ _ is used (let l = length-replicate (length g) false in omega arith) u;
    }

-- the uses of one that waited are marked
pub explores-more : (g : Graph) (starts : List ℕ) (number : ℕ) (old new : List Bool) (rest waiting : List ℕ) → Explores g starts old (rest ++ number ∷ []) → GetMarks (uses_at g number) old new rest waiting → Explores g starts new waiting
explores-more g starts number old new rest waiting was_so is =
    let marked : is_marked old number ≡ true = was_so.waits number (is_among-right number rest (number ∷ []) (is_among-head number [])) in
    record {
      size = is.size ∙ was_so.size;
      reached = λ k h. ⊎_elim (λ o. was_so.reached k o) (λ m. reached-step g starts number k (was_so.reached number marked) m) (was _ _ _ _ _ is k h);
      waits = λ k h. ⊎_elim (λ o. kept _ _ _ _ _ is k (was_so.waits k (is_among-left k rest (number ∷ []) o))) (λ m. m) (waits_marked _ _ _ _ _ is k h);
      closed = λ k used h out u below.
          let p = settled _ _ _ _ _ is k h out in
          ⊎_elim (λ (e : k ≡ number). got _ _ _ _ _ is used (let s = was_so.size in omega arith) (subst (λ (x : ℕ). is_among used (uses_at g x) ≡ true) e u))
          (λ other. kept _ _ _ _ _ is used (was_so.closed k used p.1 (apart k number rest other p.0) u below))
          (cases_eq k number);
      begun = λ used u below. kept _ _ _ _ _ is used (was_so.begun used u below);
    }

-- in the end what is reached is marked
closed_reach : (g : Graph) (starts : List ℕ) (marks : List Bool) → Explores g starts marks [] → (a b : ℕ) → Reaches g a b → is_marked marks a ≡ true → b < length g → is_marked marks b ≡ true
closed_reach g starts marks is a b (directly _ _ u) from below = is.closed a b from refl u below
closed_reach g starts marks is a b (through _ c _ u r) from below =
    closed_reach g starts marks is c b r (is.closed a c from refl u (begins g c b r)) below

pub explored : (g : Graph) (starts : List ℕ) (marks : List Bool) → Explores g starts marks [] → (k : ℕ) → k < length g → (is_marked marks k ≡ true) ↔ IsReached g starts k
explored g starts marks is k below = (
  is.reached k,
  λ r. elim r as (λ _. is_marked marks k ≡ true) [
    | inl there ↦ is.begun k there below
    | inr way ↦ closed_reach g starts marks is way.0 k way.2 (is.begun way.0 way.1 (begins g way.0 k way.2)) below
  ],
)
