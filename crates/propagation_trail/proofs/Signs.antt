-- Ranks of literals, and their values.
use Rattle.std.proofs.Common.{◌≡◌, ◌≢◌, ◌⊎◌, ℕ, ◌<◌, ◌≤◌, ◌+◌, ◌-◌, ◌*◌, ◌/◌, ◌%◌, ◌^◌, Bool, true, false, not, cond, eqb, List, [], ◌∷◌, ◌++◌, map, length, get_or, set, refl, sym, ◌∙◌, ap, subst, inl, inr, arith}
use Rattle.std.specs.List.{All}
use Rattle.std.proofs.lemmas.Bool.{eq-eqb, ne_eqb, eqb-true, eqb-false, cases_lt}
use Rattle.std.proofs.lemmas.List.{get_or-set_same, get_or-set_other, get_or_past, map_push}
use Rattle.clause_core.specs.declared.literal.Lit.{Lit}
use Rattle.clause_core.specs.declared.truth.Truth.{Truth}
use Rattle.clause_core.specs.declared.truth.Truth.TheVariants.{Open, True, False}
use Rattle.clause_core.specs.Values.{value, signed_truth, opposite}
use Rattle.clause_core.specs.Clauses.{rank}
use Rattle.propagation_trail.specs.Codes.{literal_of, negated, truth, put}

pub negated-half : (r : ℕ) → negated r / 2 ≡ r / 2
negated-half r = omega arith

pub negated-negated : (r : ℕ) → negated (negated r) ≡ r
negated-negated r = omega arith

pub negated≢ : (r : ℕ) → negated r ≡ r → ⊥
negated≢ r e = omega arith

pub same_half : (a b : ℕ) → a / 2 ≡ b / 2 → (a ≡ b → ⊥) → a ≡ negated b
same_half a b e n = omega arith

signed-not : (b : Bool) (t : Truth) → signed_truth (not b) t ≡ opposite (signed_truth b t)
signed-not false t = refl
signed-not true Open = refl
signed-not true True = refl
signed-not true False = refl

signed-twice : (b : Bool) (t : Truth) → signed_truth b (signed_truth b t) ≡ t
signed-twice false t = refl
signed-twice true Open = refl
signed-twice true True = refl
signed-twice true False = refl

signed-open : (b : Bool) → signed_truth b Open ≡ Open
signed-open true = refl
signed-open false = refl

open-signed : (b : Bool) (t : Truth) → signed_truth b t ≡ Open → t ≡ Open
open-signed false t h = h
open-signed true Open h = refl
open-signed true True h = cc
open-signed true False h = cc

odd-negated : (r : ℕ) (b : Bool) → eqb (r % 2) 1 ≡ b → eqb (negated r % 2) 1 ≡ not b
odd-negated r true e = let odd : r % 2 ≡ 1 = eqb-true (r % 2) 1 e in ne_eqb (negated r % 2) 1 (λ k. absurd (omega arith))
odd-negated r false e = let even : r % 2 ≡ 1 → ⊥ = eqb-false (r % 2) 1 e in eq-eqb (negated r % 2) 1 (omega arith)

pub truth-negated : (vs : List Truth) (r : ℕ) → truth vs (negated r) ≡ opposite (truth vs r)
truth-negated vs r =
    ap (λ b. signed_truth b (get_or vs (negated r / 2) Open)) (odd-negated r (eqb (r % 2) 1) refl)
    ∙ ap (λ i. signed_truth (not (eqb (r % 2) 1)) (get_or vs i Open)) (negated-half r)
    ∙ signed-not (eqb (r % 2) 1) (get_or vs (r / 2) Open)

pub truth-put : (vs : List Truth) (c : ℕ) (t : Truth) → c < 2 * length vs → truth (put vs c t) c ≡ t
truth-put vs c t lt =
    let b = eqb (c % 2) 1 in
    ap (signed_truth b) (get_or-set_same vs (c / 2) (signed_truth b t) Open (omega arith)) ∙ signed-twice b t

pub truth-put_other : (vs : List Truth) (c r : ℕ) (t : Truth) → r / 2 ≢ c / 2 → truth (put vs c t) r ≡ truth vs r
truth-put_other vs c r t ne = ap (signed_truth (eqb (r % 2) 1)) (get_or-set_other vs (c / 2) (r / 2) (signed_truth (eqb (c % 2) 1) t) Open ne)

pub open-half : (vs : List Truth) (a b : ℕ) → truth vs b ≡ Open → a / 2 ≡ b / 2 → truth vs a ≡ Open
open-half vs a b o e =
    let variable : get_or vs (b / 2) Open ≡ Open = open-signed (eqb (b % 2) 1) (get_or vs (b / 2) Open) o in
    ap (λ i. signed_truth (eqb (a % 2) 1) (get_or vs i Open)) e ∙ ap (signed_truth (eqb (a % 2) 1)) variable ∙ signed-open (eqb (a % 2) 1)

pub open-past : (vs : List Truth) (c : ℕ) → length vs ≤ c / 2 → truth vs c ≡ Open
open-past vs c le = ap (signed_truth (eqb (c % 2) 1)) (get_or_past vs (c / 2) Open le) ∙ signed-open (eqb (c % 2) 1)

pub within-true : (vs : List Truth) (c : ℕ) → truth vs c ≡ True → c < 2 * length vs
within-true vs c h = by_cases (cases_lt (c / 2) (length vs))
  where
    by_cases : (c / 2 < length vs) ⊎ (length vs ≤ c / 2) → c < 2 * length vs
    by_cases (inl lt) = omega arith
    by_cases (inr le) = let o = open-past vs c le in cc
