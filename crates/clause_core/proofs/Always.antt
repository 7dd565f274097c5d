-- What stands where a clause is held no more is true, and neither unit nor false. A clause that is covered has a held one as a part.
use Rattle.std.proofs.Common.{◌≡◌, ◌≢◌, ℕ, zero, suc, ◌+◌, Bool, true, false, not, ◌&&◌, ◌||◌, ◌==◌, inl, inr, List, [], ◌∷◌, cond, nat_le, Some, refl, sym, ◌∙◌, ap, subst, arith}
use Rattle.std.specs.Prelude.{slice_get, slice_index_or}
use Rattle.std.specs.List.{list_any, All, Contains}
use Rattle.std.proofs.lemmas.Bool.{false≢true, cases_Bool, and_parts}
use Rattle.std.proofs.lemmas.Bool.Decides.{nat_tests}
use Rattle.std.proofs.lemmas.List.Elements.{All-nil, All-cons}
use Rattle.clause_core.specs.declared.literal.Lit.{Lit}
use Rattle.clause_core.specs.declared.truth.Truth.{Truth}
use Rattle.clause_core.specs.declared.truth.Truth.TheVariants.{Open, True, False}
use Rattle.clause_core.specs.declared.status.Status.TheVariants.{Neither}
use Rattle.clause_core.specs.Clauses.{rank}
use Rattle.clause_core.specs.Deletions.{always, is_literal, is_always, is_part, covers_from, is_covered}
use Rattle.clause_core.specs.Freshness.{unforced}
use Rattle.clause_core.specs.Satisfaction.{clause_true}
use Rattle.clause_core.specs.Steps.{clause_status, status_of_left, status_of_one}
use Rattle.clause_core.specs.Values.{opposite, is_true, is_false, is_open}
use Rattle.clause_core.proofs.Sets.{rank-same}

excluded : (b : Bool) → (b || (not b || false)) ≡ true
excluded true = refl
excluded false = refl

-- it is true under every assignment
pub clause_true-always : (v : ℕ → Bool) → clause_true v always ≡ true
clause_true-always v = excluded (v 1)

excluded_truth : (t : Truth) → ((is_true t || (is_true (opposite t) || false)) || nat_le 2 (cond (is_open t) 1 0 + (cond (is_open (opposite t)) 1 0 + 0))) ≡ true
excluded_truth Open = refl
excluded_truth True = refl
excluded_truth False = refl

-- a literal is true, or both are open
pub unforced-always : (vs : List Truth) → unforced vs always ≡ true
unforced-always vs = excluded_truth (slice_index_or vs 1 Open)

abbrev one : Lit
one = record { variable = 1; negative = false }

abbrev other : Lit
other = record { variable = 1; negative = true }

abbrev left : Truth → List Lit
left t = let rest = cond (not (is_false (opposite t))) (other ∷ []) [] in cond (not (is_false t)) (one ∷ rest) rest

neither : (vs : List Truth) (t : Truth) → slice_index_or vs 1 Open ≡ t → status_of_left vs (left (slice_index_or vs 1 Open)) ≡ Neither
neither vs Open e = ap (λ t. status_of_left vs (left t)) e
neither vs True e = ap (λ t. status_of_left vs (left t)) e ∙ ap (λ t. status_of_one t one) e
neither vs False e = ap (λ t. status_of_left vs (left t)) e ∙ ap (λ t. status_of_one (opposite t) other) e

-- so no hint may name it
pub clause_status-always : (vs : List Truth) → clause_status vs always ≡ Neither
clause_status-always vs = neither vs (slice_index_or vs 1 Open) refl

same : (a b : ℕ) → (a == b) ≡ true → a ≡ b
same a b h = grind (arith, nat_tests)

apart : (a b : ℕ) → not (a == b) ≡ true → a ≢ b
apart a b h e = absurd (grind (arith, nat_tests))

contains-literal : (l : Lit) (c : List Lit) → list_any (is_literal l) c ≡ true → Contains c l
contains-literal l [] h = absurd (false≢true h)
contains-literal l (m ∷ ms) h = elim (cases_Bool (is_literal l m)) [
  | inl is ↦ (0, omega arith, sym (rank-same l m (same (rank l) (rank m) is)))
  | inr isnt ↦
      let r = contains-literal l ms (sym (ap (λ b. b || list_any (is_literal l) ms) isnt) ∙ h) in
      (suc r.0, omega (arith, r.1), r.2)
]

-- the literals of a part are among those of the clause
pub is_part-contained : (part clause : List Lit) → is_part part clause ≡ true → All (λ l. Contains clause l) part
is_part-contained [] clause h = All-nil (λ l. Contains clause l)
is_part-contained (l ∷ ls) clause h =
    let p = and_parts (list_any (is_literal l) clause) (is_part ls clause) h in
    All-cons (λ m. Contains clause m) l ls (contains-literal l clause p.0) (is_part-contained ls clause p.1)

covers-at : (but at : ℕ) (cs : List (List Lit)) (clause : List Lit) → covers_from but at cs clause ≡ true
    → (j : ℕ) × (part : List Lit) × (at + j ≢ but) × (slice_get cs j ≡ Some part) × (is_part part clause ≡ true)
covers-at but at [] clause h = absurd (false≢true h)
covers-at but at (c ∷ cs) clause h =
    let here = not (at == but) && (not (is_always c) && is_part c clause) in
    elim (cases_Bool here) [
      | inl is ↦
          let p = and_parts (not (at == but)) (not (is_always c) && is_part c clause) is in
          let q = and_parts (not (is_always c)) (is_part c clause) p.1 in
          (0, c, (λ e. apart at but p.0 (omega (arith, e))), refl, q.1)
      | inr isnt ↦
          let r = covers-at but (suc at) cs clause (sym (ap (λ b. b || covers_from but (suc at) cs clause) isnt) ∙ h) in
          (suc r.0, r.1, (λ e. r.2 (omega (arith, e))), r.3, r.4)
    ]

-- another held clause is a part of the clause that is covered
pub is_covered-by : (held : List (List Lit)) (i : ℕ) (clause : List Lit) → is_covered held (suc i) clause ≡ true
    → (j : ℕ) × (part : List Lit) × (i ≢ j) × (slice_get held j ≡ Some part) × All (λ l. Contains clause l) part
is_covered-by held i clause h =
    let r = covers-at (suc i) 1 held clause h in
    (r.0, r.1, (λ e. r.2 (omega (arith, e))), r.3, is_part-contained r.1 clause r.4)

different : (a b : ℕ) → a ≢ b → (a == b) ≡ false
different a b ne = grind (arith, nat_tests)

or_true : (b : Bool) → (b || true) ≡ true
or_true true = refl
or_true false = refl

covers-from : (but at : ℕ) (cs : List (List Lit)) (i : ℕ) (part clause : List Lit) → slice_get cs i ≡ Some part → at + i ≢ but
    → (not (is_always part) && is_part part clause) ≡ true → covers_from but at cs clause ≡ true
covers-from but at [] i part clause is ne inside = cc
covers-from but at (c ∷ cs) zero part clause is ne inside =
    let same : c ≡ part = cc in
    let apart : (at == but) ≡ false = different at but (λ e. ne (omega (arith, e))) in
    let rest = covers_from but (suc at) cs clause in
    subst (λ p. ((not (at == but) && (not (is_always p) && is_part p clause)) || rest) ≡ true) (sym same)
    (ap (λ b. (not b && (not (is_always part) && is_part part clause)) || rest) apart ∙ ap (λ b. b || rest) inside)
covers-from but at (c ∷ cs) (suc i) part clause is ne inside =
    let here = not (at == but) && (not (is_always c) && is_part c clause) in
    ap (λ b. here || b) (covers-from but (suc at) cs i part clause is (λ e. ne (omega (arith, e))) inside) ∙ or_true here

-- a clause that is held covers those that it is a part of
pub is_covered-from : (held : List (List Lit)) (i number : ℕ) (part clause : List Lit) → slice_get held i ≡ Some part → suc i ≢ number
    → (not (is_always part) && is_part part clause) ≡ true → is_covered held number clause ≡ true
is_covered-from held i number part clause is ne inside = covers-from number 1 held i part clause is (λ e. ne (omega (arith, e))) inside
