-- What stays true of a checker when an accepted step's clause is held too.
use Rattle.std.proofs.Common.{◌≡◌, ℕ, zero, suc, ◌<◌, ◌≤◌, ◌+◌, Bool, true, false, ◌||◌, List, [], ◌∷◌, ◌++◌, length, take, drop, get_or, replicate, refl, sym, ◌∙◌, ap, subst, arith, length-append}
use Rattle.std.specs.List.{list_any, Contains}
use Rattle.std.proofs.lemmas.Bool.{false≢true, and_parts, false_from_ne_true}
use Rattle.std.proofs.lemmas.List.{take-append-le, drop-append-le, length-replicate}
use Rattle.clause_core.specs.declared.literal.Lit.{Lit}
use Rattle.clause_core.specs.declared.truth.Truth.{Truth}
use Rattle.clause_core.specs.declared.truth.Truth.TheVariants.{Open}
use Rattle.clause_core.specs.declared.check.Outcome.{Outcome}
use Rattle.clause_core.specs.declared.check.Outcome.TheVariants.{Accepted}
use Rattle.clause_core.specs.Satisfaction.{formula_true, clause_true}
use Rattle.clause_core.specs.Steps.{follow_hints, assume_false, outcome}
use Rattle.clause_core.proofs.Ranges.{list_all-push, list_any-push}
use Rattle.clause_core.proofs.Sound.{clause_true-accepted}
use Rattle.derivation_check.specs.Inside.{is_empty}

pub open-length : (variables : ℕ) (vs : List Truth) → vs ≡ replicate (variables + 1) Open → length vs ≡ variables + 1
open-length variables vs e = ap length e ∙ length-replicate (variables + 1) Open

-- what a checker keeps of the first `given` clauses and those that are held
pub record Pushed (given : ℕ) (held' : List (List Lit)) (now : Bool) : Type 0 where
  pub few : given ≤ length held'
  pub implied : (v : ℕ → Bool) → formula_true v (take given held') ≡ true → formula_true v held' ≡ true
  pub refuted : now ≡ list_any is_empty (drop given held')

pub Pushed-accepted : (variables given : ℕ) (held held' : List (List Lit)) (was now : Bool) (c : List Lit) (hs : List ℕ) → Pushed given held was → held' ≡ held ++ c ∷ [] → outcome variables held c hs ≡ Accepted → now ≡ (was || is_empty c) → Pushed given held' now
Pushed-accepted variables given held held' was now c hs p e acc n =
    let g = p.few in
    subst (λ h. Pushed given h now) (sym e)
    (record {
      few = omega (arith, length-append held (c ∷ []));
      implied = λ v f.
          let all : formula_true v held ≡ true = p.implied v (rw take-append-le at f) in
          list_all-push (clause_true v) held c all (clause_true-accepted variables held c hs acc v all);
      refuted = n ∙ ap (λ z. z || is_empty c) p.refuted ∙ sym (list_any-push is_empty (drop given held) c) ∙ ap (list_any is_empty) (sym (drop-append-le given held (c ∷ []) g));
    })

none_empty : (v : ℕ → Bool) (f : List (List Lit)) → formula_true v f ≡ true → list_any is_empty f ≡ true → ⊥
none_empty v [] t h = false≢true h
none_empty v ([] ∷ cs) t h = false≢true t
none_empty v ((l ∷ ls) ∷ cs) t h = none_empty v cs (and_parts (clause_true v (l ∷ ls)) (formula_true v cs) t).1 h

formula_true-drop : (v : ℕ → Bool) (n : ℕ) (f : List (List Lit)) → formula_true v f ≡ true → formula_true v (drop n f) ≡ true
formula_true-drop v zero f t = t
formula_true-drop v (suc n) [] t = t
formula_true-drop v (suc n) (c ∷ cs) t = formula_true-drop v n cs (and_parts (clause_true v c) (formula_true v cs) t).1

pub no_solution : (given : ℕ) (held : List (List Lit)) → ((v : ℕ → Bool) → formula_true v (take given held) ≡ true → formula_true v held ≡ true) → list_any is_empty (drop given held) ≡ true → (v : ℕ → Bool) → formula_true v (take given held) ≡ false
no_solution given held i h v =
    false_from_ne_true (formula_true v (take given held)) (λ t. none_empty v (drop given held) (formula_true-drop v given held (i v t)) h)

-- an empty clause is among them
pub contains-empty : (f : List (List Lit)) → list_any is_empty f ≡ true → Contains f []
contains-empty [] h = absurd (false≢true h)
contains-empty ([] ∷ cs) h = (0, omega arith, refl)
contains-empty ((l ∷ ls) ∷ cs) h = let r = contains-empty cs h in (suc r.0, omega (arith, r.1), r.2)

has-empty : (f : List (List Lit)) (i : ℕ) → i < length f → get_or f i [] ≡ [] → list_any is_empty f ≡ true
has-empty [] i lt e = absurd (omega arith)
has-empty ([] ∷ cs) i lt e = refl
has-empty ((l ∷ ls) ∷ cs) zero lt e = cc
has-empty ((l ∷ ls) ∷ cs) (suc i) lt e = has-empty cs i (omega arith) e

pub any-empty : (f : List (List Lit)) → Contains f [] → list_any is_empty f ≡ true
any-empty f h = has-empty f h.0 h.1 h.2

pub outcome-parts : (variables : ℕ) (held held' : List (List Lit)) (values : List Truth) (clause clause' : List Lit) (hints hints' : List ℕ) (end : Outcome) → end ≡ follow_hints held' (assume_false values clause') hints' → end ≡ Accepted → held' ≡ held → values ≡ replicate (variables + 1) Open → clause' ≡ clause → hints' ≡ hints → outcome variables held clause hints ≡ Accepted
outcome-parts variables held held' values clause clause' hints hints' end e a h v k n = cc
