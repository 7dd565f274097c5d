-- Logs that grow at their end, and what an accepted step gives.
use Rattle.std.proofs.Common.{◌≡◌, ◌≢◌, ℕ, Bool, true, false, List, [], ◌∷◌, ◌++◌, refl, sym, ◌∙◌, subst, append_assoc}
use Rattle.std.proofs.lemmas.Bool.{false≢true, and_from, false_from_ne_true}
use Rattle.std.proofs.lemmas.List.Folds.{list_all-append}
use Rattle.clause_core.specs.declared.literal.Lit.{Lit}
use Rattle.clause_core.specs.declared.step.Step.{Step}
use Rattle.clause_core.specs.declared.check.Outcome.{Outcome}
use Rattle.clause_core.specs.declared.check.Outcome.TheVariants.{Accepted, UnknownHint, NotUnit, NoConflict}
use Rattle.clause_core.specs.Steps.{outcome}
use Rattle.clause_core.specs.Freshness.{IsFresh}
use Rattle.clause_core.specs.Logs.{AreAccepted, AreFresh, with_steps}
use Rattle.clause_core.specs.Satisfaction.{Satisfies, HasNoSolution, clause_true, formula_true}
use Rattle.clause_core.proofs.Sound.{clause_true-accepted}
use Rattle.derivation_check.specs.Checks.{Derivation, held_of}
use Rattle.judgement.specs.Steps.{is_accepted, accepts, is_empty, with_derived}
use Rattle.judgement.specs.Known.{Implies}

pub is_accepted-true : (o : Outcome) → is_accepted o ≡ true → o ≡ Accepted
is_accepted-true Accepted h = refl
is_accepted-true (UnknownHint n) h = absurd (false≢true h)
is_accepted-true (NotUnit n) h = absurd (false≢true h)
is_accepted-true NoConflict h = absurd (false≢true h)

pub held_of-with_derived : (d : Derivation) (clause : List Lit) → held_of d ++ clause ∷ [] ≡ held_of (with_derived d clause)
held_of-with_derived d clause = append_assoc d.formula.clauses d.derived (clause ∷ [])

step_true : (d : Derivation) (step : Step) → accepts d step ≡ true → (v : ℕ → Bool) → Satisfies v (held_of d) → clause_true v step.clause ≡ true
step_true d step ok v sat = clause_true-accepted d.formula.variables (held_of d) step.clause step.hints (is_accepted-true _ ok) v sat

one_more : (v : ℕ → Bool) (held : List (List Lit)) (clause : List Lit) → Satisfies v held → clause_true v clause ≡ true → Satisfies v (held ++ clause ∷ [])
one_more v held clause sat is =
    list_all-append (clause_true v) held (clause ∷ []) ∙ and_from (formula_true v held) (formula_true v (clause ∷ [])) sat (and_from (clause_true v clause) true is refl)

pub Implies-with_derived : (d : Derivation) (step : Step) → Implies d.formula.clauses (held_of d) → accepts d step ≡ true
    → Implies d.formula.clauses (held_of (with_derived d step.clause))
Implies-with_derived d step implies ok v sat =
    subst (Satisfies v) (held_of-with_derived d step.clause) (one_more v (held_of d) step.clause (implies v sat) (step_true d step ok v (implies v sat)))

nothing_true : (v : ℕ → Bool) (clause : List Lit) → is_empty clause ≡ true → clause_true v clause ≡ true → ⊥
nothing_true v [] e h = false≢true h
nothing_true v (l ∷ ls) e h = false≢true e

-- where an empty clause is accepted, nothing satisfies the formula
pub HasNoSolution-empty : (d : Derivation) (step : Step) → Implies d.formula.clauses (held_of d) → accepts d step ≡ true → is_empty step.clause ≡ true
    → HasNoSolution d.formula.clauses
HasNoSolution-empty d step implies ok empty v =
    false_from_ne_true (formula_true v d.formula.clauses) (λ sat. nothing_true v step.clause empty (step_true d step ok v (implies v sat)))

pub not_empty : (clause : List Lit) → is_empty clause ≡ false → clause ≢ []
not_empty [] h e = false≢true (sym h)
not_empty (l ∷ ls) h e = cc

pub with_steps-append : (held : List (List Lit)) (log : List Step) (step : Step) → with_steps held (log ++ step ∷ []) ≡ with_steps held log ++ step.clause ∷ []
with_steps-append held [] step = refl
with_steps-append held (s ∷ more) step = with_steps-append (held ++ s.clause ∷ []) more step

pub AreAccepted-append : (variables : ℕ) (held : List (List Lit)) (log : List Step) (step : Step) → AreAccepted variables held log
    → outcome variables (with_steps held log) step.clause step.hints ≡ Accepted → AreAccepted variables held (log ++ step ∷ [])
AreAccepted-append variables held [] step a ok = (ok, tt)
AreAccepted-append variables held (s ∷ more) step a ok = (a.0, AreAccepted-append variables (held ++ s.clause ∷ []) more step a.1 ok)

pub AreFresh-append : (held : List (List Lit)) (log : List Step) (step : Step) → AreFresh held log → IsFresh (with_steps held log) step.clause → step.clause ≢ []
    → AreFresh held (log ++ step ∷ [])
AreFresh-append held [] step a fresh some = ((fresh, some), tt)
AreFresh-append held (s ∷ more) step a fresh some = (a.0, AreFresh-append (held ++ s.clause ∷ []) more step a.1 fresh some)
