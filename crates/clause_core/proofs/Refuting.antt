-- A formula that a log refutes has no solution.
use Rattle.std.proofs.Common.{◌≡◌, ℕ, Bool, true, false, List, [], ◌∷◌, ◌++◌, ◌-◌, length, sym, ◌∙◌, ap, subst}
use Rattle.std.proofs.lemmas.Bool.{false≢true, false_from_ne_true}
use Rattle.clause_core.specs.declared.literal.Lit.{Lit}
use Rattle.clause_core.specs.declared.step.Step.{Step}
use Rattle.clause_core.specs.declared.log.Entry.{Entry}
use Rattle.clause_core.specs.declared.log.Entry.TheVariants.{Derived, Deleted}
use Rattle.clause_core.specs.Satisfaction.{clause_true, formula_true}
use Rattle.clause_core.specs.Deletions.{always}
use Rattle.clause_core.specs.Logs.{AcceptsLog, Refutes}
use Rattle.clause_core.proofs.Always.{clause_true-always}
use Rattle.clause_core.proofs.Ranges.{list_all-push, list_all-set}
use Rattle.clause_core.proofs.Sound.{clause_true-accepted}

never : (variables given : ℕ) (v : ℕ → Bool) (held : List (List Lit)) (front : List Entry) (last : Step) → AcceptsLog variables given held (front ++ Derived last ∷ []) → last.clause ≡ [] → formula_true v held ≡ true → ⊥
never variables given v held [] last a e f =
    false≢true (sym (ap (clause_true v) e) ∙ clause_true-accepted variables held last.clause last.hints a.0 v f)
never variables given v held (Derived s ∷ es) last a e f =
    never variables given v (held ++ s.clause ∷ []) es last a.1 e
    (list_all-push (clause_true v) held s.clause f (clause_true-accepted variables held s.clause s.hints a.0 v f))
never variables given v held (Deleted n ∷ es) last a e f =
    never variables given v _ es last a.1 e (list_all-set (clause_true v) held (n - 1) always f (clause_true-always v))

pub no_solution : (variables : ℕ) (formula : List (List Lit)) (log : List Entry) → Refutes variables formula log → (v : ℕ → Bool) → formula_true v formula ≡ false
no_solution variables formula log r v =
    false_from_ne_true (formula_true v formula) (λ f. never variables (length formula) v formula r.empty.0 r.empty.1 (subst (AcceptsLog variables (length formula) formula) r.empty.2 r.accepted) r.empty.3 f)
