-- Verdicts as lines and statuses.
use Rattle.std.proofs.Common.{◌≡◌, ◌≢◌, ◌∙◌, ◌∷◌, ℕ, List, refl, sym, subst}
use Rattle.finding_lines.specs.declared.line.Conclusion.{Conclusion}
use Rattle.finding_lines.specs.declared.line.Conclusion.TheVariants as conclusions
use Rattle.finding_lines.specs.Spelling.{concluded}
use Rattle.command_answers.specs.declared.status.Status.{Status}
use Rattle.command_answers.specs.declared.status.Status.TheVariants.{Related, Different, Open, Vacuous, Spent, Valid, Invalid, Replayed, Unrelated, NotAllowed, Usage, Refused, ReadFault, WriteFault, Memory}
use Rattle.command_answers.specs.Answers.{extent_of, all_put}
use Rattle.finding_answers.specs.Verdicts.{verdict_status, IsOfVerdict}

-- a verdict is spelled with a space before it
pub begins : (v : Conclusion) → (rest : List ℕ) × (concluded v ≡ 32 ∷ rest)
begins conclusions.Vacuous = (_, refl)
begins (conclusions.Related k c) = (_, refl)
begins (conclusions.Different d) = (_, refl)
begins (conclusions.Open k c n) = (_, refl)
begins (conclusions.Spent q n) = (_, refl)

-- all of its line is put
pub whole-verdict_status : (v : Conclusion) → extent_of (verdict_status v) ≡ all_put
whole-verdict_status conclusions.Vacuous = refl
whole-verdict_status (conclusions.Related k c) = refl
whole-verdict_status (conclusions.Different d) = refl
whole-verdict_status (conclusions.Open k c n) = refl
whole-verdict_status (conclusions.Spent q n) = refl

pub of_verdict : (v : Conclusion) → IsOfVerdict (verdict_status v)
of_verdict conclusions.Vacuous = tt
of_verdict (conclusions.Related k c) = tt
of_verdict (conclusions.Different d) = tt
of_verdict (conclusions.Open k c n) = tt
of_verdict (conclusions.Spent q n) = tt

-- the status of what was put is no other than the verdict's, where the sink and memory did not give up
pub no_other : (v : Conclusion) (status result other : Status) → status ≡ verdict_status v → (result ≢ WriteFault → result ≢ Memory → result ≡ status)
    → other ≢ WriteFault → other ≢ Memory → (IsOfVerdict other → ⊥) → result ≢ other
no_other v status result other s ends w m a e = a (subst IsOfVerdict (sym (ends (λ h. w (sym e ∙ h)) (λ h. m (sym e ∙ h)) ∙ s) ∙ e) (of_verdict v))

-- behind the status of a verdict all was put
pub whole_of : (s : Status) → IsOfVerdict s → extent_of s ≡ all_put
whole_of Related v = refl
whole_of Different v = refl
whole_of Open v = refl
whole_of Vacuous v = refl
whole_of Spent v = refl
whole_of Valid v = absurd v
whole_of Invalid v = absurd v
whole_of Replayed v = absurd v
whole_of Unrelated v = absurd v
whole_of NotAllowed v = absurd v
whole_of Usage v = absurd v
whole_of Refused v = absurd v
whole_of ReadFault v = absurd v
whole_of WriteFault v = absurd v
whole_of Memory v = absurd v
