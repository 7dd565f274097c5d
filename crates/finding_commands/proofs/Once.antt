-- There is one report on four texts, the place of G1 apart, where there is one on each finding.
use Rattle.std.proofs.Common.{◌≡◌, ℕ, List, subst}
use Rattle.clause_core.specs.Formula.{Formula}
use Rattle.queries.specs.Comparisons.{Comparison}
use Rattle.queries.specs.Questions.{QueryData}
use Rattle.command_answers.specs.Reports.{Report}
use Rattle.command_answers.specs.Alike.{AreAlike, same}
use Rattle.comparison_files.specs.Texts.{Texts}
use Rattle.comparison_files.specs.Comparing.{formulas_of}
use Rattle.comparison_files.proofs.Once.{stated_once}
use Rattle.comparison_files.proofs.RefusalLemmas.{refusals_alike, accepted_too}
use Rattle.finding_commands.specs.Reports.{ReportsOn, not_compared, on_finding}

module _ (on : Comparison → (QueryData → Formula) → List ℕ → Report → Type 0)
    (once : (c : Comparison) (formula : QueryData → Formula) (finding : List ℕ) (r s : Report) → on c formula finding r → on c formula finding s → r ≡ s) where
  pub reports_once : (t : Texts) (r s : Report) → ReportsOn on t r → ReportsOn on t s → AreAlike r s
  reports_once t r s (not_compared h) (not_compared k) = refusals_alike t r s h k
  reports_once t r s (not_compared h) (on_finding c k d) = absurd (accepted_too t c r k h)
  reports_once t r s (on_finding c h e) (not_compared k) = absurd (accepted_too t c s h k)
  reports_once t r s (on_finding c h e) (on_finding d k f) =
      same (once d (formulas_of d) t.finding r s (subst (λ x. on x (formulas_of x) t.finding r) (stated_once t c d h.stated k.stated) e) f)
