-- A conclusion spells one verdict, and a finding that is judged valid by what texts state shows its conclusion.
use Rattle.std.proofs.Common.{◌≡◌, ◌≤◌, ℕ, List, length, ℤ, pos, negsuc, Ok, refl, sym, ap, ◌∙◌, subst}
use Rattle.scan_model.specs.declared.verdict.Verdict.{Verdict}
use Rattle.scan_model.specs.declared.verdict.Verdict.TheVariants.{Vacuous, Related, Different, Open}
use Rattle.scan_model.specs.InRange.{Row}
use Rattle.finding_lines.specs.declared.line.Conclusion.{Conclusion}
use Rattle.finding_lines.specs.declared.line.Conclusion.TheVariants as conclusions
use Rattle.judgement.specs.Shown.{conclusion_of, IsModelVerdict}
use Rattle.judgement.specs.declared.answers.Reach.TheVariants.{Untold, Unwalked, Greatest, AtLeast}
use Rattle.judgement.specs.declared.answers.Judged.TheVariants.{Valid}
use Rattle.judgement.proofs.Soundness.{shows_verdict}
use Rattle.judgement_laws.proofs.SpentLemmas.{spent_is_logged, reach_spent_is_logged}
use Rattle.queries.specs.Comparisons.{Comparison}
use Rattle.comparison_files.specs.Texts.{Texts}
use Rattle.comparison_files.specs.Accepting.{AreStated}
use Rattle.comparison_files.specs.Comparing.{formulas_of}
use Rattle.text_laws.specs.Laws.{AreAllowed, AreRelated, IsVerdictOn}
use Rattle.text_laws.specs.Findings.{ConclusionIsVerdict, FindingIsShown, SpentIsLogged, ReachSpentIsLogged, SaysOfRows, ShownSaysOfRows, ReachSaysOfRows}
use Rattle.text_laws.proofs.Stated.{stated_comparison, formulas_mean}
use Rattle.text_laws.proofs.RowLemmas.{related_for_ever, different_is_least, open_is_related_so_far, nothing_runs}

-- ---- the verdict that a conclusion spells

abbrev count_in : ℤ → ℕ
count_in (pos n) = n
count_in (negsuc n) = 0

abbrev verdict_in : Conclusion → Verdict
verdict_in conclusions.Vacuous = Vacuous
verdict_in (conclusions.Related kept candidates) = Related (count_in kept) (count_in candidates)
verdict_in (conclusions.Different scans) = Different (count_in scans)
verdict_in (conclusions.Open kept candidates depth) = Open (count_in kept) (count_in candidates) (count_in depth)
verdict_in (conclusions.Spent asked count) = Vacuous

spelled : (v : Verdict) → verdict_in (conclusion_of v) ≡ v
spelled Vacuous = refl
spelled (Related kept candidates) = refl
spelled (Different scans) = refl
spelled (Open kept candidates depth) = refl

one_spelled : (v w : Verdict) → conclusion_of v ≡ conclusion_of w → w ≡ v
one_spelled v w is = sym (spelled w) ∙ sym (ap verdict_in is) ∙ spelled v

module _ (c : Comparison) where
  model_verdict : (v : Verdict) → IsModelVerdict c (conclusion_of v) → IsVerdictOn c v
  model_verdict v m = subst (λ (w : Verdict). IsVerdictOn c w) (one_spelled v m.0 m.1) m.2

pub conclusion_is_verdict : ConclusionIsVerdict
conclusion_is_verdict c formula Vacuous shown = model_verdict c Vacuous shown
conclusion_is_verdict c formula (Related kept candidates) shown = model_verdict c (Related kept candidates) shown
conclusion_is_verdict c formula (Different scans) shown = model_verdict c (Different scans) shown
conclusion_is_verdict c formula (Open kept candidates depth) shown = model_verdict c (Open kept candidates depth) shown

-- ---- what verdicts say of rows

verdict_says : (t : Texts) (c : Comparison) (v : Verdict) → AreStated t c → IsVerdictOn c v → SaysOfRows c (conclusion_of v)
verdict_says t c Vacuous h is = λ row ok. nothing_runs t c row h is ok
verdict_says t c (Related kept candidates) h is = related_for_ever t c kept candidates h is
verdict_says t c (Different scans) h is = (scans, refl, different_is_least t c scans h is)
verdict_says t c (Open kept candidates depth) h is =
    let so_far = open_is_related_so_far t c kept candidates depth h is in
    (ap pos so_far.0, subst (λ (most : ℕ). (rows : List Row) → length rows ≤ most → AreAllowed c rows → AreRelated c rows) so_far.0 so_far.1)

model_says : (t : Texts) (c : Comparison) (conclusion : Conclusion) → AreStated t c → IsModelVerdict c conclusion → SaysOfRows c conclusion
model_says t c conclusion h m = subst (λ (k : Conclusion). SaysOfRows c k) (sym m.1) (verdict_says t c m.0 h m.2)

pub shown_says : ShownSaysOfRows
shown_says t c formula conclusions.Vacuous h shown = model_says t c conclusions.Vacuous h shown
shown_says t c formula (conclusions.Related kept candidates) h shown = model_says t c (conclusions.Related kept candidates) h shown
shown_says t c formula (conclusions.Different scans) h shown = model_says t c (conclusions.Different scans) h shown
shown_says t c formula (conclusions.Open kept candidates depth) h shown = model_says t c (conclusions.Open kept candidates depth) h shown
shown_says t c formula (conclusions.Spent asked count) h shown = tt

-- ---- what is said of reach

pub reach_says : ReachSaysOfRows
reach_says c formula Untold shown = tt
reach_says c formula Unwalked shown = tt
reach_says c formula (Greatest count) shown = record {
  found = shown.walk;
  within_depth = shown.deep;
  none_longer = λ rows more few ok. shown.greatest (length rows) more few (rows, refl, ok);
}
reach_says c formula (AtLeast count) shown = shown.0

-- ---- findings on texts

pub finding_is_shown : FindingIsShown
finding_is_shown t c limit file conclusion reach h judged =
    shows_verdict c (formulas_of c) (stated_comparison t c h) (formulas_mean t c h) limit file (Ok (Valid conclusion reach)) judged

pub spent_log : SpentIsLogged
spent_log t c limit file asked count reach h judged = spent_is_logged c (formulas_of c) (stated_comparison t c h) (formulas_mean t c h) limit file asked count reach judged

pub reach_spent_log : ReachSpentIsLogged
reach_spent_log t c limit file conclusion rows h judged =
    reach_spent_is_logged c (formulas_of c) (stated_comparison t c h) (formulas_mean t c h) limit file conclusion rows judged
