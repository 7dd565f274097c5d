-- What the commands' answers say of the rows that may come.
use Rattle.std.proofs.Common.{◌≡◌, ℕ, List, Option, subst}
use Rattle.std.specs.Prelude.{Ok}
use Rattle.outside.specs.States.{Change}
use Rattle.scan_model.specs.InRange.{Row}
use Rattle.finding_lines.specs.declared.line.Conclusion.{Conclusion}
use Rattle.finding_lines.specs.declared.line.Conclusion.TheVariants as conclusions
use Rattle.queries.specs.Comparisons.{Comparison}
use Rattle.queries.specs.Settings.{setting_of}
use Rattle.judgement.specs.Findings.{IsJudged}
use Rattle.judgement.specs.Shown.{IsShown, IsReachShown}
use Rattle.judgement.specs.declared.answers.Reach.{Reach}
use Rattle.judgement.specs.declared.answers.Judged.TheVariants.{Valid}
use Rattle.command_answers.specs.declared.status.Status.{Status}
use Rattle.command_answers.specs.declared.status.Status.TheVariants.{Related}
use Rattle.comparison_files.specs.Texts.{Texts}
use Rattle.comparison_files.specs.Accepting.{AreStated}
use Rattle.comparison_files.specs.Comparing.{formulas_of}
use Rattle.comparison_files.proofs.Once.{stated_once}
use Rattle.finding_answers.specs.Verdicts.{verdict_status}
use Rattle.finding_answers.specs.Lines.{most_bytes}
use Rattle.verify_command.specs.Reports.{ShowsSaved}
use Rattle.text_laws.specs.Laws.{AreAllowed, AreRelated}
use Rattle.text_laws.specs.Findings.{SaysOfRows, SaysOfReach}
use Rattle.text_laws.specs.Answers.{TextsSay, ValidSaysOfRows, ExplainedSaysOfRows, ExplainedHoldsForEver, SavedSaysOfRows, RelatedStatusIsForEver}
use Rattle.text_laws.proofs.Conclusions.{shown_says, reach_says, finding_is_shown}
use Rattle.text_laws.proofs.Listed.{listed_holds_for_ever}

texts_say : (t : Texts) (c : Comparison) (conclusion : Conclusion) (reach : Reach) → AreStated t c → IsShown c (formulas_of c) conclusion → IsReachShown c (formulas_of c) reach
    → TextsSay t conclusion reach
texts_say t c conclusion reach h shown reached = record {
  compared = c;
  stated = h;
  says = λ d k. subst (λ (x : Comparison). SaysOfRows x conclusion) (stated_once t c d h k) (shown_says t c (formulas_of c) conclusion h shown);
  reaches = λ d k. subst (λ (x : Comparison). SaysOfReach x reach) (stated_once t c d h k) (reach_says c (formulas_of c) reach reached);
}

pub valid_says : ValidSaysOfRows
unfolding texts_say
valid_says t old new s = (s.verdict, s.reach, texts_say t s.compared s.verdict s.reach s.accepted.stated s.shown s.reached, s.put)

pub explained_says : ExplainedSaysOfRows
explained_says t old new s =
    let judged : IsJudged (setting_of s.compared) (formulas_of s.compared) most_bytes t.finding (Ok (Valid s.verdict s.reach)) = (s.lines, s.stands) in
    let shown = finding_is_shown t s.compared most_bytes t.finding s.verdict s.reach s.accepted.stated judged in
    texts_say t s.compared s.verdict s.reach s.accepted.stated shown.0 shown.1

pub explained_holds : ExplainedHoldsForEver
explained_holds t old new s = listed_holds_for_ever t s.compared most_bytes t.finding s.lines s.verdict s.reach (s.accepted.stated, s.stands)

saved_say : (t : Texts) (k : Change) (name : List ℕ) (status : Status) (old new : Option (List ℕ)) (s : ShowsSaved t k name status old new)
    → TextsSay t s.concluded.verdict s.concluded.reach
saved_say t k name status old new s = texts_say t s.compared s.concluded.verdict s.concluded.reach s.accepted.stated s.shown.shown s.shown.reached

pub saved_says : SavedSaysOfRows
unfolding saved_say texts_say
saved_says t k name status old new s = (s.concluded.verdict, s.concluded.reach, s.is, saved_say t k name status old new s, s.put)

-- only the word RELATED has its status
of_status : (conclusion : Conclusion) (c : Comparison) → Related ≡ verdict_status conclusion → SaysOfRows c conclusion → (rows : List Row) → AreAllowed c rows → AreRelated c rows
of_status conclusions.Vacuous c is says = let no : ⊥ = cc in absurd no
of_status (conclusions.Related kept candidates) c is says = says
of_status (conclusions.Different scans) c is says = let no : ⊥ = cc in absurd no
of_status (conclusions.Open kept candidates depth) c is says = let no : ⊥ = cc in absurd no
of_status (conclusions.Spent asked count) c is says = let no : ⊥ = cc in absurd no

pub related_status : RelatedStatusIsForEver
related_status t k name old new s c h = of_status s.concluded.verdict c s.is ((saved_say t k name Related old new s).says c h)
