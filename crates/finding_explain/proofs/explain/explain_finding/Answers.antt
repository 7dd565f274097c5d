use Rattle.std.proofs.Common.{◌≡◌, ◌∙◌, ℕ, List, ap, subst}
use Rattle.std.specs.Prelude.{Option, Result, Ok, IfSome}
use Rattle.finding_lines.specs.declared.line.Line.{Line}
use Rattle.queries.specs.Settings.{setting_of}
use Rattle.judgement.specs.Findings.{IsJudged}
use Rattle.judgement.specs.Shown.{ShowsVerdict}
use Rattle.judgement.specs.declared.answers.Judged.{Judged}
use Rattle.judgement.specs.declared.answers.Judged.TheVariants.{Valid}
use Rattle.judgement.specs.declared.answers.JudgeErr.{JudgeErr}
use Rattle.finding_report.specs.Views.{comparison_in}
use Rattle.finding_explain.specs.Notable.{IsFileOf}
use Rattle.finding_explain.specs.Explaining.{IsReported}
use Rattle.finding_explain.proofs.ExplainLemmas.{told_explained}
use Rattle.finding_explain.proofs.explain.explain_finding.Goals as goal

pub returns-in-Valid-clause-exact : goal.returns-in-Valid-clause-exact
returns-in-Valid-clause-exact g c =
    let k = comparison_in c.args.compared.now in
    let f = g.Q.Queries.formula c.args.queries.now in
    let limit = c.args.finding.now.limit in
    let name = c.args.finding.now.name.now in
    let told = (g.S.Shelf.state c.args.shelf.now).file name in
    let same_file : (g.S.Shelf.state c.judge_file.new.shelf).file name ≡ told = ap (λ files. files name) c.judge_file.ensures.kept in
    let reach = c.in-Valid.field-1 in
    let is : c.judge_file.result ≡ Ok (Valid c.in-Valid.verdict reach) = c.in_ok-line.was ∙ ap Ok c.in-Valid.is in
    let judged = subst (λ (r : Result Judged JudgeErr). IfSome told (λ file. IsJudged (setting_of k) f limit file r)) is c.judge_file.ensures.exact in
    let reported = subst (λ (o : Option (List ℕ)). IfSome o (λ file. (ls : List Line) → IsFileOf (setting_of k) limit file ls → IsReported k ls c.in-Valid.verdict c.report_file.result)) same_file c.report_file.ensures.exact in
    let shown = subst (λ (r : Result Judged JudgeErr). ShowsVerdict k f r) is c.judge_file.ensures.sound in
    told_explained k f limit told c.in-Valid.verdict reach c.report_file.result judged shown.0 reported
