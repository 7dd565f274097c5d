use Rattle.std.proofs.Common.{◌≡◌, ◌∙◌, ap}
use Rattle.std.proofs.lemmas.Result.{IfOk-weaker}
use Rattle.serde_json.specs.View.{view}
use Rattle.serde_json.specs.Written.{compact_text, has_float}
use Rattle.queries.specs.Sets.{members}
use Rattle.finding_report.specs.Reports.{report_with}
use Rattle.finding_report.specs.Views.{comparison_in}
use Rattle.finding_report.proofs.FloatLemmas.{report_none}
use Rattle.finding_report.proofs.report.report_text.Goals as goal

pub returns : goal.returns
returns c =
    let k = comparison_in c.args.compared.now in
    let set = members c.args.notes.now.set in
    let is : view c.in_ok-report_value.field-0 ≡ report_with k set c.args.notes.now.pair c.args.notes.now.scans.items c.args.verdict = c.in_ok-report_value.ensures in
    IfOk-weaker c.to_string.result _ _ (λ s h. h (ap has_float is ∙ report_none k set c.args.notes.now.pair c.args.notes.now.scans.items c.args.verdict) ∙ ap compact_text is) c.to_string.ensures.text
