use Rattle.std.proofs.Common.{◌≡◌, rules, to_z, of_z, to_z-of_z, FitsSigned, string_bytes, subst}
use Rattle.std.specs.Int.{w128}
use Rattle.std.specs.Prelude.{IfOk}
use Rattle.finding_lines.specs.declared.line.Conclusion.{Conclusion}
use Rattle.finding_lines.specs.declared.line.Conclusion.TheVariants.{Spent}
use Rattle.finding_report.specs.Reports.{verdict_text}
use Rattle.finding_report.proofs.verdict.verdict_text.Goals as goal

pub returns-in-Spent : goal.returns-in-Spent
returns-in-Spent c =
    let one = to_z w128 (of_z w128 c.in-Spent.conflicts) in
    let fits : FitsSigned w128 c.in-Spent.conflicts = search rules in
    let same : one ≡ c.in-Spent.conflicts = to_z-of_z {w = w128} {z = c.in-Spent.conflicts} fits in
    let is = c.in-Spent.is in
    let all : Spent c.in-Spent.asked one ≡ c.args.verdict = cc (same, is) in
    subst (λ (v : Conclusion). IfOk c.spent_text.result (λ text. string_bytes text ≡ verdict_text v)) all c.spent_text.ensures
