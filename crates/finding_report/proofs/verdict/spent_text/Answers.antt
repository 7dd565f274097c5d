use Rattle.std.proofs.Common.{◌≡◌, string_bytes, rules, sym, subst}
use Rattle.std.specs.Prelude.{IfOk}
use Rattle.finding_lines.specs.declared.line.Asked.{Asked}
use Rattle.finding_lines.specs.declared.line.Conclusion.TheVariants.{Spent}
use Rattle.finding_report.specs.Reports.{verdict_text}
use Rattle.finding_report.proofs.verdict.spent_text.Goals as goal

pub returns-in-First : goal.returns-in-First
returns-in-First c = subst (λ (a : Asked). IfOk c.format.result (λ text. string_bytes text ≡ verdict_text (Spent a c.args.conflicts))) (sym c.in-First.is) (search rules)

pub returns-in-Step : goal.returns-in-Step
returns-in-Step c = subst (λ (a : Asked). IfOk c.format-in-Step.result (λ text. string_bytes text ≡ verdict_text (Spent a c.args.conflicts))) (sym c.in-Step.is) (search rules)

pub returns-in-Goal : goal.returns-in-Goal
returns-in-Goal c = subst (λ (a : Asked). IfOk c.format-in-Goal.result (λ text. string_bytes text ≡ verdict_text (Spent a c.args.conflicts))) (sym c.in-Goal.is) (search rules)

pub returns-in-Deep : goal.returns-in-Deep
returns-in-Deep c = subst (λ (a : Asked). IfOk c.format-in-Deep.result (λ text. string_bytes text ≡ verdict_text (Spent a c.args.conflicts))) (sym c.in-Deep.is) (search rules)

pub returns-in-Walk : goal.returns-in-Walk
returns-in-Walk c = subst (λ (a : Asked). IfOk c.format-in-Walk.result (λ text. string_bytes text ≡ verdict_text (Spent a c.args.conflicts))) (sym c.in-Walk.is) (search rules)
