use Rattle.std.proofs.Common.{◌∙◌, sym}
use Rattle.std.proofs.lemmas.Bool.{false≢true}
use Rattle.std.proofs.lemmas.Slice.Eq.{bytes_eq-Decides}
use Rattle.finding_lines.proofs.ReadLemmas.{conclusion-none}
use Rattle.finding_lines.proofs.fields.read_conclusion.Goals as goal

pub returns-in_err-query : goal.returns-in_err-query
returns-in_err-query c =
    rw c.from_residual.ensures
    (conclusion-none c.args.bytes.now
    (λ e. false≢true (sym c.if-eq.false ∙ c.eq.ensures ∙ (bytes_eq-Decides c.args.bytes.now c.as_slice.result.now).1 (e ∙ sym c.as_slice.ensures)))
    c.in_default.ensures c.in_default-read_labelled.ensures c.in_default-read_open.ensures c.in_err-query.ensures)
