use Rattle.std.proofs.lemmas.Result.{err_from_is_err_and}
use Rattle.relation_lines.proofs.Whole.{lines_found, lines_fault}
use Rattle.relation_file.proofs.line_pass.pass_over.Goals as goal

pub returns-in_err-pass_lines-clause-refused : goal.returns-in_err-pass_lines-clause-refused
returns-in_err-pass_lines-clause-refused c =
    let p = err_from_is_err_and c.from_residual.result c.from_residual.ensures.1 in
    rw (p.1, p.2) (lines_fault c.args.toks.now c.in_err-pass_lines.field-0.0 c.in_default.ensures.none c.in_default.ensures.shallow c.in_err-pass_lines.ensures)

pub returns-clause-read : goal.returns-clause-read
returns-clause-read c =
    let h = c.in_ok-pass_lines.ensures in
    record { lines = h.lines; read = lines_found c.args.toks.now h.lines c.in_default.ensures.none h.read; passed = h.passed }
