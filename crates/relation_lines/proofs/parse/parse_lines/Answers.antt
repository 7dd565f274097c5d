use Rattle.std.proofs.lemmas.Result.{err_from_is_err_and}
use Rattle.relation_lines.specs.View.{lines_view}
use Rattle.relation_lines.proofs.Whole.{lines_found, lines_fault}
use Rattle.relation_lines.proofs.parse.parse_lines.Goals as goal

pub returns-in_err-whole-clause-refused : goal.returns-in_err-whole-clause-refused
returns-in_err-whole-clause-refused c =
    let p = err_from_is_err_and c.from_residual.result c.from_residual.ensures.1 in
    rw (p.1, p.2) (lines_fault c.args.toks.now c.in_err-whole.field-0.0 c.in_default.ensures.none c.in_default.ensures.shallow c.in_err-whole.ensures)

pub returns-clause-read : goal.returns-clause-read
returns-clause-read c = lines_found c.args.toks.now (lines_view c.in_ok-whole.field-0.items) c.in_default.ensures.none c.in_ok-whole.ensures
