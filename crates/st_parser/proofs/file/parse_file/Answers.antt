use Rattle.std.proofs.lemmas.Result.{err_from_is_err_and}
use Rattle.source_tree.specs.SyntaxView.{file_view}
use Rattle.file_laws.proofs.FileWhole.{file_found, file_fault}
use Rattle.st_parser.proofs.file.parse_file.Goals as goal

pub returns-in_err-whole-clause-refused : goal.returns-in_err-whole-clause-refused
returns-in_err-whole-clause-refused c =
    let p = err_from_is_err_and c.from_residual.result c.from_residual.ensures.1 in
    rw (p.1, p.2) (file_fault c.args.toks.now c.in_err-whole.field-0.0 c.in_default.ensures.none c.in_default.ensures.shallow c.in_err-whole.ensures)

pub returns-clause-read : goal.returns-clause-read
returns-clause-read c = file_found c.args.toks.now (file_view c.in_ok-whole.field-0) c.in_default.ensures.none c.in_ok-whole.ensures
