use Rattle.std.proofs.lemmas.Result.{err_from_is_err_and}
use Rattle.source_tree.specs.SyntaxView.{file_view}
use Rattle.front_end.proofs.Passes.{text_first, prelude_next}
use Rattle.front_end.proofs.accept.file_of.Goals as goal

pub returns-in_err-own-clause-refused : goal.returns-in_err-own-clause-refused
returns-in_err-own-clause-refused c =
    let p = err_from_is_err_and c.from_residual.result c.from_residual.ensures.1 in
    rw (p.1, p.2) (text_first c.args.text.now c.in_err-own.field-0.0 c.in_err-own.ensures.refused)

pub returns-in_err-file-clause-refused : goal.returns-in_err-file-clause-refused
returns-in_err-file-clause-refused c =
    let p = err_from_is_err_and c.from_residual-in_err-file.result c.from_residual-in_err-file.ensures.1 in
    rw (p.1, p.2) (prelude_next c.args.text.now (file_view c.in_ok-own.own) c.in_err-file.field-0.0 c.in_ok-own.ensures.tree c.in_err-file.ensures.refused)
