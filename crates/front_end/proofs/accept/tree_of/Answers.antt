use Rattle.std.proofs.Common.{subst}
use Rattle.std.proofs.lemmas.Result.{err_from_is_err_and}
use Rattle.source_tree.specs.SyntaxView.{file_view}
use Rattle.grammar.specs.WholeFile.{IsFile, IsFileFault}
use Rattle.front_end.proofs.Passes.{tree_found, tree_refused}
use Rattle.front_end.proofs.accept.tree_of.Goals as goal

pub returns-in_err-parse_file-clause-refused : goal.returns-in_err-parse_file-clause-refused
returns-in_err-parse_file-clause-refused c =
    let p = err_from_is_err_and c.from_residual-in_err-parse_file.result c.from_residual-in_err-parse_file.ensures.1 in
    rw (p.1, p.2) (tree_refused c.args.text.now c.in_ok-toks.toks.items c.in_err-parse_file.field-0.0 c.in_ok-toks.ensures.tokens
    (subst (λ ts. IsFileFault ts c.in_err-parse_file.field-0.0) c.deref.ensures.value c.in_err-parse_file.ensures.refused))

pub returns-clause-tree : goal.returns-clause-tree
returns-clause-tree c =
    tree_found c.args.text.now c.in_ok-toks.toks.items (file_view c.in_ok-parse_file.field-0) c.in_ok-toks.ensures.tokens
    (subst (λ ts. IsFile ts (file_view c.in_ok-parse_file.field-0)) c.deref.ensures.value c.in_ok-parse_file.ensures.read)
