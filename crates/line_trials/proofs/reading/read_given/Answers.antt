use Rattle.std.proofs.Common.{sym, subst}
use Rattle.std.proofs.lemmas.Result.{err_from_is_err_and}
use Rattle.program_tree.specs.View.{program_view}
use Rattle.command_files.specs.front_end.Texts.{HasTokens}
use Rattle.line_trials.proofs.Refusals.{refused_lines}
use Rattle.line_trials.proofs.reading.read_given.Goals as goal

pub returns-in_err-relation-clause-refused : goal.returns-in_err-relation-clause-refused
returns-in_err-relation-clause-refused c =
    let p = err_from_is_err_and c.from_residual-in_err-relation.result c.from_residual-in_err-relation.ensures.1 in
    let has : HasTokens c.args.text.now c.deref.result.now = subst (HasTokens c.args.text.now) (sym c.deref.ensures.value) c.in_ok-toks.ensures.tokens in
    rw (p.1, p.2) (refused_lines (program_view c.args.old.now) (program_view c.args.new.now) c.args.text.now c.deref.result.now c.in_err-relation.field-0.0 has c.in_err-relation.ensures.refused)
