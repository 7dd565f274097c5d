use Rattle.std.proofs.Common.{sym, subst}
use Rattle.program_tree.specs.View.{program_view}
use Rattle.front_end.specs.Texts.{HasTokens}
use Rattle.command_files.proofs.Refusals.{lines_refused}
use Rattle.command_files.proofs.accept.relation_of.Goals as goal

pub returns-clause-refused : goal.returns-clause-refused
returns-clause-refused c =
    let has : HasTokens c.args.text.now c.deref.result.now = subst (HasTokens c.args.text.now) (sym c.deref.ensures.value) c.in-Ok.ensures.tokens in
    rw c.fault_of-in-Err-read_lines.ensures (lines_refused (program_view c.args.old.now) (program_view c.args.new.now) c.args.text.now c.deref.result.now c.in-Err-read_lines.fault has c.in-Err-read_lines.ensures.refused)
