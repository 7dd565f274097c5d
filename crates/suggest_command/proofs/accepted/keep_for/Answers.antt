use Rattle.std.proofs.lemmas.Result.{err_from_is_err_and}
use Rattle.program_tree.specs.View.{program_view}
use Rattle.suggest_command.proofs.Refusals.{at_old, at_new, at_relation}
use Rattle.suggest_command.proofs.accepted.keep_for.Goals as goal

pub returns-in_err-old_program-clause-refused : goal.returns-in_err-old_program-clause-refused
returns-in_err-old_program-clause-refused c =
    let p = err_from_is_err_and c.from_residual.result c.from_residual.ensures.1 in
    rw (p.1, p.2) (at_old c.args.old.now c.args.new.now c.args.relation.now c.in_err-old_program.field-0.0 c.in_err-old_program.ensures.refused)

pub returns-in_err-new_program-clause-refused : goal.returns-in_err-new_program-clause-refused
returns-in_err-new_program-clause-refused c =
    let p = err_from_is_err_and c.from_residual-in_err-new_program.result c.from_residual-in_err-new_program.ensures.1 in
    rw (p.1, p.2) (at_new c.args.old.now c.args.new.now c.args.relation.now (program_view c.in_ok-old_program.old_program) c.in_err-new_program.field-0.0 c.in_ok-old_program.ensures.ok c.in_err-new_program.ensures.refused)

pub returns-clause-refused : goal.returns-clause-refused
returns-clause-refused c =
    rw c.fault_of.ensures (at_relation c.args.old.now c.args.new.now c.args.relation.now (program_view c.in_ok-old_program.old_program) (program_view c.in_ok-new_program.new_program) c.in-Err.fault
    c.in_ok-old_program.ensures.ok c.in_ok-new_program.ensures.ok c.in-Err.ensures.refused)
