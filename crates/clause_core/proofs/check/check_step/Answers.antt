use Rattle.std.proofs.Common.{◌≡◌, length, arith}
use Rattle.clause_core.specs.Steps.{assume_false}
use Rattle.clause_core.specs.Undoing.{after_hints, reopened, reopened_at}
use Rattle.clause_core.proofs.Undone.{undone}
use Rattle.clause_core.proofs.check.check_step.Goals as goal

pub returns-clause-same : goal.returns-clause-same
returns-clause-same c =
    let held = c.args.held.now in
    let clause = c.args.clause.now in
    let hints = c.args.hints.now in
    let vs = c.args.values.now in
    let is : c.reopen.new.values ≡ reopened (reopened_at held (after_hints held (assume_false vs clause) hints) hints) clause = cc in
    let size : length c.reopen.new.values ≡ length vs = omega arith in
    undone held vs c.reopen.new.values clause hints c.requires.open is size
