use Rattle.std.proofs.Common.{sym, subst}
use Rattle.propagation_trail.specs.Trails.{Grown}
use Rattle.watched_propagation.proofs.Settling.{Grown-refl, Grown-assigned, IsWatching-assigned}
use Rattle.watched_propagation.proofs.Lasting.{KeepsLasting-grown}
use Rattle.watched_propagation.proofs.levels.assume.Goals as goal

pub returns-clause-kept : goal.returns-clause-kept
returns-clause-kept c = λ clauses pairs lists h. IsWatching-assigned clauses pairs lists c.args.trail.now c.assign.new.self c.args.code c.in_ok-assign.ensures.ok c.assign.ensures.propagated c.assign.ensures.rising h

pub returns-clause-grown : goal.returns-clause-grown
returns-clause-grown c = Grown-assigned c.args.trail.now c.assign.new.self c.args.code c.in_ok-assign.ensures.ok

pub returns-in_err-assign-clause-grown : goal.returns-in_err-assign-clause-grown
returns-in_err-assign-clause-grown c = subst (Grown c.args.trail.now) (sym c.in_err-assign.ensures.err) (Grown-refl c.args.trail.now)

pub returns-clause-lasting : goal.returns-clause-lasting
returns-clause-lasting c = KeepsLasting-grown c.args.trail.now c.assign.new.self (Grown-assigned c.args.trail.now c.assign.new.self c.args.code c.in_ok-assign.ensures.ok)
