use Rattle.std.proofs.Common.{refl}
use Rattle.watched_propagation.proofs.Settling.{IsWatching-level}
use Rattle.watched_propagation.proofs.Lasting.{KeepsLasting-level}
use Rattle.watched_propagation.proofs.levels.decide.Goals as goal

pub returns-clause-kept : goal.returns-clause-kept
returns-clause-kept c = λ clauses pairs lists h. c.assume.ensures.kept clauses pairs lists (IsWatching-level clauses pairs lists c.args.trail.now c.begin_level.new.self c.in_ok-begin_level.ensures.ok (c.if-not-is_propagated.ensures.head refl) h)

pub returns-clause-lasting : goal.returns-clause-lasting
returns-clause-lasting c = λ x h. c.assume.ensures.lasting x (KeepsLasting-level c.args.trail.now c.begin_level.new.self c.in_ok-begin_level.ensures.ok x h)
