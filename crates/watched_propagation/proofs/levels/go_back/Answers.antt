use Rattle.std.proofs.Common.{arith}
use Rattle.watched_propagation.proofs.Settling.{IsWatching-back}
use Rattle.watched_propagation.proofs.Lasting.{KeepsLasting-back}
use Rattle.watched_propagation.proofs.levels.go_back.Goals as goal

pub returns-then-level-clause-kept : goal.returns-then-level-clause-kept
returns-then-level-clause-kept c = λ clauses pairs lists h. IsWatching-back clauses pairs lists c.args.trail.now c.go_back.new.self c.args.level (let e = c.level.ensures in let t = c.if-level.true in omega arith) c.go_back.ensures.back c.go_back.ensures.rising h

pub returns-then-level-clause-lasting : goal.returns-then-level-clause-lasting
returns-then-level-clause-lasting c = KeepsLasting-back c.args.trail.now c.go_back.new.self c.args.level (let e = c.level.ensures in let t = c.if-level.true in omega arith) c.go_back.ensures.back c.go_back.ensures.rising
