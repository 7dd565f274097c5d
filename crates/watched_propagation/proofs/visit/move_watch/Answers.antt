use Rattle.watched_propagation.proofs.Settling.{IsWatching-moved, moved_away}
use Rattle.watched_propagation.proofs.visit.move_watch.Goals as goal

pub returns-clause-watching : goal.returns-clause-watching
returns-clause-watching c =
    let k = c.args.clause in
    rw (c.write.ensures, c.in_ok-push_watch.ensures.ok) (IsWatching-moved c.args.arena.now c.args.pairs.now c.args.lists.now c.args.trail.now k c.args.falsified c.args.other c.args.found.code c.args.found.next c.requires.other c.requires.replacement c.requires.watching)

pub returns-clause-moved : goal.returns-clause-moved
returns-clause-moved c = rw c.write.ensures (moved_away c.args.pairs.now c.args.trail.now.literals _ c.args.clause c.args.falsified c.args.other c.args.found.code c.args.found.next _ c.requires.other c.requires.replacement c.requires.falsified)
