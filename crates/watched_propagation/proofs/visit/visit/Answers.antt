use Rattle.watched_propagation.proofs.Settling.{Grown-refl}
use Rattle.watched_propagation.proofs.Turns.{IsCovered-start}
use Rattle.watched_propagation.proofs.visit.visit.Goals as goal

pub loop-turn-init : goal.loop-turn-init
loop-turn-init c =
    let a = c.args in
    record {
      visiting = record {
        watching = c.requires.watching;
        within = c.requires.within;
        falsified = c.requires.falsified;
        covered = IsCovered-start a.arena.now a.pairs.now a.lists.now a.trail.now.literals a.falsified c.requires.watching.listing;
      };
      grown = Grown-refl a.trail.now;
      kept = λ k e. e;
    }
