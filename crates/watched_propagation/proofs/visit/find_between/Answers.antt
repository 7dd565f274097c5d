use Rattle.std.proofs.Common.{arith}
use Rattle.std.proofs.lemmas.List.Elements.{Contains-get_or}
use Rattle.watched_propagation.proofs.visit.find_between.Goals as goal

pub returns-then-is_free_at : goal.returns-then-is_free_at
returns-then-is_free_at c =
    let yes = c.if-is_free_at.true in
    record {
      inside = Contains-get_or c.args.codes.now c.loop-place.place 0 (omega arith);
      apart = c.is_free_at.ensures.apart yes;
      within = c.is_free_at.ensures.within yes;
      free = c.is_free_at.ensures.free yes;
    }
