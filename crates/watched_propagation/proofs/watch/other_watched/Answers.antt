use Rattle.watched_propagation.proofs.Settling.{IsOther-beside}
use Rattle.watched_propagation.proofs.watch.other_watched.Goals as goal

pub returns-clause-some : goal.returns-clause-some
returns-clause-some c = IsOther-beside c.args.pair c.args.code c.beside.result (c.is_watched.ensures.yes c.if-not-is_watched.false) c.beside.ensures.first c.beside.ensures.second
