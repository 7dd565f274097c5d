use Rattle.std.proofs.Common.{sym, subst}
use Rattle.scan_model.specs.Pairs.{Pair}
use Rattle.scan_replay.specs.Duos.{Compared, IsInRangeOf}
use Rattle.scan_replay.proofs.DuoLemmas.{equally_long}
use Rattle.scan_replay.proofs.duo.Duo.set_pair.Goals as goal

pub copy_both-requires-clause-old : goal.copy_both-requires-clause-old
copy_both-requires-clause-old c =
    let given : Pair = record { old = c.args.old.now; new = c.args.new.now } in
    let fits = subst (λ (d : Compared). IsInRangeOf d given) (sym c.self.view_is) c.requires in
    equally_long _ _ _ c.self.invariant.1.0 fits.0

pub copy_both-requires-clause-new : goal.copy_both-requires-clause-new
copy_both-requires-clause-new c =
    let given : Pair = record { old = c.args.old.now; new = c.args.new.now } in
    let fits = subst (λ (d : Compared). IsInRangeOf d given) (sym c.self.view_is) c.requires in
    equally_long _ _ _ c.self.invariant.1.1 fits.1
