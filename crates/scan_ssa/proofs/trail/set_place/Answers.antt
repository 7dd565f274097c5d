use Rattle.std.proofs.Common.{◌≡◌, ◌∙◌, refl, None, arith}
use Rattle.std.specs.Prelude.{slice_index_or}
use Rattle.scan_ssa.proofs.TrailLemmas.{keeps_set, same_default}
use Rattle.scan_ssa.proofs.trail.set_place.Goals as goal

pub returns-in_ok-push-clause-kept : goal.returns-in_ok-push-clause-kept
returns-in_ok-push-clause-kept c =
    let before : c.index-before.result.now ≡ slice_index_or c.args.trail.now.store.items c.args.place None = c.index-before.ensures ∙ same_default c.args.trail.now.store.items c.args.place _ None (omega arith) in
    keeps_set c.args.trail.now _ c.args.place c.args.word c.index-before.result.now before refl c.in_ok-push.ensures.items
