use Rattle.std.proofs.Common.{◌≡◌, ◌∙◌, ap, length, take, rules}
use Rattle.scan_ssa.specs.Trails.{store_at}
use Rattle.scan_ssa.proofs.TrailLemmas.{keeps_undo}
use Rattle.scan_ssa.proofs.merging.words_under.Goals as goal

pub returns-clause-kept : goal.returns-clause-kept
returns-clause-kept c =
    let mark : c.len-mark.result ≡ length c.args.trail.now.log.items = search rules in
    keeps_undo (length c.args.trail.now.log.items) c.args.trail.now c.make_changes.new.trail c.undo.new.trail c.in_ok-make_changes.ensures.kept
    (c.undo.ensures.store ∙ ap (store_at c.make_changes.new.trail) mark) (c.undo.ensures.log ∙ ap (λ m. take m c.make_changes.new.trail.log.items) mark)
