use Rattle.std.proofs.Common.{sym, ◌∙◌}
use Rattle.lane_sim.proofs.LaneLaws.{lane_signed, mask_of-true, mask_of-false}
use Rattle.lane_sim.proofs.lanes.signed_word.Goals as goal
use Rattle.lane_sim.proofs.lanes.signed_word.Goals.{then-negative, else-negative}

pub returns : goal.returns
returns c j h =
    elim c.if-negative.branch [
      | then-negative w ↦ lane_signed c.args.negative c.args.word c.if-negative.mask j (w.mask-is ∙ sym (mask_of-true c.args.negative w.if-negative.true)) c.fits-word.0 h
      | else-negative w ↦ lane_signed c.args.negative c.args.word c.if-negative.mask j (w.mask-is ∙ sym (mask_of-false c.args.negative w.if-negative.false)) c.fits-word.0 h
    ]
