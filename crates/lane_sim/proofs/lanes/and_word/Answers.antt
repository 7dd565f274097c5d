use Rattle.lane_sim.proofs.LaneLaws.{lane_and}
use Rattle.lane_sim.proofs.lanes.and_word.Goals as goal

pub returns : goal.returns
returns c j h = lane_and c.args.a c.args.b j c.fits-a.0 c.fits-b.0 h
