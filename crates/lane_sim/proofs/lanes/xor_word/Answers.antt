use Rattle.lane_sim.proofs.LaneLaws.{lane_xor}
use Rattle.lane_sim.proofs.lanes.xor_word.Goals as goal

pub returns : goal.returns
returns c j h = lane_xor c.args.a c.args.b j c.fits-a.0 c.fits-b.0 h
