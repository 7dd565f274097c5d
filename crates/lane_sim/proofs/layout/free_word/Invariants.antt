use Rattle.std.proofs.Common.{vec_len}
use Rattle.lane_sim.proofs.layout.free_word.Given as goal

abbrev pub decreases-loop-word : goal.decreases-loop-word
decreases-loop-word l = vec_len l.free
