use Rattle.std.proofs.Common.{length}
use Rattle.pair_decoding.proofs.numbers.+number.Given as goal

abbrev pub decreases-number : goal.decreases-number
decreases-number l = length l.word.now
