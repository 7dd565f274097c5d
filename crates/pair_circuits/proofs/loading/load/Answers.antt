use Rattle.std.proofs.Common.{sym, ◌∙◌}
use Rattle.pair_circuits.proofs.Turns.{loaded_end}
use Rattle.pair_circuits.proofs.loading.load.Goals as goal

pub returns-then-i-words : goal.returns-then-i-words
returns-then-i-words c = sym (loaded_end c.loop-i.i _ c.args.words.now _ c.if-i-words.true) ∙ c.loop-i.invariant
