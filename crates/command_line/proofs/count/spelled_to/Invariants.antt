use Rattle.std.proofs.Common.{◌≡◌, ◌-◌}
use Rattle.command_line.specs.Counts.{first_spelled}
use Rattle.command_line.proofs.count.spelled_to.Given as goal

abbrev pub invariant-loop-less : goal.invariant-loop-less
invariant-loop-less l = first_spelled l.less (l.most - l.less) l.word ≡ first_spelled 0 l.most l.word
