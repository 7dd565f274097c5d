use Rattle.std.proofs.Common.{◌≡◌}
use Rattle.command_line.specs.Counts.{count_of}
use Rattle.command_line.proofs.count.count_of.Goals as goal

pub returns : goal.returns
unfolding count_of
returns c = c.spelled_to.ensures
