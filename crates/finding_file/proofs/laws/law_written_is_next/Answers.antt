use Rattle.finding_file.proofs.WritingLemmas.{ahead-written}
use Rattle.finding_file.proofs.laws.law_written_is_next.Goals as goal

pub returns : goal.returns
returns c = ahead-written
