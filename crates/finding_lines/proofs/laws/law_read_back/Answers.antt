use Rattle.finding_lines.proofs.LineLemmas.{read_back}
use Rattle.finding_lines.proofs.laws.law_read_back.Goals as goal

pub returns : goal.returns
returns c = read_back
