use Rattle.finding_lines.proofs.LineLemmas.{one_spelling}
use Rattle.finding_lines.proofs.laws.law_one_spelling.Goals as goal

pub returns : goal.returns
returns c = one_spelling
