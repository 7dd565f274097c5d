use Rattle.word_laws.proofs.SignedDivisions.{value-division}
use Rattle.word_laws.proofs.divisions.law_division.Goals as goal

pub returns : goal.returns
returns c = value-division
