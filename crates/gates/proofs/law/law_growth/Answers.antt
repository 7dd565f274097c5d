use Rattle.gates.proofs.Growth.{extends_make, IsModel-front}
use Rattle.gates.proofs.law.law_growth.Goals as goal

pub returns-clause-grows : goal.returns-clause-grows
returns-clause-grows c = extends_make

pub returns-clause-front : goal.returns-clause-front
returns-clause-front c = λ v n later h m. IsModel-front v n later h m
