use Rattle.verdict_laws.proofs.verdicts.vacuous_is_shown.Goals as goal

pub returns : goal.returns
returns c old new rel none = none
