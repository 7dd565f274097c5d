use Rattle.typing.proofs.Exits.{leaves_nothing}
use Rattle.typed_scopes.proofs.Charts.{chart_leaves_nothing}
use Rattle.typed_scopes.proofs.laws.law_leaving.Goals as goal

pub returns-clause-statements : goal.returns-clause-statements
returns-clause-statements c = λ scope ss whole. leaves_nothing scope ss whole

pub returns-clause-charts : goal.returns-clause-charts
returns-clause-charts c = λ scope ps whole. chart_leaves_nothing scope ps whole
