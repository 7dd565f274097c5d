use Rattle.typed_scopes.proofs.Charts.{chart_is}
use Rattle.typed_scopes.proofs.laws.law_charts.Goals as goal

pub returns : goal.returns
returns c = λ pous b last scope uses fits ps chart_fits within levels whole. chart_is pous b last scope uses fits ps chart_fits within levels whole
