use Rattle.typed_scopes.proofs.TypedValues.{of_type}
use Rattle.typed_scopes.proofs.Expressions.{value_is}
use Rattle.typed_scopes.proofs.laws.law_expressions.Goals as goal

pub returns : goal.returns
returns c = λ pous b last scope uses fits expected e within levels whole known. of_type pous b last _ _ (value_is pous b last scope uses fits expected e within levels whole known)
