use Rattle.typed_scopes.proofs.Statements.{stmts_are}
use Rattle.typed_scopes.proofs.laws.law_statements.Goals as goal

pub returns : goal.returns
returns c = λ pous b last scope uses fits controls ss within levels whole. stmts_are pous b last scope uses fits controls ss within levels whole
