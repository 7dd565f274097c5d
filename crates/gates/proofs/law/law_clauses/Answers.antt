use Rattle.gates.proofs.ClauseLaws.{gate_holds, gate_satisfied, formula_IsModel, IsModel_formula}
use Rattle.gates.proofs.law.law_clauses.Goals as goal

pub returns-clause-gate : goal.returns-clause-gate
returns-clause-gate c = λ v x g. (λ h. gate_holds v x g h, λ h. gate_satisfied v x g h)

pub returns-clause-circuit : goal.returns-clause-circuit
returns-clause-circuit c = λ v n. (λ h. formula_IsModel v n h, λ m. IsModel_formula v n m)
