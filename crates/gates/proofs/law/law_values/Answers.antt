use Rattle.gates.proofs.NetLaws.{Means-and, Means-or, Means-xor, Means-mux}
use Rattle.gates.proofs.law.law_values.Goals as goal

pub returns-clause-and : goal.returns-clause-and
returns-clause-and c = λ v a b n m. (Means-and v a b n m).value

pub returns-clause-or : goal.returns-clause-or
returns-clause-or c = λ v a b n m. (Means-or v a b n m).value

pub returns-clause-xor : goal.returns-clause-xor
returns-clause-xor c = λ v a b n m. (Means-xor v a b n m).value

pub returns-clause-mux : goal.returns-clause-mux
returns-clause-mux c = λ v s a b n m. (Means-mux v s a b n m).value
