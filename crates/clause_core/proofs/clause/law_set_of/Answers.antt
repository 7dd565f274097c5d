use Rattle.clause_core.proofs.Sets.{list_any-set_of, is_set-with_all}
use Rattle.std.proofs.Common.{refl, []}
use Rattle.clause_core.proofs.clause.law_set_of.Goals as goal

pub returns-clause-same : goal.returns-clause-same
returns-clause-same c = λ literals test. list_any-set_of test literals

pub returns-clause-order : goal.returns-clause-order
returns-clause-order c = λ literals. is_set-with_all [] literals refl
