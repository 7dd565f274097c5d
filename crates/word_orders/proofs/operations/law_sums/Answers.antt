use Rattle.word_orders.proofs.Sums.{makes_add, makes_sub, makes_neg, makes_mul}
use Rattle.word_orders.proofs.operations.law_sums.Goals as goal

pub returns-clause-add : goal.returns-clause-add
returns-clause-add c = makes_add

pub returns-clause-sub : goal.returns-clause-sub
returns-clause-sub c = makes_sub

pub returns-clause-neg : goal.returns-clause-neg
returns-clause-neg c = makes_neg

pub returns-clause-mul : goal.returns-clause-mul
returns-clause-mul c = makes_mul
