use Rattle.word_orders.proofs.Comparisons.{makes_equal, makes_is_zero, makes_less, makes_comparison, makes_outside}
use Rattle.word_orders.proofs.operations.law_comparisons.Goals as goal

pub returns-clause-equal : goal.returns-clause-equal
returns-clause-equal c = makes_equal

pub returns-clause-is_zero : goal.returns-clause-is_zero
returns-clause-is_zero c = makes_is_zero

pub returns-clause-less : goal.returns-clause-less
returns-clause-less c = makes_less

pub returns-clause-compare : goal.returns-clause-compare
returns-clause-compare c = makes_comparison

pub returns-clause-outside : goal.returns-clause-outside
returns-clause-outside c = makes_outside
