use Rattle.word_orders.proofs.Choices.{makes_choose, makes_sel}
use Rattle.word_orders.proofs.Comparisons.{makes_min, makes_max, makes_abs}
use Rattle.word_orders.proofs.operations.law_choices.Goals as goal

pub returns-clause-choose : goal.returns-clause-choose
returns-clause-choose c = makes_choose

pub returns-clause-sel : goal.returns-clause-sel
returns-clause-sel c = makes_sel

pub returns-clause-min : goal.returns-clause-min
returns-clause-min c = makes_min

pub returns-clause-max : goal.returns-clause-max
returns-clause-max c = makes_max

pub returns-clause-abs : goal.returns-clause-abs
returns-clause-abs c = makes_abs
