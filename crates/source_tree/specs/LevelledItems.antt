-- Items of levelled expressions.
use Rattle.std.specs.Prelude.{List}
use Rattle.source_tree.specs.Syntax.{IterationData}
use Rattle.source_tree.specs.Levels.{IsLevelled, AreConnectionsLevelled, AreLabels, IsIterationLevelled}
use Rattle.source_tree.specs.StatementItems.{StatementItem, assignment, invocation, condition, selector, labels, iteration}

abbrev pub IsLevelledItem : List IterationData → StatementItem → Type 0
IsLevelledItem around (assignment p e) = IsLevelled e
IsLevelledItem around (invocation n at cs) = AreConnectionsLevelled cs
IsLevelledItem around (condition e) = IsLevelled e
IsLevelledItem around (selector e) = IsLevelled e
IsLevelledItem around (labels e before ls) = AreLabels ls
IsLevelledItem around (iteration i) = IsIterationLevelled i
