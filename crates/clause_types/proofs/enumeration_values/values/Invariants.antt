use Rattle.std.proofs.Common.{drop}
use Rattle.program_tree.specs.View.{lists_of_texts}
use Rattle.clause_types.specs.Sides.{FindsValues}
use Rattle.clause_types.proofs.enumeration_values.values.Given as goal

abbrev pub invariant-loop-kind : goal.invariant-loop-kind
invariant-loop-kind l = FindsValues l.found l.kind (lists_of_texts (drop l.kind l.types))
