use Rattle.std.proofs.Common.{◌≡◌, ◌<◌, ◌++◌, length, drop}
use Rattle.std.specs.Option.{option_to_list, IfSome}
use Rattle.clause_core.specs.Steps.{left_of, clause_status, status_of_left}
use Rattle.clause_core.proofs.status.clause_status.Given as goal

abbrev pub invariant-loop-literal : goal.invariant-loop-literal
invariant-loop-literal l = record {
  same : status_of_left l.values (option_to_list l.found ++ left_of l.values (drop l.literal-index l.literals)) ≡ clause_status l.values l.literals;
  in_range : IfSome l.found (λ x. x.variable < length l.values);
}
