use Rattle.std.proofs.Common.{◌≡◌, drop}
use Rattle.std.specs.List.{list_all}
use Rattle.expr_types.proofs.answers.are_all.Given as goal

abbrev pub invariant-loop-is_marked : goal.invariant-loop-is_marked
invariant-loop-is_marked l = list_all (λ is_marked. is_marked) (drop l.is_marked-index l.marks) ≡ list_all (λ is_marked. is_marked) l.marks
