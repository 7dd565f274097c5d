use Rattle.std.proofs.Common.{◌≡◌, take, vec_len}
use Rattle.propagation_trail.specs.Trails.{IsConsistent, IsTabled}
use Rattle.propagation_trail.proofs.trail.pop_to.Given as goal

abbrev pub invariant-loop-literals : goal.invariant-loop-literals
invariant-loop-literals l = record {
  tabled : IsTabled l.truths l.values;
  consistent : IsConsistent l.literals.items l.values;
  kept : take l.count l.literals.items ≡ take l.count l.initial.literals.items;
}

abbrev pub decreases-loop-literals : goal.decreases-loop-literals
decreases-loop-literals l = vec_len l.literals
