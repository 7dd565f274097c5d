use Rattle.std.proofs.Common.{◌≡◌, ◌<◌, ◌^◌, drop, length}
use Rattle.derivation_check.specs.Checks.{held_of}
use Rattle.derivation_check.specs.Deletions.{may_delete_all, without_all}
use Rattle.judgement.specs.Steps.{hints_of}
use Rattle.finding_check.proofs.logs.delete_all.Given as goal

abbrev pub invariant-loop-id : goal.invariant-loop-id
invariant-loop-id l = record {
  may : may_delete_all l.checker (hints_of (drop l.id-index l.ids)) ≡ may_delete_all l.initial.checker (hints_of l.ids);
  few : length (held_of l.checker) < 2 ^ 32;
  left : without_all l.checker (hints_of (drop l.id-index l.ids)) ≡ without_all l.initial.checker (hints_of l.ids);
}
