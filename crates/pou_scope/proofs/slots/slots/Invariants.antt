use Rattle.std.proofs.Common.{◌≡◌, [], take, drop}
use Rattle.naming.specs.Broken.{variables_twice}
use Rattle.rules.specs.Outcomes.{outcome_of, both}
use Rattle.naming.specs.ScopeView.{variables_view}
use Rattle.naming.specs.Slots.{slot_among}
use Rattle.naming.specs.Table.{Holds}
use Rattle.pou_scope.proofs.slots.slots.Given as goal

abbrev pub invariant-loop-place : goal.invariant-loop-place
invariant-loop-place l = record {
  held : Holds l.slots (slot_among l.has_fault (variables_view (take l.place l.variables)));
  once : both l.outcome (outcome_of (variables_twice l.has_fault (variables_view (take l.place l.variables)) (variables_view (drop l.place l.variables)))) ≡ outcome_of (variables_twice l.has_fault [] (variables_view l.variables));
}
