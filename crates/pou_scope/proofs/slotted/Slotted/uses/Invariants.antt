use Rattle.std.proofs.Common.{◌≡◌, ◌++◌, map, take}
use Rattle.call_order.specs.Uses.{graph_of}
use Rattle.pou_scope.specs.SlottedView.{scope_slotted}
use Rattle.naming.specs.DeclarationUses.{used_by_type, used_by_initial}
use Rattle.naming.specs.ScopeView.{variables_view}
use Rattle.pou_scope.proofs.slotted.Slotted.uses.Given as goal

abbrev pub invariant-loop-variable : goal.invariant-loop-variable
invariant-loop-variable l = graph_of l.all.items ≡ map (λ v. used_by_type (scope_slotted l.self) v.kind ++ used_by_initial (scope_slotted l.self) v.initial) (variables_view (take l.variable-index l.self.variables.now))
