-- The scope of variables and their slots.
use Rattle.pou_scope.specs.declared.slotted.Slotted.{Slotted}
use Rattle.naming.specs.Scopes.{PouScope, scope_with}
use Rattle.naming.specs.ScopeView.{variables_view}

abbrev pub scope_slotted : Slotted → PouScope
scope_slotted s = scope_with s.has_fault (variables_view s.variables.now)
