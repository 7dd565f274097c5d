use Rattle.std.proofs.Common.{◌≡◌, ◌++◌, map, drop}
use Rattle.naming.specs.ScopeView.{variables_view}
use Rattle.decl_types.specs.Bodies.{file_in}
use Rattle.decl_types.specs.Told.{told_in}
use Rattle.decl_types.specs.ToldView.{told_view}
use Rattle.decl_types.proofs.told.told_in.Given as goal

abbrev pub invariant-loop-variable : goal.invariant-loop-variable
invariant-loop-variable l =
    map told_view l.list.items ++ told_in (file_in l.domains) (variables_view (drop l.variable-index l.variables)) ≡ told_in (file_in l.domains) (variables_view l.variables)
