use Rattle.std.proofs.Common.{◌≡◌, drop}
use Rattle.naming.specs.Broken.{in_declarations}
use Rattle.pou_scope.specs.NamesView.{file_in, pou_in}
use Rattle.rules.specs.Outcomes.{outcome_of, both}
use Rattle.naming.specs.ScopeView.{variables_view}
use Rattle.pou_scope.proofs.declarations.walk_declarations.Given as goal

abbrev pub invariant-loop-number : goal.invariant-loop-number
invariant-loop-number l =
    both l.outcome (outcome_of (in_declarations (file_in l.names) (pou_in l.names) l.number (variables_view (drop l.number l.names.own.now.variables.items))))
    ≡ both l.fn.outcome (outcome_of (in_declarations (file_in l.names) (pou_in l.names) 0 (pou_in l.names).variables))
