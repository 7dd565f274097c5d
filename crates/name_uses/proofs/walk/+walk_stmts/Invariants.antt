use Rattle.std.proofs.Common.{◌≡◌, ◌++◌, drop}
use Rattle.source_tree.specs.SyntaxView.{stmts_view, arms_view, entries_view}
use Rattle.naming.specs.Broken.{in_stmts, in_arms, in_entries}
use Rattle.naming.specs.Circles.{calls_in_stmts, calls_in_arms, calls_in_entries}
use Rattle.pou_scope.specs.NamesView.{file_in, pou_in}
use Rattle.rules.specs.Outcomes.{outcome_of, both}
use Rattle.name_uses.proofs.walk.+walk_stmts.Given as goal

abbrev pub invariant-walk_arms-loop-arm : goal.invariant-walk_arms-loop-arm
invariant-walk_arms-loop-arm l = record {
  judged :
      both l.outcome (outcome_of (in_arms (file_in l.scope.names) (pou_in l.scope.names) (arms_view (drop l.arm-index l.arms))))
      ≡ both l.fn.outcome (outcome_of (in_arms (file_in l.scope.names) (pou_in l.scope.names) (arms_view l.arms)));
  calls :
      l.calls.items ++ calls_in_arms (file_in l.scope.names) (arms_view (drop l.arm-index l.arms))
      ≡ l.fn.calls.items ++ calls_in_arms (file_in l.scope.names) (arms_view l.arms);
}

abbrev pub invariant-walk_stmts-loop-stmt : goal.invariant-walk_stmts-loop-stmt
invariant-walk_stmts-loop-stmt l = record {
  judged :
      both l.outcome (outcome_of (in_stmts (file_in l.scope.names) (pou_in l.scope.names) (stmts_view (drop l.stmt-index l.stmts))))
      ≡ both l.fn.outcome (outcome_of (in_stmts (file_in l.scope.names) (pou_in l.scope.names) (stmts_view l.stmts)));
  calls :
      l.calls.items ++ calls_in_stmts (file_in l.scope.names) (stmts_view (drop l.stmt-index l.stmts))
      ≡ l.fn.calls.items ++ calls_in_stmts (file_in l.scope.names) (stmts_view l.stmts);
}

abbrev pub invariant-walk_entries-loop-entry : goal.invariant-walk_entries-loop-entry
invariant-walk_entries-loop-entry l = record {
  judged :
      both l.outcome (outcome_of (in_entries (file_in l.scope.names) (pou_in l.scope.names) (entries_view (drop l.entry-index l.entries))))
      ≡ both l.fn.outcome (outcome_of (in_entries (file_in l.scope.names) (pou_in l.scope.names) (entries_view l.entries)));
  calls :
      l.calls.items ++ calls_in_entries (file_in l.scope.names) (entries_view (drop l.entry-index l.entries))
      ≡ l.fn.calls.items ++ calls_in_entries (file_in l.scope.names) (entries_view l.entries);
}
