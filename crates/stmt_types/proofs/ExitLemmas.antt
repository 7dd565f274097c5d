-- What the EXITs of statements are told to break is what they break.
use Rattle.std.proofs.Common.{◌≡◌, refl, sym}
use Rattle.source_tree.specs.Syntax.{Stmt, empty, assign, invoke, branch, cases, iterate, exit, return, Stmts, no_stmts, stmt, Arms, no_arms, arm, Entries, no_entries, entry, Otherwise, no_else, else_stmts}
use Rattle.rules.specs.declared.outcome.Outcome.{Outcome}
use Rattle.rules.specs.Outcomes.{outcome_of, both}
use Rattle.rules.proofs.Outcomes.{both_ok, ok_both, then_on}
use Rattle.typing.specs.JudgedExits.{judged_exit, judged_exits, judged_exits_of_arms, judged_exits_of_entries, judged_exits_of_else}
use Rattle.stmt_types.specs.ExitOutcomes.{exit_outcome, exits_outcome, exits_of_arms_outcome, exits_of_entries_outcome, exits_of_else_outcome}

mutual
  exit_outcome-is : (o : Outcome) (s : Stmt) → exit_outcome o s ≡ both o (outcome_of (judged_exit s))
  exit_outcome-is o empty = sym (both_ok o)
  exit_outcome-is o (assign p e) = sym (both_ok o)
  exit_outcome-is o (invoke n at cs) = sym (both_ok o)
  exit_outcome-is o (branch arms other) =
      then_on o _ _ (judged_exits_of_arms arms) (judged_exits_of_else other) (exits_of_arms_outcome-is o arms) (exits_of_else_outcome-is (exits_of_arms_outcome o arms) other)
  exit_outcome-is o (cases e es other) =
      then_on o _ _ (judged_exits_of_entries es) (judged_exits_of_else other) (exits_of_entries_outcome-is o es) (exits_of_else_outcome-is (exits_of_entries_outcome o es) other)
  exit_outcome-is o (iterate i ss) = sym (both_ok o)
  exit_outcome-is o (exit at) = refl
  exit_outcome-is o return = sym (both_ok o)

  pub exits_outcome-is : (o : Outcome) (ss : Stmts) → exits_outcome o ss ≡ both o (outcome_of (judged_exits ss))
  exits_outcome-is o no_stmts = sym (both_ok o)
  exits_outcome-is o (stmt s ss) = then_on o _ _ (judged_exit s) (judged_exits ss) (exit_outcome-is o s) (exits_outcome-is (exit_outcome o s) ss)

  exits_of_arms_outcome-is : (o : Outcome) (arms : Arms) → exits_of_arms_outcome o arms ≡ both o (outcome_of (judged_exits_of_arms arms))
  exits_of_arms_outcome-is o no_arms = sym (both_ok o)
  exits_of_arms_outcome-is o (arm e ss arms) = then_on o _ _ (judged_exits ss) (judged_exits_of_arms arms) (exits_outcome-is o ss) (exits_of_arms_outcome-is (exits_outcome o ss) arms)

  exits_of_entries_outcome-is : (o : Outcome) (es : Entries) → exits_of_entries_outcome o es ≡ both o (outcome_of (judged_exits_of_entries es))
  exits_of_entries_outcome-is o no_entries = sym (both_ok o)
  exits_of_entries_outcome-is o (entry ls ss es) = then_on o _ _ (judged_exits ss) (judged_exits_of_entries es) (exits_outcome-is o ss) (exits_of_entries_outcome-is (exits_outcome o ss) es)

  exits_of_else_outcome-is : (o : Outcome) (other : Otherwise) → exits_of_else_outcome o other ≡ both o (outcome_of (judged_exits_of_else other))
  exits_of_else_outcome-is o no_else = sym (both_ok o)
  exits_of_else_outcome-is o (else_stmts ss) = exits_outcome-is o ss

pub ruleset exits_judged = (exits_outcome-is, ok_both)
