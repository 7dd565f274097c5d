-- What statements are told to break by their EXITs, statement by statement, behind what was judged so far.
use Rattle.rules.specs.declared.rule.Rule.TheVariants.{ExitOutsideFor}
use Rattle.rules.specs.declared.outcome.Outcome.{Outcome}
use Rattle.rules.specs.Judgements.{breaks}
use Rattle.rules.specs.Outcomes.{outcome_of, both}
use Rattle.source_tree.specs.Syntax.{Stmt, empty, assign, invoke, branch, cases, iterate, exit, return, Stmts, no_stmts, stmt, Arms, no_arms, arm, Entries, no_entries, entry, Otherwise, no_else, else_stmts}

abbrev mutual
  pub exit_outcome : Outcome → Stmt → Outcome
  exit_outcome o empty = o
  exit_outcome o (assign p e) = o
  exit_outcome o (invoke n at cs) = o
  exit_outcome o (branch arms other) = exits_of_else_outcome (exits_of_arms_outcome o arms) other
  exit_outcome o (cases e es other) = exits_of_else_outcome (exits_of_entries_outcome o es) other
  exit_outcome o (iterate i ss) = o
  exit_outcome o (exit at) = both o (outcome_of (breaks ExitOutsideFor at))
  exit_outcome o return = o

  pub exits_outcome : Outcome → Stmts → Outcome
  exits_outcome o no_stmts = o
  exits_outcome o (stmt s ss) = exits_outcome (exit_outcome o s) ss

  pub exits_of_arms_outcome : Outcome → Arms → Outcome
  exits_of_arms_outcome o no_arms = o
  exits_of_arms_outcome o (arm e ss arms) = exits_of_arms_outcome (exits_outcome o ss) arms

  pub exits_of_entries_outcome : Outcome → Entries → Outcome
  exits_of_entries_outcome o no_entries = o
  exits_of_entries_outcome o (entry ls ss es) = exits_of_entries_outcome (exits_outcome o ss) es

  pub exits_of_else_outcome : Outcome → Otherwise → Outcome
  exits_of_else_outcome o no_else = o
  exits_of_else_outcome o (else_stmts ss) = exits_outcome o ss
