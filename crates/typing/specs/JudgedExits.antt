-- F5: an EXIT stands in a FOR, which it leaves (IEC 61131-3, 3.3.2.4). What stands in a FOR breaks nothing here, so that no FOR is looked into.
use Rattle.rules.specs.declared.rule.Rule.TheVariants.{ExitOutsideFor}
use Rattle.rules.specs.Judgements.{Judgement, ok, and, breaks}
use Rattle.source_tree.specs.Syntax.{Stmt, empty, assign, invoke, branch, cases, iterate, exit, return, Stmts, no_stmts, stmt, Arms, no_arms, arm, Entries, no_entries, entry, Otherwise, no_else, else_stmts}

abbrev mutual
  pub judged_exit : Stmt → Judgement
  judged_exit empty = ok
  judged_exit (assign p e) = ok
  judged_exit (invoke n at cs) = ok
  judged_exit (branch arms other) = and (judged_exits_of_arms arms) (judged_exits_of_else other)
  judged_exit (cases e es other) = and (judged_exits_of_entries es) (judged_exits_of_else other)
  judged_exit (iterate i ss) = ok
  judged_exit (exit at) = breaks ExitOutsideFor at
  judged_exit return = ok

  pub judged_exits : Stmts → Judgement
  judged_exits no_stmts = ok
  judged_exits (stmt s ss) = and (judged_exit s) (judged_exits ss)

  pub judged_exits_of_arms : Arms → Judgement
  judged_exits_of_arms no_arms = ok
  judged_exits_of_arms (arm e ss arms) = and (judged_exits ss) (judged_exits_of_arms arms)

  pub judged_exits_of_entries : Entries → Judgement
  judged_exits_of_entries no_entries = ok
  judged_exits_of_entries (entry ls ss es) = and (judged_exits ss) (judged_exits_of_entries es)

  pub judged_exits_of_else : Otherwise → Judgement
  judged_exits_of_else no_else = ok
  judged_exits_of_else (else_stmts ss) = judged_exits ss
