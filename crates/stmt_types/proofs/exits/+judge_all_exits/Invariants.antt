use Rattle.std.proofs.Common.{◌≡◌, ◌+◌, ◌*◌, drop}
use denote.Param.Weighed.{most}
use Rattle.source_tree.specs.declared.syntax.Stmt.{Stmt}
use Rattle.source_tree.specs.declared.syntax.Stmt.TheShapes.{weighed-Stmt-If-1}
use Rattle.source_tree.proofs.syntax.Stmt.TheLaws.{the_size}
use Rattle.source_tree.proofs.syntax.Arm.TheLaws.{the_size as arm_size}
use Rattle.source_tree.proofs.syntax.Entry.TheLaws.{the_size as entry_size}
use Rattle.source_tree.specs.SyntaxView.{stmts_view, arms_view, entries_view}
use Rattle.stmt_types.specs.ExitOutcomes.{exits_outcome, exits_of_arms_outcome, exits_of_entries_outcome}
use Rattle.stmt_types.proofs.exits.+judge_all_exits.Given as goal

abbrev pub invariant-judge_all_exits-loop-stmt : goal.invariant-judge_all_exits-loop-stmt
invariant-judge_all_exits-loop-stmt l = exits_outcome l.judged (stmts_view (drop l.stmt-index l.stmts)) ≡ exits_outcome l.initial.judged (stmts_view l.stmts)

abbrev pub invariant-judge_exits_of_arms-loop-arm : goal.invariant-judge_exits_of_arms-loop-arm
invariant-judge_exits_of_arms-loop-arm l = exits_of_arms_outcome l.judged (arms_view (drop l.arm-index l.arms)) ≡ exits_of_arms_outcome l.initial.judged (arms_view l.arms)

abbrev pub invariant-judge_exits_of_entries-loop-entry : goal.invariant-judge_exits_of_entries-loop-entry
invariant-judge_exits_of_entries-loop-entry l = exits_of_entries_outcome l.judged (entries_view (drop l.entry-index l.entries)) ≡ exits_of_entries_outcome l.initial.judged (entries_view l.entries)

abbrev pub decreases-judge_exit : goal.decreases-judge_exit
decreases-judge_exit l = 3 * the_size l.stmt.now

abbrev pub decreases-judge_all_exits : goal.decreases-judge_all_exits
decreases-judge_all_exits l = 3 * most the_size l.stmts.now + 1

abbrev pub decreases-judge_exits_of_arms : goal.decreases-judge_exits_of_arms
decreases-judge_exits_of_arms l = 3 * most arm_size l.arms.now + 1

abbrev pub decreases-judge_exits_of_entries : goal.decreases-judge_exits_of_entries
decreases-judge_exits_of_entries l = 3 * most entry_size l.entries.now + 1

abbrev pub decreases-judge_exits_of_else : goal.decreases-judge_exits_of_else
decreases-judge_exits_of_else l = 3 * weighed-Stmt-If-1.weight Stmt the_size l.other.now + 2
