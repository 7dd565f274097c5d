use Rattle.std.proofs.Common.{◌≡◌, ◌+◌, ◌*◌, drop}
use denote.Param.Weighed.{most}
use Rattle.source_tree.specs.declared.syntax.Stmt.{Stmt}
use Rattle.source_tree.specs.declared.syntax.Stmt.TheShapes.{weighed-Stmt-If-1}
use Rattle.source_tree.proofs.syntax.Stmt.TheLaws.{the_size}
use Rattle.source_tree.proofs.syntax.Arm.TheLaws.{the_size as arm_size}
use Rattle.source_tree.proofs.syntax.Entry.TheLaws.{the_size as entry_size}
use Rattle.source_tree.specs.SyntaxView.{stmts_view, arms_view, entries_view}
use Rattle.typing.specs.Outcomes.{stmts_outcome, arms_outcome, bodies_outcome}
use Rattle.stmt_types.proofs.statements.+judge_stmts.Given as goal

abbrev pub invariant-judge_all-loop-stmt : goal.invariant-judge_all-loop-stmt
invariant-judge_all-loop-stmt g l =
    stmts_outcome (g.S.Scope.means l.scope) l.controls l.judged (stmts_view (drop l.stmt-index l.stmts)) ≡ stmts_outcome (g.S.Scope.means l.scope) l.controls l.initial.judged (stmts_view l.stmts)

abbrev pub invariant-judge_arms-loop-arm : goal.invariant-judge_arms-loop-arm
invariant-judge_arms-loop-arm g l =
    arms_outcome (g.S.Scope.means l.scope) l.controls l.judged (arms_view (drop l.arm-index l.arms)) ≡ arms_outcome (g.S.Scope.means l.scope) l.controls l.initial.judged (arms_view l.arms)

abbrev pub invariant-judge_bodies-loop-entry : goal.invariant-judge_bodies-loop-entry
invariant-judge_bodies-loop-entry g l =
    bodies_outcome (g.S.Scope.means l.scope) l.controls l.judged (entries_view (drop l.entry-index l.entries)) ≡ bodies_outcome (g.S.Scope.means l.scope) l.controls l.initial.judged (entries_view l.entries)

abbrev pub decreases-judge_stmt : goal.decreases-judge_stmt
decreases-judge_stmt g l = 3 * the_size l.stmt.now

abbrev pub decreases-judge_all : goal.decreases-judge_all
decreases-judge_all g l = 3 * most the_size l.stmts.now + 1

abbrev pub decreases-judge_arms : goal.decreases-judge_arms
decreases-judge_arms g l = 3 * most arm_size l.arms.now + 1

abbrev pub decreases-judge_bodies : goal.decreases-judge_bodies
decreases-judge_bodies g l = 3 * most entry_size l.entries.now + 1

abbrev pub decreases-judge_else : goal.decreases-judge_else
decreases-judge_else g l = 3 * weighed-Stmt-If-1.weight Stmt the_size l.other.now + 2
