use Rattle.std.proofs.Common.{◌≡◌, ◌+◌, ◌*◌, ◌++◌, drop, map}
use denote.Param.Weighed.{most}
use Rattle.source_tree.specs.declared.syntax.Stmt.{Stmt}
use Rattle.source_tree.specs.declared.syntax.Stmt.TheShapes.{weighed-Stmt-If-1}
use Rattle.source_tree.proofs.syntax.Stmt.TheLaws.{the_size}
use Rattle.source_tree.proofs.syntax.Arm.TheLaws.{the_size as arm_size}
use Rattle.source_tree.proofs.syntax.Entry.TheLaws.{the_size as entry_size}
use Rattle.source_tree.specs.SyntaxView.{stmts_view, arms_view, entries_view}
use Rattle.program_tree.specs.View.{stmt_view as typed_view, arm_view as typed_arm_view, entry_view as typed_entry_view}
use Rattle.typing.specs.TypedLists.{statement_list, choice_list, entry_list}
use Rattle.stmt_types.proofs.typed_statements.+type_stmts.Given as goal

abbrev pub invariant-type_stmts-loop-stmt : goal.invariant-type_stmts-loop-stmt
invariant-type_stmts-loop-stmt g l =
    map typed_view l.list.items ++ statement_list (g.S.Scope.means l.scope) (stmts_view (drop l.stmt-index l.stmts)) ≡ statement_list (g.S.Scope.means l.scope) (stmts_view l.stmts)

abbrev pub invariant-type_arms-loop-arm : goal.invariant-type_arms-loop-arm
invariant-type_arms-loop-arm g l =
    map typed_arm_view l.list.items ++ choice_list (g.S.Scope.means l.scope) (arms_view (drop l.arm-index l.arms)) ≡ choice_list (g.S.Scope.means l.scope) (arms_view l.arms)

abbrev pub invariant-type_entries-loop-entry : goal.invariant-type_entries-loop-entry
invariant-type_entries-loop-entry g l =
    map typed_entry_view l.list.items ++ entry_list (g.S.Scope.means l.scope) l.kind (entries_view (drop l.entry-index l.entries)) ≡ entry_list (g.S.Scope.means l.scope) l.kind (entries_view l.entries)

abbrev pub decreases-type_stmt : goal.decreases-type_stmt
decreases-type_stmt g l = 3 * the_size l.stmt.now

abbrev pub decreases-type_stmts : goal.decreases-type_stmts
decreases-type_stmts g l = 3 * most the_size l.stmts.now + 1

abbrev pub decreases-type_arms : goal.decreases-type_arms
decreases-type_arms g l = 3 * most arm_size l.arms.now + 1

abbrev pub decreases-type_entries : goal.decreases-type_entries
decreases-type_entries g l = 3 * most entry_size l.entries.now + 1

abbrev pub decreases-type_else : goal.decreases-type_else
decreases-type_else g l = 3 * weighed-Stmt-If-1.weight Stmt the_size l.other.now + 2
