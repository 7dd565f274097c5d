use Rattle.std.proofs.Common.{◌≡◌, ◌∙◌, ap, map, arith}
use Rattle.std.proofs.lemmas.Grind.{common_steps}
use Rattle.source_tree.specs.SyntaxView.{stmts_view, arms_view, entries_view}
use Rattle.program_tree.specs.View.{statements_of, choices_of, entries_of, stmt_view as typed_view, arm_view as typed_arm_view, entry_view as typed_entry_view}
use Rattle.typing.specs.TypedLists.{statement_list, choice_list, entry_list}
use Rattle.typing_laws.proofs.TypedLemmas.{statements_of-list, choices_of-list, entries_of-list}
use Rattle.stmt_types.proofs.typed_statements.+type_stmts.Goals as goal

pub type_stmts-returns : goal.type_stmts-returns
type_stmts-returns g t c =
    let all : map typed_view c.loop-stmt.list.items ≡ statement_list (g.S.Scope.means c.args.scope.now) (stmts_view c.args.stmts.now) = grind (arith, common_steps) in
    ap statements_of all ∙ statements_of-list (g.S.Scope.means c.args.scope.now) (stmts_view c.args.stmts.now)

pub type_arms-returns : goal.type_arms-returns
type_arms-returns g t c =
    let all : map typed_arm_view c.loop-arm.list.items ≡ choice_list (g.S.Scope.means c.args.scope.now) (arms_view c.args.arms.now) = grind (arith, common_steps) in
    ap choices_of all ∙ choices_of-list (g.S.Scope.means c.args.scope.now) (arms_view c.args.arms.now)

pub type_entries-returns : goal.type_entries-returns
type_entries-returns g t c =
    let all : map typed_entry_view c.loop-entry.list.items ≡ entry_list (g.S.Scope.means c.args.scope.now) c.args.kind (entries_view c.args.entries.now) = grind (arith, common_steps) in
    ap entries_of all ∙ entries_of-list (g.S.Scope.means c.args.scope.now) c.args.kind (entries_view c.args.entries.now)
