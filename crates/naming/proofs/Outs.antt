-- The data of a tree's parts, by their fields.
use Rattle.std.proofs.Common.{◌≡◌, option_map}
use Rattle.source_tree.specs.declared.syntax.Link.{Link, out-Link}
use Rattle.source_tree.specs.declared.syntax.Argument.{Argument, out-Argument}
use Rattle.source_tree.specs.declared.syntax.Arm.{Arm, out-Arm}
use Rattle.source_tree.specs.declared.syntax.Entry.{Entry, out-Entry}
use Rattle.source_tree.specs.declared.syntax.Expr.TheFolds.{fold_out-Link, fold_out-Argument}
use Rattle.source_tree.specs.declared.syntax.Stmt.TheFolds.{fold_out-Arm, fold_out-Entry}
use Rattle.source_tree.specs.Syntax.{Tree, Stmt}
use Rattle.source_tree.specs.SyntaxView.{LinkData, ArgumentData, ArmData, EntryData, expr_step, argument_step, link_step, stmt_step, arm_step, entry_step, name_view, tree_view, link_view, labels_view, argument_view, stmts_view, arm_view, entry_view}

pub link_view-out : (l : Link) → link_view l ≡ ((out-Link l).operator, (out-Link l).at, tree_view (out-Link l).right)
link_view-out = fold_out-Link Tree ArgumentData LinkData expr_step argument_step link_step

pub argument_view-out : (a : Argument) → argument_view a ≡ (option_map name_view (out-Argument a).name, tree_view (out-Argument a).value)
argument_view-out = fold_out-Argument Tree ArgumentData LinkData expr_step argument_step link_step

pub arm_view-out : (a : Arm) → arm_view a ≡ (tree_view (out-Arm a).condition, stmts_view (out-Arm a).body.items)
arm_view-out = fold_out-Arm Stmt ArmData EntryData stmt_step arm_step entry_step

pub entry_view-out : (e : Entry) → entry_view e ≡ (labels_view (out-Entry e).labels.items, stmts_view (out-Entry e).body.items)
entry_view-out = fold_out-Entry Stmt ArmData EntryData stmt_step arm_step entry_step
