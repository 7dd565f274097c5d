-- What an IF and a CASE stand for.
use Rattle.std.proofs.Common.{◌≡◌, Option, Some, None}
use Rattle.std.specs.Prelude.{Vec}
use Rattle.std.specs.declared.alloc.Global.{Global}
use Rattle.source_tree.specs.declared.syntax.Arm.{Arm}
use Rattle.source_tree.specs.declared.syntax.Entry.{Entry}
use Rattle.source_tree.specs.declared.syntax.Expr.{Expr}
use Rattle.source_tree.specs.declared.syntax.Stmt.{Stmt as StmtTree, the_lemmas}
use Rattle.source_tree.specs.declared.syntax.Stmt.TheViews.{If, Case}
use Rattle.source_tree.specs.Syntax.{branch, cases, else_stmts}
use Rattle.source_tree.specs.SyntaxView.{stmt_view, stmts_of, arm_view, arms_of, arms_view, else_view, tree_view, entry_view, entries_of, entries_view}

pub stmt_view-If : (arms : Vec Arm Global) (other : Option (Vec StmtTree Global)) → stmt_view (If arms other) ≡ branch (arms_view arms.items) (else_view other)
stmt_view-If arms None = simp the_lemmas
stmt_view-If arms (Some stmts) = simp the_lemmas

pub stmt_view-Case : (e : Expr) (es : Vec Entry Global) (other : Option (Vec StmtTree Global)) → stmt_view (Case e es other) ≡ cases (tree_view e) (entries_view es.items) (else_view other)
stmt_view-Case e es None = simp the_lemmas
stmt_view-Case e es (Some stmts) = simp the_lemmas
