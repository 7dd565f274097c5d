-- Statements that the code holds, beside statements that are read.
use Rattle.std.proofs.Common.{◌≡◌, ℕ, zero, suc, ◌-◌, ◌<◌, List, [], ◌∷◌, ◌++◌, map, refl, ap, ◌∙◌, arith, Option, Some, None}
use Rattle.std.specs.Prelude.{Box, Vec}
use Rattle.std.specs.declared.alloc.Global.{Global}
use Rattle.std.proofs.lemmas.List.{map_push}
use Rattle.source_tree.specs.Syntax.{Symbol, Stmt, branch, cases, iterate, stmt, arm, entry}
use Rattle.source_tree.specs.declared.syntax.Expr.{Expr}
use Rattle.source_tree.specs.declared.syntax.Stmt.{Stmt as StmtTree, the_lemmas}
use Rattle.source_tree.specs.declared.syntax.Stmt.TheVariants.{If, Case, For}
use Rattle.source_tree.specs.declared.syntax.Arm.{Arm, the_lemmas as arm_lemmas}
use Rattle.source_tree.specs.declared.syntax.Label.{Label}
use Rattle.source_tree.specs.declared.syntax.Entry.{Entry, the_lemmas as entry_lemmas}
use Rattle.source_tree.specs.declared.syntax.Iteration.{Iteration}
use Rattle.source_tree.specs.SyntaxView.{tree_view, stmts_of, stmt_view, stmts_view, ArmData, arms_of, arm_view, arms_view, labels_view, EntryData, entries_of, entry_view, entries_view, iteration_view, else_view}
use Rattle.grammar.specs.Expressions.{expression}
use Rattle.grammar.specs.declared.opener.Opener.{Opener}
use Rattle.grammar.specs.Statements.{add_stmt, add_arm, add_entry, statements, opened, nested}

pub nested_step : (turns depth : ℕ) (o : Opener) (ts : List Symbol) → 0 < depth → nested turns depth o ts ≡ opened turns (expression turns (depth - 1)) (statements turns (depth - 1)) o ts
unfolding nested statements
nested_step turns zero o ts some = absurd (omega arith)
nested_step turns (suc k) o ts some = let e : suc k - 1 ≡ k = omega arith in rw e refl

stmts_of-push : (ss : List Stmt) (s : Stmt) → stmts_of (ss ++ s ∷ []) ≡ add_stmt (stmts_of ss) s
stmts_of-push [] s = refl
stmts_of-push (x ∷ ss) s = ap (stmt x) (stmts_of-push ss s)

pub stmts-push : (ss : List StmtTree) (s : StmtTree) → stmts_view (ss ++ s ∷ []) ≡ add_stmt (stmts_view ss) (stmt_view s)
stmts-push ss s = ap stmts_of (map_push stmt_view ss s) ∙ stmts_of-push (map stmt_view ss) (stmt_view s)

arms_of-push : (arms : List ArmData) (a : ArmData) → arms_of (arms ++ a ∷ []) ≡ add_arm (arms_of arms) a.0 a.1
arms_of-push [] a = refl
arms_of-push (x ∷ xs) a = ap (arm x.0 x.1) (arms_of-push xs a)

arm_seen : (e : Expr) (ss : Vec StmtTree Global) → arm_view (record { condition = e; body = ss }) ≡ (tree_view e, stmts_view ss.items)
arm_seen e ss = simp arm_lemmas

pub arms-push : (arms : List Arm) (e : Expr) (ss : Vec StmtTree Global) → arms_view (arms ++ record { condition = e; body = ss } ∷ []) ≡ add_arm (arms_view arms) (tree_view e) (stmts_view ss.items)
arms-push arms e ss =
    let a : Arm = record { condition = e; body = ss } in
    ap arms_of (map_push arm_view arms a) ∙ arms_of-push (map arm_view arms) (arm_view a) ∙ ap (λ (x : ArmData). add_arm (arms_view arms) x.0 x.1) (arm_seen e ss)

pub stmt_branch : (arms : Vec Arm Global) (other : Option (Vec StmtTree Global)) → stmt_view (If arms other) ≡ branch (arms_view arms.items) (else_view other)
stmt_branch arms None = simp the_lemmas
stmt_branch arms (Some v) = simp the_lemmas

entries_of-push : (es : List EntryData) (e : EntryData) → entries_of (es ++ e ∷ []) ≡ add_entry (entries_of es) e.0 e.1
entries_of-push [] e = refl
entries_of-push (x ∷ xs) e = ap (entry x.0 x.1) (entries_of-push xs e)

entry_seen : (ls : Vec Label Global) (ss : Vec StmtTree Global) → entry_view (record { labels = ls; body = ss }) ≡ (labels_view ls.items, stmts_view ss.items)
entry_seen ls ss = simp entry_lemmas

pub entries-push : (es : List Entry) (ls : Vec Label Global) (ss : Vec StmtTree Global) → entries_view (es ++ record { labels = ls; body = ss } ∷ []) ≡ add_entry (entries_view es) (labels_view ls.items) (stmts_view ss.items)
entries-push es ls ss =
    let e : Entry = record { labels = ls; body = ss } in
    ap entries_of (map_push entry_view es e) ∙ entries_of-push (map entry_view es) (entry_view e) ∙ ap (λ (x : EntryData). add_entry (entries_view es) x.0 x.1) (entry_seen ls ss)

pub stmt_cases : (e : Expr) (es : Vec Entry Global) (other : Option (Vec StmtTree Global)) → stmt_view (Case e es other) ≡ cases (tree_view e) (entries_view es.items) (else_view other)
stmt_cases e es None = simp the_lemmas
stmt_cases e es (Some v) = simp the_lemmas

pub stmt_iterate : (i : Box Iteration Global) (ss : Vec StmtTree Global) → stmt_view (For i ss) ≡ iterate (iteration_view i.value) (stmts_view ss.items)
stmt_iterate i ss = simp the_lemmas
