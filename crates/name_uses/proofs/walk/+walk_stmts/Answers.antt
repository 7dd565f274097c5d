use Rattle.std.proofs.Common.{◌≡◌, ℕ, ◌+◌, Option, Some, None, OnOk, List, [], ◌∷◌, ◌++◌, Vec, drop, map, ap, sym, ◌∙◌, subst, append_assoc, arith}
use Rattle.source_tree.specs.declared.syntax.Stmt.{Stmt as StmtTree}
use Rattle.source_tree.specs.declared.syntax.Stmt.TheViews.{If, Case}
use Rattle.source_tree.specs.declared.syntax.Stmt.TheVariants.{rolls-Empty, rolls-Assign, rolls-Call, rolls-For, rolls-Exit, rolls-Return}
use Rattle.source_tree.specs.declared.syntax.Stmt.TheFolds.{fold-roll-Stmt}
use Rattle.std.specs.declared.alloc.Global.{Global}
use Rattle.std.proofs.lemmas.List.{drop_all, append-nil}
use Rattle.source_tree.specs.declared.syntax.Connection.{Connection}
use Rattle.naming.specs.Seen.{Seen}
use Rattle.source_tree.specs.declared.syntax.Arm.{Arm}
use Rattle.source_tree.specs.declared.syntax.Entry.{Entry}
use Rattle.source_tree.specs.declared.syntax.Label.{Label}
use Rattle.source_tree.specs.declared.syntax.Iteration.{Iteration}
use Rattle.source_tree.specs.Syntax.{Stmt, empty, assign, invoke, branch, cases, iterate, exit, return, no_else, else_stmts}
use Rattle.source_tree.specs.SyntaxView.{name_view, connections_view, path_view, tree_view, stmt_view, stmts_view, stmts_of, ArmData, arm_view, arms_view, arms_of, EntryData, entry_view, entries_view, entries_of, labels_view, iteration_view, stmt_step, arm_step, entry_step}
use Rattle.source_tree.proofs.Branches.{stmt_view-If, stmt_view-Case}
use Rattle.naming.specs.Broken.{in_instance, instance_of, in_connections, in_target, in_tree, in_stmt, in_stmts, in_arms, in_labels, in_iteration, in_entries}
use Rattle.pou_scope.specs.NamesView.{file_in, pou_in}
use Rattle.naming.specs.Circles.{calls_in, calls_in_iteration, calls_in_stmt, calls_in_stmts, calls_in_arms, calls_in_entries}
use Rattle.rules.specs.declared.outcome.Outcome.{Outcome}
use Rattle.rules.specs.Judgements.{ok, and}
use Rattle.rules.specs.Outcomes.{outcome_of, both}
use Rattle.naming.specs.Scopes.{seen_named}
use Rattle.naming.proofs.Outs.{arm_view-out, entry_view-out}
use Rattle.rules.proofs.Outcomes.{both_ok, then_on, before_rest, loop_done}
use Rattle.naming.proofs.ListLemmas.{then_more}
use Rattle.naming.proofs.Steps.{view-drop}
use Rattle.name_uses.proofs.Parts.{behind}
use Rattle.name_uses.proofs.walk.+walk_stmts.Goals as goal

pub walk_stmt-returns-in-Assign-clause-judged : goal.walk_stmt-returns-in-Assign-clause-judged
walk_stmt-returns-in-Assign-clause-judged t c =
    let f = file_in c.args.scope.now.names in
    let p = pou_in c.args.scope.now.names in
    let q = path_view c.in-Assign.target in
    let shape : stmt_view c.args.stmt.now ≡ assign q (tree_view c.in-Assign.value) = ap stmt_view (c.in-Assign.is ∙ sym (rolls-Assign c.in-Assign.target c.in-Assign.value)) ∙ fold-roll-Stmt Stmt ArmData EntryData stmt_step arm_step entry_step _ in
    let target = c.and.ensures ∙ ap (both c.args.outcome.now) c.target.ensures in
    let all = behind c.args.outcome.now c.and.result (in_target f p (seen_named f p q.first.text) q) (in_tree f p (tree_view c.in-Assign.value)) target in
    rw shape (subst (λ (o : Outcome). OnOk c.walk_expr.result (c.walk_expr.new.outcome ≡ o)) all c.walk_expr.ensures.judged)

pub walk_stmt-returns-in-Some-clause-judged : goal.walk_stmt-returns-in-Some-clause-judged
walk_stmt-returns-in-Some-clause-judged t c =
    let f = file_in c.args.scope.now.names in
    let p = pou_in c.args.scope.now.names in
    let is = c.in-If.is ∙ ap (λ (o : Option (Vec StmtTree Global)). If c.in-If.arms o) c.in-Some.is in
    let shape : stmt_view c.args.stmt.now ≡ branch (arms_view c.in-If.arms.items) (else_stmts (stmts_view c.in-Some.stmts.items)) = ap stmt_view is ∙ stmt_view-If c.in-If.arms (Some c.in-Some.stmts) in
    let arms = c.in_ok-walk_arms-in-If.ensures.judged ∙ ap (λ (list : List Arm). both c.args.outcome.now (outcome_of (in_arms f p (arms_view list)))) c.deref-in-If.ensures.value in
    let other = ap (λ (list : List StmtTree). both c.walk_arms.new.outcome (outcome_of (in_stmts f p (stmts_view list)))) c.deref-in-Some.ensures.value
    ∙ behind c.args.outcome.now c.walk_arms.new.outcome (in_arms f p (arms_view c.in-If.arms.items)) (in_stmts f p (stmts_view c.in-Some.stmts.items)) arms in
    rw shape (subst (λ (o : Outcome). OnOk c.walk_stmts.result (c.walk_stmts.new.outcome ≡ o)) other c.walk_stmts.ensures.judged)

pub walk_stmts-loop-stmt-preserved : goal.walk_stmts-loop-stmt-preserved
walk_stmts-loop-stmt-preserved t c =
    let f = file_in c.args.scope.now.names in
    let p = pou_in c.args.scope.now.names in
    let x = c.stmt-item.result in
    let left = view-drop stmt_view c.args.stmts.now c.loop-stmt.stmt-index x (omega arith) c.stmt-item.is in
    let all = ap (λ ss. both c.loop-stmt.outcome (outcome_of (in_stmts f p (stmts_of ss)))) (sym left) ∙ c.loop-stmt.invariant.judged in
    let rest = stmts_view (drop (c.loop-stmt.stmt-index + 1) c.args.stmts.now) in
    let calls = c.loop-stmt.calls.items in
    record {
      judged = before_rest c.loop-stmt.outcome c.walk_stmt.new.outcome _ (in_stmt f p (stmt_view x)) (in_stmts f p rest) c.in_ok-walk_stmt.ensures.judged all;
      calls = then_more calls c.walk_stmt.new.calls.items (calls_in_stmt f (stmt_view x)) (calls_in_stmts f rest) _ c.in_ok-walk_stmt.ensures.calls (ap (λ ss. calls ++ calls_in_stmts f (stmts_of ss)) (sym left) ∙ c.loop-stmt.invariant.calls);
    }

pub walk_arms-loop-arm-preserved : goal.walk_arms-loop-arm-preserved
walk_arms-loop-arm-preserved t c =
    let f = file_in c.args.scope.now.names in
    let p = pou_in c.args.scope.now.names in
    let x = c.arm-item.result in
    let more = map arm_view (drop (c.loop-arm.arm-index + 1) c.args.arms.now) in
    let left = view-drop arm_view c.args.arms.now c.loop-arm.arm-index x (omega arith) c.arm-item.is ∙ ap (λ (a : ArmData). a ∷ more) (arm_view-out x) in
    let all = ap (λ arms. both c.loop-arm.outcome (outcome_of (in_arms f p (arms_of arms)))) (sym left) ∙ c.loop-arm.invariant.judged in
    let body = c.in_ok-walk_stmts.ensures.judged ∙ ap (λ (ss : List StmtTree). both c.walk_expr.new.outcome (outcome_of (in_stmts f p (stmts_view ss)))) c.deref.ensures.value in
    let step = then_on c.loop-arm.outcome c.walk_expr.new.outcome c.walk_stmts.new.outcome (in_tree f p (tree_view x.condition)) (in_stmts f p (stmts_view x.body.items)) c.in_ok-walk_expr.ensures.judged body in
    let calls = c.loop-arm.calls.items in
    let e = calls_in f (tree_view x.condition) in
    let ss = calls_in_stmts f (stmts_view x.body.items) in
    let called = c.in_ok-walk_stmts.ensures.calls ∙ ap (λ (list : List StmtTree). c.walk_expr.new.calls.items ++ calls_in_stmts f (stmts_view list)) c.deref.ensures.value ∙ ap (λ xs. xs ++ ss) c.in_ok-walk_expr.ensures.calls ∙ append_assoc calls e ss in
    record {
      judged = before_rest c.loop-arm.outcome c.walk_stmts.new.outcome _ (and (in_tree f p (tree_view x.condition)) (in_stmts f p (stmts_view x.body.items))) (in_arms f p (arms_of more)) step all;
      calls = then_more calls c.walk_stmts.new.calls.items (e ++ ss) (calls_in_arms f (arms_of more)) _ called (ap (λ arms. calls ++ calls_in_arms f (arms_of arms)) (sym left) ∙ c.loop-arm.invariant.calls);
    }

pub walk_entries-loop-entry-preserved : goal.walk_entries-loop-entry-preserved
walk_entries-loop-entry-preserved t c =
    let f = file_in c.args.scope.now.names in
    let p = pou_in c.args.scope.now.names in
    let x = c.entry-item.result in
    let labels = labels_view x.labels.items in
    let more = map entry_view (drop (c.loop-entry.entry-index + 1) c.args.entries.now) in
    let left = view-drop entry_view c.args.entries.now c.loop-entry.entry-index x (omega arith) c.entry-item.is ∙ ap (λ (e : EntryData). e ∷ more) (entry_view-out x) in
    let all = ap (λ es. both c.loop-entry.outcome (outcome_of (in_entries f p (entries_of es)))) (sym left) ∙ c.loop-entry.invariant.judged in
    let before = c.walk_labels.ensures ∙ ap (λ (ls : List Label). both c.loop-entry.outcome (outcome_of (in_labels f p (labels_view ls)))) c.deref.ensures.value in
    let body = c.in_ok-walk_stmts.ensures.judged ∙ ap (λ (ss : List StmtTree). both c.walk_labels.new.outcome (outcome_of (in_stmts f p (stmts_view ss)))) c.deref-in-loop-entry.ensures.value in
    let step = then_on c.loop-entry.outcome c.walk_labels.new.outcome c.walk_stmts.new.outcome (in_labels f p labels) (in_stmts f p (stmts_view x.body.items)) before body in
    let calls = c.loop-entry.calls.items in
    let ss = calls_in_stmts f (stmts_view x.body.items) in
    let called = c.in_ok-walk_stmts.ensures.calls ∙ ap (λ (list : List StmtTree). calls ++ calls_in_stmts f (stmts_view list)) c.deref-in-loop-entry.ensures.value in
    record {
      judged = before_rest c.loop-entry.outcome c.walk_stmts.new.outcome _ (and (in_labels f p labels) (in_stmts f p (stmts_view x.body.items))) (in_entries f p (entries_of more)) step all;
      calls = then_more calls c.walk_stmts.new.calls.items ss (calls_in_entries f (entries_of more)) _ called (ap (λ es. calls ++ calls_in_entries f (entries_of es)) (sym left) ∙ c.loop-entry.invariant.calls);
    }

pub walk_stmt-returns-in-Some-other-clause-judged : goal.walk_stmt-returns-in-Some-other-clause-judged
walk_stmt-returns-in-Some-other-clause-judged t c =
    let f = file_in c.args.scope.now.names in
    let p = pou_in c.args.scope.now.names in
    let e = tree_view c.in-Case.selector in
    let es = entries_view c.in-Case.entries.items in
    let ss = stmts_view c.in-Some-other.stmts.items in
    let is = c.in-Case.is ∙ ap (λ (o : Option (Vec StmtTree Global)). Case c.in-Case.selector c.in-Case.entries o) c.in-Some-other.is in
    let shape : stmt_view c.args.stmt.now ≡ cases e es (else_stmts ss) = ap stmt_view is ∙ stmt_view-Case c.in-Case.selector c.in-Case.entries (Some c.in-Some-other.stmts) in
    let entries = c.in_ok-walk_entries-in-Case.ensures.judged ∙ ap (λ (list : List Entry). both c.walk_expr-in-Case.new.outcome (outcome_of (in_entries f p (entries_view list)))) c.deref-in-Case.ensures.value in
    let front = then_on c.args.outcome.now c.walk_expr-in-Case.new.outcome c.walk_entries.new.outcome (in_tree f p e) (in_entries f p es) c.in_ok-walk_expr-in-Case.ensures.judged entries in
    let other = ap (λ (list : List StmtTree). both c.walk_entries.new.outcome (outcome_of (in_stmts f p (stmts_view list)))) c.deref-in-Some-other.ensures.value
    ∙ behind c.args.outcome.now c.walk_entries.new.outcome (and (in_tree f p e) (in_entries f p es)) (in_stmts f p ss) front in
    rw shape (subst (λ (o : Outcome). OnOk c.walk_stmts-in-Some-other.result (c.walk_stmts-in-Some-other.new.outcome ≡ o)) other c.walk_stmts-in-Some-other.ensures.judged)

pub walk_stmt-returns-in-None-other-clause-judged : goal.walk_stmt-returns-in-None-other-clause-judged
walk_stmt-returns-in-None-other-clause-judged t c =
    let f = file_in c.args.scope.now.names in
    let p = pou_in c.args.scope.now.names in
    let e = tree_view c.in-Case.selector in
    let es = entries_view c.in-Case.entries.items in
    let is = c.in-Case.is ∙ ap (λ (o : Option (Vec StmtTree Global)). Case c.in-Case.selector c.in-Case.entries o) c.in-None-other.is in
    let shape : stmt_view c.args.stmt.now ≡ cases e es no_else = ap stmt_view is ∙ stmt_view-Case c.in-Case.selector c.in-Case.entries None in
    let entries = c.in_ok-walk_entries-in-Case.ensures.judged ∙ ap (λ (list : List Entry). both c.walk_expr-in-Case.new.outcome (outcome_of (in_entries f p (entries_view list)))) c.deref-in-Case.ensures.value in
    let front = then_on c.args.outcome.now c.walk_expr-in-Case.new.outcome c.walk_entries.new.outcome (in_tree f p e) (in_entries f p es) c.in_ok-walk_expr-in-Case.ensures.judged entries in
    rw shape (then_on c.args.outcome.now c.walk_entries.new.outcome c.walk_entries.new.outcome (and (in_tree f p e) (in_entries f p es)) ok front (sym (both_ok c.walk_entries.new.outcome)))

pub walk_stmt-returns-in_ok-walk_iteration-in-For-clause-judged : goal.walk_stmt-returns-in_ok-walk_iteration-in-For-clause-judged
walk_stmt-returns-in_ok-walk_iteration-in-For-clause-judged t c =
    let f = file_in c.args.scope.now.names in
    let p = pou_in c.args.scope.now.names in
    let i = iteration_view c.in-For.iteration.value in
    let ss = stmts_view c.in-For.body.items in
    let shape : stmt_view c.args.stmt.now ≡ iterate i ss = ap stmt_view (c.in-For.is ∙ sym (rolls-For c.in-For.iteration c.in-For.body)) ∙ fold-roll-Stmt Stmt ArmData EntryData stmt_step arm_step entry_step _ in
    let values = c.in_ok-walk_iteration-in-For.ensures.judged ∙ ap (λ (x : Iteration). both c.args.outcome.now (outcome_of (in_iteration f p (iteration_view x)))) c.deref-in-For.ensures in
    let body = ap (λ (list : List StmtTree). both c.walk_iteration.new.outcome (outcome_of (in_stmts f p (stmts_view list)))) c.deref-in-For-2.ensures.value
    ∙ behind c.args.outcome.now c.walk_iteration.new.outcome (in_iteration f p i) (in_stmts f p ss) values in
    rw shape (subst (λ (o : Outcome). OnOk c.walk_stmts-in-For.result (c.walk_stmts-in-For.new.outcome ≡ o)) body c.walk_stmts-in-For.ensures.judged)

pub walk_stmt-returns-in_ok-walk_iteration-in-For-clause-calls : goal.walk_stmt-returns-in_ok-walk_iteration-in-For-clause-calls
walk_stmt-returns-in_ok-walk_iteration-in-For-clause-calls t c =
    let f = file_in c.args.scope.now.names in
    let old = c.args.calls.now.items in
    let i = iteration_view c.in-For.iteration.value in
    let ss = stmts_view c.in-For.body.items in
    let shape : stmt_view c.args.stmt.now ≡ iterate i ss = ap stmt_view (c.in-For.is ∙ sym (rolls-For c.in-For.iteration c.in-For.body)) ∙ fold-roll-Stmt Stmt ArmData EntryData stmt_step arm_step entry_step _ in
    let own = c.in_ok-walk_iteration-in-For.ensures.calls ∙ ap (λ (x : Iteration). old ++ calls_in_iteration f (iteration_view x)) c.deref-in-For.ensures in
    let all = ap (λ (list : List StmtTree). c.walk_iteration.new.calls.items ++ calls_in_stmts f (stmts_view list)) c.deref-in-For-2.ensures.value
    ∙ ap (λ (xs : List ℕ). xs ++ calls_in_stmts f ss) own
    ∙ append_assoc old (calls_in_iteration f i) (calls_in_stmts f ss)
    ∙ ap (λ s. old ++ calls_in_stmt f s) (sym shape) in
    subst (λ (xs : List ℕ). OnOk c.walk_stmts-in-For.result (c.walk_stmts-in-For.new.calls.items ≡ xs)) all c.walk_stmts-in-For.ensures.calls

pub walk_stmt-returns-in-Empty-clause-judged : goal.walk_stmt-returns-in-Empty-clause-judged
walk_stmt-returns-in-Empty-clause-judged t c =
    let f = file_in c.args.scope.now.names in
    let p = pou_in c.args.scope.now.names in
    let shape : stmt_view c.args.stmt.now ≡ empty = ap stmt_view (c.in-Empty.is ∙ sym rolls-Empty) ∙ fold-roll-Stmt Stmt ArmData EntryData stmt_step arm_step entry_step _ in
    sym (both_ok c.args.outcome.now) ∙ ap (λ s. both c.args.outcome.now (outcome_of (in_stmt f p s))) (sym shape)

pub walk_stmt-returns-in-Exit-clause-judged : goal.walk_stmt-returns-in-Exit-clause-judged
walk_stmt-returns-in-Exit-clause-judged t c =
    let f = file_in c.args.scope.now.names in
    let p = pou_in c.args.scope.now.names in
    let shape : stmt_view c.args.stmt.now ≡ exit c.in-Exit.field-0 = ap stmt_view (c.in-Exit.is ∙ sym (rolls-Exit c.in-Exit.field-0)) ∙ fold-roll-Stmt Stmt ArmData EntryData stmt_step arm_step entry_step _ in
    sym (both_ok c.args.outcome.now) ∙ ap (λ s. both c.args.outcome.now (outcome_of (in_stmt f p s))) (sym shape)

pub walk_stmt-returns-in-Return-clause-judged : goal.walk_stmt-returns-in-Return-clause-judged
walk_stmt-returns-in-Return-clause-judged t c =
    let f = file_in c.args.scope.now.names in
    let p = pou_in c.args.scope.now.names in
    let shape : stmt_view c.args.stmt.now ≡ return = ap stmt_view (c.in-Return.is ∙ sym rolls-Return) ∙ fold-roll-Stmt Stmt ArmData EntryData stmt_step arm_step entry_step _ in
    sym (both_ok c.args.outcome.now) ∙ ap (λ s. both c.args.outcome.now (outcome_of (in_stmt f p s))) (sym shape)

pub walk_stmt-returns-in-Call-clause-judged : goal.walk_stmt-returns-in-Call-clause-judged
walk_stmt-returns-in-Call-clause-judged t c =
    let f = file_in c.args.scope.now.names in
    let p = pou_in c.args.scope.now.names in
    let n = name_view c.in-Call.name in
    let cs = c.in-Call.connections.items in
    let s = seen_named f p n.text in
    let shape : stmt_view c.args.stmt.now ≡ invoke n c.in-Call.field-1 (connections_view cs) = ap stmt_view (c.in-Call.is ∙ sym (rolls-Call c.in-Call.name c.in-Call.field-1 c.in-Call.connections)) ∙ fold-roll-Stmt Stmt ArmData EntryData stmt_step arm_step entry_step _ in
    let name = c.and-in-Call.ensures ∙ ap (both c.args.outcome.now) (c.instance.ensures ∙ ap (λ (o : Option Seen). outcome_of (in_instance f p o n)) c.used-seen.ensures.seen) in
    let all = ap (λ block. both c.and-in-Call.result (outcome_of (in_connections f p block (connections_view c.deref.result.now)))) (c.instance_of.ensures ∙ ap instance_of c.used-seen.ensures.seen)
    ∙ ap (λ (list : List Connection). both c.and-in-Call.result (outcome_of (in_connections f p (instance_of s) (connections_view list)))) c.deref.ensures.value
    ∙ behind c.args.outcome.now c.and-in-Call.result (in_instance f p s n) (in_connections f p (instance_of s) (connections_view cs)) name in
    rw shape (subst (λ (o : Outcome). OnOk c.walk_connections.result (c.walk_connections.new.outcome ≡ o)) all c.walk_connections.ensures.judged)

pub walk_stmts-returns-clause-judged : goal.walk_stmts-returns-clause-judged
walk_stmts-returns-clause-judged t c =
    let f = file_in c.args.scope.now.names in
    let p = pou_in c.args.scope.now.names in
    let xs = c.args.stmts.now in
    let i = c.loop-stmt.stmt-index in
    let none : drop i xs ≡ [] = drop_all i xs (omega arith) in
    loop_done c.loop-stmt.outcome c.args.outcome.now (in_stmts f p (stmts_view (drop i xs))) (in_stmts f p (stmts_view xs)) c.loop-stmt.invariant.judged (ap (λ ys. in_stmts f p (stmts_view ys)) none)

pub walk_arms-returns-clause-judged : goal.walk_arms-returns-clause-judged
walk_arms-returns-clause-judged t c =
    let f = file_in c.args.scope.now.names in
    let p = pou_in c.args.scope.now.names in
    let xs = c.args.arms.now in
    let i = c.loop-arm.arm-index in
    let none : drop i xs ≡ [] = drop_all i xs (omega arith) in
    loop_done c.loop-arm.outcome c.args.outcome.now (in_arms f p (arms_view (drop i xs))) (in_arms f p (arms_view xs)) c.loop-arm.invariant.judged (ap (λ ys. in_arms f p (arms_view ys)) none)

pub walk_entries-returns-clause-judged : goal.walk_entries-returns-clause-judged
walk_entries-returns-clause-judged t c =
    let f = file_in c.args.scope.now.names in
    let p = pou_in c.args.scope.now.names in
    let xs = c.args.entries.now in
    let i = c.loop-entry.entry-index in
    let none : drop i xs ≡ [] = drop_all i xs (omega arith) in
    loop_done c.loop-entry.outcome c.args.outcome.now (in_entries f p (entries_view (drop i xs))) (in_entries f p (entries_view xs)) c.loop-entry.invariant.judged (ap (λ ys. in_entries f p (entries_view ys)) none)

pub walk_stmt-returns-in-Some-clause-calls : goal.walk_stmt-returns-in-Some-clause-calls
walk_stmt-returns-in-Some-clause-calls t c =
    let f = file_in c.args.scope.now.names in
    let old = c.args.calls.now.items in
    let arms = calls_in_arms f (arms_view c.in-If.arms.items) in
    let ss = calls_in_stmts f (stmts_view c.in-Some.stmts.items) in
    let is = c.in-If.is ∙ ap (λ (o : Option (Vec StmtTree Global)). If c.in-If.arms o) c.in-Some.is in
    let shape : stmt_view c.args.stmt.now ≡ branch (arms_view c.in-If.arms.items) (else_stmts (stmts_view c.in-Some.stmts.items)) = ap stmt_view is ∙ stmt_view-If c.in-If.arms (Some c.in-Some.stmts) in
    let front = c.in_ok-walk_arms-in-If.ensures.calls ∙ ap (λ (list : List Arm). old ++ calls_in_arms f (arms_view list)) c.deref-in-If.ensures.value in
    let all = ap (λ (list : List StmtTree). c.walk_arms.new.calls.items ++ calls_in_stmts f (stmts_view list)) c.deref-in-Some.ensures.value
    ∙ ap (λ (xs : List ℕ). xs ++ ss) front
    ∙ append_assoc old arms ss
    ∙ ap (λ s. old ++ calls_in_stmt f s) (sym shape) in
    subst (λ (xs : List ℕ). OnOk c.walk_stmts.result (c.walk_stmts.new.calls.items ≡ xs)) all c.walk_stmts.ensures.calls

pub walk_stmt-returns-in-Some-other-clause-calls : goal.walk_stmt-returns-in-Some-other-clause-calls
walk_stmt-returns-in-Some-other-clause-calls t c =
    let f = file_in c.args.scope.now.names in
    let old = c.args.calls.now.items in
    let e = tree_view c.in-Case.selector in
    let es = entries_view c.in-Case.entries.items in
    let ss = stmts_view c.in-Some-other.stmts.items in
    let is = c.in-Case.is ∙ ap (λ (o : Option (Vec StmtTree Global)). Case c.in-Case.selector c.in-Case.entries o) c.in-Some-other.is in
    let shape : stmt_view c.args.stmt.now ≡ cases e es (else_stmts ss) = ap stmt_view is ∙ stmt_view-Case c.in-Case.selector c.in-Case.entries (Some c.in-Some-other.stmts) in
    let front = c.in_ok-walk_entries-in-Case.ensures.calls
    ∙ ap (λ (list : List Entry). c.walk_expr-in-Case.new.calls.items ++ calls_in_entries f (entries_view list)) c.deref-in-Case.ensures.value
    ∙ ap (λ (xs : List ℕ). xs ++ calls_in_entries f es) c.in_ok-walk_expr-in-Case.ensures.calls
    ∙ append_assoc old (calls_in f e) (calls_in_entries f es) in
    let all = ap (λ (list : List StmtTree). c.walk_entries.new.calls.items ++ calls_in_stmts f (stmts_view list)) c.deref-in-Some-other.ensures.value
    ∙ ap (λ (xs : List ℕ). xs ++ calls_in_stmts f ss) front
    ∙ append_assoc old (calls_in f e ++ calls_in_entries f es) (calls_in_stmts f ss)
    ∙ ap (λ s. old ++ calls_in_stmt f s) (sym shape) in
    subst (λ (xs : List ℕ). OnOk c.walk_stmts-in-Some-other.result (c.walk_stmts-in-Some-other.new.calls.items ≡ xs)) all c.walk_stmts-in-Some-other.ensures.calls

pub walk_stmt-returns-in-None-other-clause-calls : goal.walk_stmt-returns-in-None-other-clause-calls
walk_stmt-returns-in-None-other-clause-calls t c =
    let f = file_in c.args.scope.now.names in
    let old = c.args.calls.now.items in
    let e = tree_view c.in-Case.selector in
    let es = entries_view c.in-Case.entries.items in
    let is = c.in-Case.is ∙ ap (λ (o : Option (Vec StmtTree Global)). Case c.in-Case.selector c.in-Case.entries o) c.in-None-other.is in
    let shape : stmt_view c.args.stmt.now ≡ cases e es no_else = ap stmt_view is ∙ stmt_view-Case c.in-Case.selector c.in-Case.entries None in
    c.in_ok-walk_entries-in-Case.ensures.calls
    ∙ ap (λ (list : List Entry). c.walk_expr-in-Case.new.calls.items ++ calls_in_entries f (entries_view list)) c.deref-in-Case.ensures.value
    ∙ ap (λ (xs : List ℕ). xs ++ calls_in_entries f es) c.in_ok-walk_expr-in-Case.ensures.calls
    ∙ append_assoc old (calls_in f e) (calls_in_entries f es)
    ∙ ap (λ (xs : List ℕ). old ++ xs) (sym (append-nil (calls_in f e ++ calls_in_entries f es)))
    ∙ ap (λ s. old ++ calls_in_stmt f s) (sym shape)
