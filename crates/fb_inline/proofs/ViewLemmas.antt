-- The views of expressions and statements by their parts, what is left of their lists, one more statement, and how many items a list in memory has.
use Rattle.std.proofs.Common.{◌≡◌, ℕ, zero, suc, ◌+◌, ◌<◌, ◌^◌, List, [], ◌∷◌, ◌++◌, length, drop, get_or, ap, append_assoc, arith, Vec, Box, Global}
use Rattle.std.proofs.lemmas.List.{append-nil}
use Rattle.plc_types.specs.declared.elementary.Elementary.{Elementary}
use Rattle.plc_types.specs.declared.function.Function.{Function}
use Rattle.plc_types.specs.declared.operator.UnaryOperator.{UnaryOperator}
use Rattle.program_tree.specs.declared.typed.StepCells.{StepCells}
use Rattle.program_tree.specs.declared.typed.Turns.{Turns}
use Rattle.program_tree.specs.declared.typed.TypedExpr.{TypedExpr, the_lemmas as expr_lemmas}
use Rattle.program_tree.specs.declared.typed.TypedExpr.TheVariants as expressions
use Rattle.program_tree.specs.declared.typed.Operand.{Operand}
use Rattle.program_tree.specs.declared.typed.TypedStmt.{TypedStmt, the_lemmas as stmt_lemmas}
use Rattle.program_tree.specs.declared.typed.TypedStmt.TheVariants as variants
use Rattle.program_tree.specs.declared.typed.TypedStmt.TheFolds.{fold_out-TypedArm, fold_out-TypedEntry, fold_out-TypedAction}
use Rattle.program_tree.specs.declared.typed.TypedArm.{TypedArm, out-TypedArm}
use Rattle.program_tree.specs.declared.typed.TypedEntry.{TypedEntry, out-TypedEntry}
use Rattle.program_tree.specs.declared.typed.TypedAction.{TypedAction, out-TypedAction}
use Rattle.program_tree.specs.declared.typed.TypedTransition.{TypedTransition}
use Rattle.program_tree.specs.Tree.{cell, unary, chain, call_standard, call_function, Statement, assign, call_block, choice, cases, repeat, chart, own_body, statement, entry, action}
use Rattle.program_tree.specs.View.{expr_view, operands_view, arguments_view, stmt_step, action_step, arm_step, entry_step, ActionData, ChoiceData, EntryData, stmt_view, stmts_view, arm_view, choices_view, entry_view, entries_view, action_view, actions_view, transition_view, transitions_view}
use Rattle.flat_core.specs.declared.flat_tree.FlatStmt.{FlatStmt}
use Rattle.flat_core.specs.FlatView.{flat_view, flats_view}

-- ---- by their parts

pub cell-view : (place : ℕ) → expr_view (expressions.Cell place) ≡ cell place
cell-view place = simp expr_lemmas

pub unary-view : (o : UnaryOperator) (kind : Elementary) (e : Box TypedExpr Global) → expr_view (expressions.Unary o kind e) ≡ unary o kind (expr_view e.value)
unary-view o kind e = simp expr_lemmas

pub chain-view : (e : Box TypedExpr Global) (os : Vec Operand Global) → expr_view (expressions.Chain e os) ≡ chain (expr_view e.value) (operands_view os.items)
chain-view e os = simp expr_lemmas

pub standard-view : (f : Function) (kind : Elementary) (es : Vec TypedExpr Global) → expr_view (expressions.CallStandard f kind es) ≡ call_standard f kind (arguments_view es.items)
standard-view f kind es = simp expr_lemmas

pub function-view : (f : ℕ) (es : Vec TypedExpr Global) → expr_view (expressions.CallFunction f es) ≡ call_function f (arguments_view es.items)
function-view f es = simp expr_lemmas

pub assign-view : (target : ℕ) (e : TypedExpr) → stmt_view (variants.Assign target e) ≡ assign target (expr_view e)
assign-view target e = simp stmt_lemmas

pub run-view : (i offset : ℕ) → stmt_view (variants.CallBlock i offset) ≡ call_block i offset
run-view i offset = simp stmt_lemmas

pub if-view : (arms : Vec TypedArm Global) (other : Vec TypedStmt Global) → stmt_view (variants.If arms other) ≡ choice (choices_view arms.items) (stmts_view other.items)
if-view arms other = simp stmt_lemmas

pub case-view : (kind : Elementary) (e : TypedExpr) (es : Vec TypedEntry Global) (other : Vec TypedStmt Global) → stmt_view (variants.Case kind e es other) ≡ cases kind (expr_view e) (entries_view es.items) (stmts_view other.items)
case-view kind e es other = simp stmt_lemmas

pub for-view : (turns : Turns) (ss : Vec TypedStmt Global) → stmt_view (variants.For turns ss) ≡ repeat turns (stmts_view ss.items)
for-view turns ss = simp stmt_lemmas

pub body-view : (ss : Vec TypedStmt Global) → stmt_view (variants.Body ss) ≡ own_body (stmts_view ss.items)
body-view ss = simp stmt_lemmas

pub chart-view : (steps : Vec StepCells Global) (list : Vec TypedAction Global) (ts : Vec TypedTransition Global) → stmt_view (variants.Chart steps list ts) ≡ chart steps.items (actions_view list.items) (transitions_view ts.items)
chart-view steps list ts = simp stmt_lemmas

pub arm_view-out : (a : TypedArm) → arm_view a ≡ (expr_view (out-TypedArm a).condition, stmts_view (out-TypedArm a).body.items)
arm_view-out = fold_out-TypedArm Statement ActionData ChoiceData EntryData stmt_step action_step arm_step entry_step

pub entry_view-out : (e : TypedEntry) → entry_view e ≡ ((out-TypedEntry e).labels.items, stmts_view (out-TypedEntry e).body.items)
entry_view-out = fold_out-TypedEntry Statement ActionData ChoiceData EntryData stmt_step action_step arm_step entry_step

pub action_view-out : (a : TypedAction) → action_view a ≡ ((out-TypedAction a).latch, (out-TypedAction a).associations.items, stmts_view (out-TypedAction a).body.items)
action_view-out = fold_out-TypedAction Statement ActionData ChoiceData EntryData stmt_step action_step arm_step entry_step

-- ---- what is left of a list

pub left-statements : (list : List TypedStmt) (i : ℕ) (d t : TypedStmt) → i < length list → get_or list i d ≡ t → stmts_view (drop i list) ≡ statement (stmt_view t) (stmts_view (drop (i + 1) list))
left-statements [] i d t h is = absurd (omega (arith, h))
left-statements (x ∷ list) zero d t h is = ap (λ (y : TypedStmt). statement (stmt_view y) (stmts_view list)) is
left-statements (x ∷ list) (suc i) d t h is = let more : suc i + 1 ≡ suc (i + 1) = omega arith in rw more (left-statements list i d t (omega (arith, h)) is)

pub left-entries : (es : List TypedEntry) (i : ℕ) (d e : TypedEntry) → i < length es → get_or es i d ≡ e → entries_view (drop i es) ≡ entry (entry_view e).0 (entry_view e).1 (entries_view (drop (i + 1) es))
left-entries [] i d e h is = absurd (omega (arith, h))
left-entries (x ∷ es) zero d e h is = ap (λ (y : TypedEntry). entry (entry_view y).0 (entry_view y).1 (entries_view es)) is
left-entries (x ∷ es) (suc i) d e h is = let more : suc i + 1 ≡ suc (i + 1) = omega arith in rw more (left-entries es i d e (omega (arith, h)) is)

pub left-actions : (list : List TypedAction) (i : ℕ) (d a : TypedAction) → i < length list → get_or list i d ≡ a → actions_view (drop i list) ≡ action (action_view a).0 (action_view a).1 (action_view a).2 (actions_view (drop (i + 1) list))
left-actions [] i d a h is = absurd (omega (arith, h))
left-actions (x ∷ list) zero d a h is = ap (λ (y : TypedAction). action (action_view y).0 (action_view y).1 (action_view y).2 (actions_view list)) is
left-actions (x ∷ list) (suc i) d a h is = let more : suc i + 1 ≡ suc (i + 1) = omega arith in rw more (left-actions list i d a (omega (arith, h)) is)

pub left-transitions : (ts : List TypedTransition) (i : ℕ) (d t : TypedTransition) → i < length ts → get_or ts i d ≡ t → transitions_view (drop i ts) ≡ transition_view t ∷ transitions_view (drop (i + 1) ts)
left-transitions [] i d t h is = absurd (omega (arith, h))
left-transitions (x ∷ ts) zero d t h is = ap (λ (y : TypedTransition). transition_view y ∷ transitions_view ts) is
left-transitions (x ∷ ts) (suc i) d t h is = let more : suc i + 1 ≡ suc (i + 1) = omega arith in rw more (left-transitions ts i d t (omega (arith, h)) is)

-- ---- lists in memory

pub flats_view-push : (ts : List FlatStmt) (t : FlatStmt) → flats_view (ts ++ t ∷ []) ≡ flats_view ts ++ flat_view t
flats_view-push [] t = append-nil (flat_view t)
flats_view-push (x ∷ ts) t = rw (flats_view-push ts t) (simp append_assoc)

pub few-items : {X : Type 0} (v : Vec X Global) → length v.items < 2 ^ 63
few-items v = omega (arith, v.ok.0, v.ok.1, v.small)
