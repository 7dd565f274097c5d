-- What a step makes of an expression is in front of what the expression makes.
use Rattle.std.proofs.Common.{◌≡◌, ℕ, zero, suc, ◌+◌, ◌<◌, ap, List, [], ◌∷◌, length, drop, arith, get_or}
use Rattle.plc_types.specs.declared.elementary.Elementary.{Elementary}
use Rattle.plc_types.specs.declared.function.Function.{Function}
use Rattle.plc_types.specs.declared.operator.UnaryOperator.{UnaryOperator}
use Rattle.plc_types.specs.declared.operator.Operator.{Operator}
use Rattle.program_tree.specs.Tree.{Expression, unary, chain, call_standard, Operands, operand, Expressions, expression}
use Rattle.program_tree.specs.declared.typed.TypedExpr.{TypedExpr}
use Rattle.program_tree.specs.declared.typed.Operand.{Operand, out-Operand}
use Rattle.program_tree.specs.declared.typed.TypedExpr.TheFolds.{fold_out-Operand}
use Rattle.program_tree.specs.View.{OperandData, operands_of, expr_step, operand_step, expr_view, operand_view, operands_view, arguments_view}
use Rattle.program_tree.specs.OperandTypes.{first_kind, first_operand_kind}
use Rattle.node_core.specs.Words.{NodeList, Store, joined, word_of, word_on, words_of}
use Rattle.node_core.proofs.Growth.{Grows, grows_made, grows_joined, grows_called, grows_on, grows_words}

pub behind_unary : (store : Store) (t k : Elementary) (o : UnaryOperator) (e whole : Expression) (n : NodeList) → whole ≡ unary o k e → Grows (word_of store k e n).list (word_of store t whole n).list
behind_unary store t k o e whole n is = rw is (grows_made _ (word_of store k e n).list)

pub behind_first : (store : Store) (t k : Elementary) (e whole : Expression) (os : Operands) (n : NodeList) → whole ≡ chain e os → k ≡ first_kind t os → Grows (word_of store k e n).list (word_of store t whole n).list
behind_first store t k e whole os n is kind = rw (is, kind) (let m = word_of store (first_kind t os) e n in grows_on store m.word os m.list)

pub behind_right : (store : Store) (a : ℕ) (o : Operator) (k : Elementary) (e : Expression) (y : OperandData) (n : NodeList) → y ≡ (o, k, e) → Grows (word_of store k e n).list (word_on store a (operands_of (y ∷ [])) n).list
behind_right store a o k e y n is = rw is (grows_joined o k a (word_of store k e n).word (word_of store k e n).list)

-- one operand, and the others behind it
pub behind_operand : (store : Store) (a : ℕ) (y : OperandData) (os rest : Operands) (n : NodeList) → os ≡ operand y.0 y.1 y.2 rest → Grows (word_on store a (operands_of (y ∷ [])) n).list (word_on store a os n).list
behind_operand store a y os rest n is = rw is (let m = word_of store y.1 y.2 n in let j = joined y.0 y.1 a m.word m.list in grows_on store j.word rest j.list)

pub behind_arguments : (store : Store) (t k : Elementary) (f : Function) (es : Expressions) (n : NodeList) → k ≡ first_operand_kind f t → Grows (words_of store k t es n).list (word_of store t (call_standard f t es) n).list
behind_arguments store t k f es n kind = rw kind (grows_called f t _ _)

pub behind_argument : (store : Store) (first others : Elementary) (e : Expression) (all es : Expressions) (n : NodeList) → all ≡ expression e es → Grows (word_of store first e n).list (words_of store first others all n).list
behind_argument store first others e all es n is = rw is (let m = word_of store first e n in grows_words store others others es m.list)

-- ---- lists of operands, as the code goes through them

pub operand_view-out : (o : Operand) → operand_view o ≡ ((out-Operand o).operator, (out-Operand o).kind, expr_view (out-Operand o).right)
operand_view-out = fold_out-Operand Expression OperandData expr_step operand_step

pub left-operands : (os : List Operand) (i : ℕ) (d o : Operand) → i < length os → get_or os i d ≡ o → operands_view (drop i os) ≡ operand (operand_view o).0 (operand_view o).1 (operand_view o).2 (operands_view (drop (i + 1) os))
left-operands [] i d o h is = absurd (omega (arith, h))
left-operands (x ∷ os) zero d o h is = ap (λ (y : Operand). operand (operand_view y).0 (operand_view y).1 (operand_view y).2 (operands_view os)) is
left-operands (x ∷ os) (suc i) d o h is = let e : suc i + 1 ≡ suc (i + 1) = omega arith in rw e (left-operands os i d o (omega (arith, h)) is)

pub left-expressions : (es : List TypedExpr) (i : ℕ) (d e : TypedExpr) → i < length es → get_or es i d ≡ e → arguments_view (drop i es) ≡ expression (expr_view e) (arguments_view (drop (i + 1) es))
left-expressions [] i d e h is = absurd (omega (arith, h))
left-expressions (x ∷ es) zero d e h is = ap (λ (y : TypedExpr). expression (expr_view y) (arguments_view es)) is
left-expressions (x ∷ es) (suc i) d e h is = let more : suc i + 1 ≡ suc (i + 1) = omega arith in rw more (left-expressions es i d e (omega (arith, h)) is)
