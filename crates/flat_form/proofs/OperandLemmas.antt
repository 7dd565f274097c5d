-- Operands and expressions, one at a time.
use Rattle.std.proofs.Common.{◌≡◌, ℕ, zero, suc, ◌+◌, ◌<◌, ◌≤◌, List, [], ◌∷◌, ◌++◌, length, map, drop, get_or, refl, ap, ◌∙◌, arith}
use Rattle.program_tree.specs.declared.typed.TypedExpr.{TypedExpr}
use Rattle.program_tree.specs.declared.typed.TypedExpr.TheFolds.{fold_out-Operand}
use Rattle.program_tree.specs.declared.typed.Operand.{Operand, out-Operand}
use Rattle.program_tree.specs.Tree.{Expression, Operands, no_operands, operand, Expressions, no_expressions, expression}
use Rattle.program_tree.specs.View.{OperandData, operands_of, operand_view, operands_view, expressions_of, expr_view, arguments_view, expr_step, operand_step}

-- operands before others, and expressions before others
abbrev pub with_operands : List OperandData → Operands → Operands
with_operands [] os = os
with_operands (d ∷ ds) os = operand d.0 d.1 d.2 (with_operands ds os)

abbrev pub with_expressions : List Expression → Expressions → Expressions
with_expressions [] es = es
with_expressions (d ∷ ds) es = expression d (with_expressions ds es)

pub with_operands-none : (ds : List OperandData) → with_operands ds no_operands ≡ operands_of ds
with_operands-none [] = refl
with_operands-none (d ∷ ds) = ap (operand d.0 d.1 d.2) (with_operands-none ds)

pub with_expressions-none : (ds : List Expression) → with_expressions ds no_expressions ≡ expressions_of ds
with_expressions-none [] = refl
with_expressions-none (d ∷ ds) = ap (expression d) (with_expressions-none ds)

pub with_operands-push : (ds : List OperandData) (d : OperandData) (os : Operands) → with_operands (ds ++ d ∷ []) os ≡ with_operands ds (operand d.0 d.1 d.2 os)
with_operands-push [] d os = refl
with_operands-push (x ∷ ds) d os = ap (operand x.0 x.1 x.2) (with_operands-push ds d os)

pub with_expressions-push : (ds : List Expression) (d : Expression) (es : Expressions) → with_expressions (ds ++ d ∷ []) es ≡ with_expressions ds (expression d es)
with_expressions-push [] d es = refl
with_expressions-push (x ∷ ds) d es = ap (expression x) (with_expressions-push ds d es)

pub operand_view-out : (o : Operand) → operand_view o ≡ ((out-Operand o).operator, (out-Operand o).kind, expr_view (out-Operand o).right)
operand_view-out = fold_out-Operand Expression OperandData expr_step operand_step

pub pushed-operands : (os more : List Operand) (o : Operand) → more ≡ os ++ o ∷ [] → map operand_view more ≡ map operand_view os ++ operand_view o ∷ []
pushed-operands os more o is = ap (map operand_view) is ∙ at os
  where
    at : (xs : List Operand) → map operand_view (xs ++ o ∷ []) ≡ map operand_view xs ++ operand_view o ∷ []
    at [] = refl
    at (x ∷ xs) = ap (λ l. operand_view x ∷ l) (at xs)

pub pushed-expressions : (es more : List TypedExpr) (e : TypedExpr) → more ≡ es ++ e ∷ [] → map expr_view more ≡ map expr_view es ++ expr_view e ∷ []
pushed-expressions es more e is = ap (map expr_view) is ∙ at es
  where
    at : (xs : List TypedExpr) → map expr_view (xs ++ e ∷ []) ≡ map expr_view xs ++ expr_view e ∷ []
    at [] = refl
    at (x ∷ xs) = ap (λ l. expr_view x ∷ l) (at xs)

-- ---- what is left of operands and inputs

pub left-operands : (os : List Operand) (i : ℕ) (d o : Operand) → i < length os → get_or os i d ≡ o → operands_view (drop i os) ≡ operand (operand_view o).0 (operand_view o).1 (operand_view o).2 (operands_view (drop (i + 1) os))
left-operands [] i d o h is = absurd (omega (arith, h))
left-operands (x ∷ os) zero d o h is = ap (λ (y : Operand). operand (operand_view y).0 (operand_view y).1 (operand_view y).2 (operands_view os)) is
left-operands (x ∷ os) (suc i) d o h is = let e : suc i + 1 ≡ suc (i + 1) = omega arith in rw e (left-operands os i d o (omega (arith, h)) is)

pub left-expressions : (es : List TypedExpr) (i : ℕ) (d e : TypedExpr) → i < length es → get_or es i d ≡ e → arguments_view (drop i es) ≡ expression (expr_view e) (arguments_view (drop (i + 1) es))
left-expressions [] i d e h is = absurd (omega (arith, h))
left-expressions (x ∷ es) zero d e h is = ap (λ (y : TypedExpr). expression (expr_view y) (arguments_view es)) is
left-expressions (x ∷ es) (suc i) d e h is = let more : suc i + 1 ≡ suc (i + 1) = omega arith in rw more (left-expressions es i d e (omega (arith, h)) is)

pub no-operands-left : (os : List Operand) (i : ℕ) → length os ≤ i → operands_view (drop i os) ≡ no_operands
no-operands-left [] zero h = refl
no-operands-left [] (suc i) h = refl
no-operands-left (x ∷ os) zero h = absurd (omega (arith, h))
no-operands-left (x ∷ os) (suc i) h = no-operands-left os i (omega (arith, h))

pub no-expressions-left : (es : List TypedExpr) (i : ℕ) → length es ≤ i → arguments_view (drop i es) ≡ no_expressions
no-expressions-left [] zero h = refl
no-expressions-left [] (suc i) h = refl
no-expressions-left (x ∷ es) zero h = absurd (omega (arith, h))
no-expressions-left (x ∷ es) (suc i) h = no-expressions-left es i (omega (arith, h))
