use Rattle.std.proofs.Common.{◌≡◌, ◌∙◌, ◌+◌, [], ◌∷◌, drop, refl, sym, ap, subst, rules}
use Rattle.std.proofs.lemmas.Result.{err_from_is_err_and}
use Rattle.program_tree.specs.declared.typed.Operand.{out-Operand}
use Rattle.program_tree.specs.declared.typed.TypedExpr.TheFolds.{fold-roll-TypedExpr}
use Rattle.program_tree.specs.declared.typed.TypedExpr.TheVariants.{rolls-Unary, rolls-Chain}
use Rattle.program_tree.specs.declared.typed.TypedExpr.{TypedExpr}
use Rattle.program_tree.specs.Tree.{Expression, unary, chain}
use Rattle.program_tree.specs.View.{OperandData, expr_step, operand_step, expr_view, operands_of, operand_view, operands_view, arguments_view}
use Rattle.program_tree.specs.OperandTypes.{first_kind}
use Rattle.node_core.specs.Words.{NodeList, Made, word_of, word_on, words_of}
use Rattle.node_core.proofs.Growth.{Grows}
use Rattle.scan_ssa.specs.Making.{list_view}
use Rattle.scan_ssa.specs.Held.{held_store}
use Rattle.scan_ssa.proofs.Faults.{handed_on}
use Rattle.scan_ssa.proofs.WordLemmas.{behind_unary, behind_first, behind_right, behind_operand, behind_arguments, behind_argument, operand_view-out, left-operands, left-expressions}
use Rattle.scan_ssa.proofs.words.+words.Goals as goal

pub join_operand-returns-in_err-right-clause-too_many : goal.join_operand-returns-in_err-right-clause-too_many
join_operand-returns-in_err-right-clause-too_many t c =
    let p = err_from_is_err_and c.from_residual.result c.from_residual.ensures.1 in
    let o = out-Operand c.args.operand.now in
    handed_on c.from_residual.result p.0 _ _ _ _ _ p.1 p.2 refl c.in_err-right.ensures.too_many
    (behind_right (held_store c.args.held.now) c.args.left o.operator o.kind (expr_view o.right) (operand_view c.args.operand.now) (list_view c.args.making.now) (operand_view-out c.args.operand.now))

pub word_of-returns-in_err-operand-in-Unary-clause-too_many : goal.word_of-returns-in_err-operand-in-Unary-clause-too_many
word_of-returns-in_err-operand-in-Unary-clause-too_many t c =
    let p = err_from_is_err_and c.from_residual.result c.from_residual.ensures.1 in
    let is = ap expr_view (c.in-Unary.is ∙ sym (rolls-Unary _ _ _)) ∙ fold-roll-TypedExpr Expression OperandData expr_step operand_step _ in
    handed_on c.from_residual.result p.0 _ _ _ _ _ p.1 p.2 refl c.in_err-operand-in-Unary.ensures.too_many
    (behind_unary (held_store c.args.held.now) c.args.kind c.in-Unary.of c.in-Unary.operator (expr_view c.deref.result.now) (expr_view c.args.expr.now) (list_view c.args.making.now)
    (is ∙ ap (λ (x : TypedExpr). unary c.in-Unary.operator c.in-Unary.of (expr_view x)) (search (rules, c.deref.ensures))))

pub word_of-returns-in_err-left-in-Chain-clause-too_many : goal.word_of-returns-in_err-left-in-Chain-clause-too_many
word_of-returns-in_err-left-in-Chain-clause-too_many t c =
    let p = err_from_is_err_and c.from_residual-in_err-left-in-Chain.result c.from_residual-in_err-left-in-Chain.ensures.1 in
    let os = operands_view c.in-Chain.operands.items in
    let is = ap expr_view (c.in-Chain.is ∙ sym (rolls-Chain _ _)) ∙ fold-roll-TypedExpr Expression OperandData expr_step operand_step _ in
    let first : c.in-Chain.first.value ≡ c.deref-in-Chain-2.result.now = search (rules, c.deref-in-Chain-2.ensures) in
    let listed : c.deref-in-Chain.result.now ≡ c.in-Chain.operands.items = search (rules, c.deref-in-Chain.ensures) in
    handed_on c.from_residual-in_err-left-in-Chain.result p.0 _ _ _ _ _ p.1 p.2 refl c.in_err-left-in-Chain.ensures.too_many
    (behind_first (held_store c.args.held.now) c.args.kind c.first_kind.result (expr_view c.deref-in-Chain-2.result.now) (expr_view c.args.expr.now) os (list_view c.args.making.now)
    (is ∙ ap (λ (x : TypedExpr). chain (expr_view x) os) first) (c.first_kind.ensures ∙ ap (λ l. first_kind c.args.kind (operands_view l)) listed))

pub word_of_call-returns-in_err-words-clause-too_many : goal.word_of_call-returns-in_err-words-clause-too_many
word_of_call-returns-in_err-words-clause-too_many t c =
    let p = err_from_is_err_and c.from_residual.result c.from_residual.ensures.1 in
    handed_on c.from_residual.result p.0 _ _ _ _ _ p.1 p.2 refl c.in_err-words.ensures.too_many
    (behind_arguments (held_store c.args.held.now) c.args.kind c.first_operand_kind-first.result c.args.function (arguments_view c.args.arguments.now) (list_view c.args.making.now) c.first_operand_kind-first.ensures)

pub word_on-returns-in_err-left-clause-too_many : goal.word_on-returns-in_err-left-clause-too_many
word_on-returns-in_err-left-clause-too_many t c =
    let p = err_from_is_err_and c.from_residual.result c.from_residual.ensures.1 in
    let store = held_store c.args.held.now in
    let i = c.loop-operand.operand-index in
    let n = list_view c.loop-operand.making in
    let o = operand_view c.operand-item.result in
    let whole = word_on store c.args.left (operands_view c.args.operands.now) (list_view c.args.making.now) in
    let left = left-operands c.args.operands.now i c.operand-item.result c.operand-item.result c.loop-operand-test.true (sym c.operand-item.is) in
    handed_on c.from_residual.result p.0 _ _ _ (word_on store c.loop-operand.left (operands_of (o ∷ [])) n).list whole.list p.1 p.2 c.loop-operand.invariant.limit c.in_err-left.ensures.too_many
    (subst (λ (m : Made). Grows (word_on store c.loop-operand.left (operands_of (o ∷ [])) n).list m.list) c.loop-operand.invariant.rest
    (behind_operand store c.loop-operand.left o (operands_view (drop i c.args.operands.now)) (operands_view (drop (i + 1) c.args.operands.now)) n left))

pub words_of-returns-in_err-word-clause-too_many : goal.words_of-returns-in_err-word-clause-too_many
words_of-returns-in_err-word-clause-too_many t c =
    let p = err_from_is_err_and c.from_residual.result c.from_residual.ensures.1 in
    let store = held_store c.args.held.now in
    let i = c.loop-argument.argument-index in
    let n = list_view c.loop-argument.making in
    let e = expr_view c.argument-item.result in
    let whole = words_of store c.args.first c.args.others (arguments_view c.args.arguments.now) (list_view c.args.making.now) in
    let left = left-expressions c.args.arguments.now i c.argument-item.result c.argument-item.result c.loop-argument-test.true (sym c.argument-item.is) in
    handed_on c.from_residual.result p.0 _ _ _ (word_of store c.loop-argument.kind e n).list whole.list p.1 p.2 c.loop-argument.invariant.limit c.in_err-word.ensures.too_many
    (subst (λ (m : NodeList). Grows (word_of store c.loop-argument.kind e n).list m) c.loop-argument.invariant.list
    (behind_argument store c.loop-argument.kind c.args.others e (arguments_view (drop i c.args.arguments.now)) (arguments_view (drop (i + 1) c.args.arguments.now)) n left))
