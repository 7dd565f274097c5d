use Rattle.std.proofs.Common.{◌≡◌, ℕ, List, [], ◌+◌, ◌∷◌, ◌++◌, OnOk, option_map, drop, map, ap, sym, ◌∙◌, subst, append_assoc, arith}
use Rattle.std.proofs.lemmas.List.{drop_all}
use Rattle.source_tree.specs.declared.syntax.Expr.{Expr}
use Rattle.source_tree.specs.declared.syntax.Link.{Link}
use Rattle.source_tree.specs.declared.syntax.Argument.{Argument}
use Rattle.source_tree.specs.declared.syntax.Expr.TheVariants.{rolls-Literal, rolls-Chain, rolls-Call}
use Rattle.source_tree.specs.declared.syntax.Expr.TheFolds.{fold-roll-Expr}
use Rattle.source_tree.specs.Syntax.{Tree, literal, chain, call}
use Rattle.source_tree.specs.SyntaxView.{LinkData, ArgumentData, expr_step, argument_step, link_step, name_view, tree_view, link_view, links_view, links_of, argument_view, arguments_view, arguments_of}
use Rattle.naming.specs.Circles.{called, calls_in, calls_in_links, calls_in_arguments}
use Rattle.rules.specs.declared.outcome.Outcome.{Outcome}
use Rattle.naming.specs.Broken.{callee_of, in_called, in_argument_name, in_tree, in_links, in_arguments}
use Rattle.rules.specs.Judgements.{and}
use Rattle.pou_scope.specs.NamesView.{file_in, pou_in}
use Rattle.rules.specs.Outcomes.{outcome_of, both}
use Rattle.naming.proofs.Outs.{link_view-out, argument_view-out}
use Rattle.naming.proofs.ListLemmas.{then_more}
use Rattle.name_uses.proofs.Parts.{behind}
use Rattle.rules.proofs.Outcomes.{both_ok, then_on, before_rest, loop_done}
use Rattle.naming.proofs.Steps.{view-drop}
use Rattle.name_uses.proofs.walk.+walk_expr.Goals as goal

pub walk_expr-returns-in-Literal-clause-judged : goal.walk_expr-returns-in-Literal-clause-judged
walk_expr-returns-in-Literal-clause-judged t c =
    let f = file_in c.args.scope.now.names in
    let p = pou_in c.args.scope.now.names in
    let shape : tree_view c.args.expr.now ≡ literal c.in-Literal.field-0 = ap tree_view (c.in-Literal.is ∙ sym (rolls-Literal c.in-Literal.field-0)) ∙ fold-roll-Expr Tree ArgumentData LinkData expr_step argument_step link_step _ in
    sym (both_ok c.args.outcome.now) ∙ ap (λ e. both c.args.outcome.now (outcome_of (in_tree f p e))) (sym shape)

pub walk_expr-returns-in_ok-walk_expr-in-Chain-clause-judged : goal.walk_expr-returns-in_ok-walk_expr-in-Chain-clause-judged
walk_expr-returns-in_ok-walk_expr-in-Chain-clause-judged t c =
    let f = file_in c.args.scope.now.names in
    let p = pou_in c.args.scope.now.names in
    let old = c.args.outcome.now in
    let mid = c.walk_expr-in-Chain.new.outcome in
    let e = in_tree f p (tree_view c.in-Chain.left.value) in
    let shape : tree_view c.args.expr.now ≡ chain (tree_view c.in-Chain.left.value) (links_view c.in-Chain.links.items) = ap tree_view (c.in-Chain.is ∙ sym (rolls-Chain c.in-Chain.left c.in-Chain.links)) ∙ fold-roll-Expr Tree ArgumentData LinkData expr_step argument_step link_step _ in
    let left = c.in_ok-walk_expr-in-Chain.ensures.judged ∙ ap (λ (x : Expr). both old (outcome_of (in_tree f p (tree_view x)))) c.deref-in-Chain.ensures in
    let right = ap (λ (ls : List Link). both mid (outcome_of (in_links f p (links_view ls)))) c.deref-in-Chain-2.ensures.value ∙ behind old mid e (in_links f p (links_view c.in-Chain.links.items)) left in
    rw shape (subst (λ (o : Outcome). OnOk c.walk_links.result (c.walk_links.new.outcome ≡ o)) right c.walk_links.ensures.judged)

pub walk_links-loop-link-preserved : goal.walk_links-loop-link-preserved
walk_links-loop-link-preserved t c =
    let f = file_in c.args.scope.now.names in
    let p = pou_in c.args.scope.now.names in
    let x = c.link-item.result in
    let more = map link_view (drop (c.loop-link.link-index + 1) c.args.links.now) in
    let left = view-drop link_view c.args.links.now c.loop-link.link-index x (omega arith) c.link-item.is ∙ ap (λ (l : LinkData). l ∷ more) (link_view-out x) in
    let all = ap (λ ls. both c.loop-link.outcome (outcome_of (in_links f p (links_of ls)))) (sym left) ∙ c.loop-link.invariant.judged in
    let calls = c.loop-link.calls.items in
    record {
      judged = before_rest c.loop-link.outcome c.walk_expr.new.outcome _ (in_tree f p (tree_view x.right)) (in_links f p (links_of more)) c.in_ok-walk_expr.ensures.judged all;
      calls = then_more calls c.walk_expr.new.calls.items (calls_in f (tree_view x.right)) (calls_in_links f (links_of more)) _ c.in_ok-walk_expr.ensures.calls (ap (λ ls. calls ++ calls_in_links f (links_of ls)) (sym left) ∙ c.loop-link.invariant.calls);
    }

pub walk_links-returns-clause-judged : goal.walk_links-returns-clause-judged
walk_links-returns-clause-judged t c =
    let f = file_in c.args.scope.now.names in
    let p = pou_in c.args.scope.now.names in
    let xs = c.args.links.now in
    let i = c.loop-link.link-index in
    let none : drop i xs ≡ [] = drop_all i xs (omega arith) in
    loop_done c.loop-link.outcome c.args.outcome.now (in_links f p (links_view (drop i xs))) (in_links f p (links_view xs)) c.loop-link.invariant.judged (ap (λ ys. in_links f p (links_view ys)) none)

pub walk_expr-returns-in_ok-append_called-in-Call-clause-judged : goal.walk_expr-returns-in_ok-append_called-in-Call-clause-judged
walk_expr-returns-in_ok-append_called-in-Call-clause-judged t c =
    let f = file_in c.args.scope.now.names in
    let p = pou_in c.args.scope.now.names in
    let old = c.args.outcome.now in
    let mid = c.and-in-Call.result in
    let n = name_view c.in-Call.function in
    let args = c.in-Call.arguments.items in
    let shape : tree_view c.args.expr.now ≡ call n c.in-Call.field-1 (arguments_view args) = ap tree_view (c.in-Call.is ∙ sym (rolls-Call c.in-Call.function c.in-Call.field-1 c.in-Call.arguments)) ∙ fold-roll-Expr Tree ArgumentData LinkData expr_step argument_step link_step _ in
    let called = c.and-in-Call.ensures ∙ ap (both old) (c.called.ensures ∙ ap (λ callee. outcome_of (in_called f callee n)) c.callee-callee.ensures) in
    let all = ap (λ callee. both mid (outcome_of (in_arguments f p callee (arguments_view c.deref-in-Call.result.now)))) c.callee-callee.ensures
    ∙ ap (λ (list : List Argument). both mid (outcome_of (in_arguments f p (callee_of f n.text) (arguments_view list)))) c.deref-in-Call.ensures.value
    ∙ behind old mid (in_called f (callee_of f n.text) n) (in_arguments f p (callee_of f n.text) (arguments_view args)) called in
    rw shape (subst (λ (o : Outcome). OnOk c.walk_arguments.result (c.walk_arguments.new.outcome ≡ o)) all c.walk_arguments.ensures.judged)

pub walk_expr-returns-in_ok-append_called-in-Call-clause-calls : goal.walk_expr-returns-in_ok-append_called-in-Call-clause-calls
walk_expr-returns-in_ok-append_called-in-Call-clause-calls t c =
    let f = file_in c.args.scope.now.names in
    let old = c.args.calls.now.items in
    let n = name_view c.in-Call.function in
    let args = c.in-Call.arguments.items in
    let shape : tree_view c.args.expr.now ≡ call n c.in-Call.field-1 (arguments_view args) = ap tree_view (c.in-Call.is ∙ sym (rolls-Call c.in-Call.function c.in-Call.field-1 c.in-Call.arguments)) ∙ fold-roll-Expr Tree ArgumentData LinkData expr_step argument_step link_step _ in
    let own = c.in_ok-append_called-in-Call.ensures ∙ ap (λ k. old ++ called k) c.callee-callee.ensures in
    let all = ap (λ (xs : List ℕ). xs ++ calls_in_arguments f (arguments_view c.deref-in-Call.result.now)) own
    ∙ append_assoc old (called (callee_of f n.text)) (calls_in_arguments f (arguments_view c.deref-in-Call.result.now))
    ∙ ap (λ (list : List Argument). old ++ (called (callee_of f n.text) ++ calls_in_arguments f (arguments_view list))) c.deref-in-Call.ensures.value
    ∙ ap (λ e. old ++ calls_in f e) (sym shape) in
    subst (λ (xs : List ℕ). OnOk c.walk_arguments.result (c.walk_arguments.new.calls.items ≡ xs)) all c.walk_arguments.ensures.calls

pub walk_arguments-loop-argument-preserved : goal.walk_arguments-loop-argument-preserved
walk_arguments-loop-argument-preserved t c =
    let f = file_in c.args.scope.now.names in
    let p = pou_in c.args.scope.now.names in
    let x = c.argument-item.result in
    let own = in_argument_name f c.args.callee (option_map name_view x.name) in
    let more = map argument_view (drop (c.loop-argument.argument-index + 1) c.args.arguments.now) in
    let left = view-drop argument_view c.args.arguments.now c.loop-argument.argument-index x (omega arith) c.argument-item.is ∙ ap (λ (a : ArgumentData). a ∷ more) (argument_view-out x) in
    let all = ap (λ args. both c.loop-argument.outcome (outcome_of (in_arguments f p c.args.callee (arguments_of args)))) (sym left) ∙ c.loop-argument.invariant.judged in
    let name = c.and.ensures ∙ ap (both c.loop-argument.outcome) c.argument_name.ensures in
    let step = then_on c.loop-argument.outcome c.and.result c.walk_expr.new.outcome own (in_tree f p (tree_view x.value)) name c.in_ok-walk_expr.ensures.judged in
    let calls = c.loop-argument.calls.items in
    record {
      judged = before_rest c.loop-argument.outcome c.walk_expr.new.outcome _ (and own (in_tree f p (tree_view x.value))) (in_arguments f p c.args.callee (arguments_of more)) step all;
      calls = then_more calls c.walk_expr.new.calls.items (calls_in f (tree_view x.value)) (calls_in_arguments f (arguments_of more)) _ c.in_ok-walk_expr.ensures.calls (ap (λ args. calls ++ calls_in_arguments f (arguments_of args)) (sym left) ∙ c.loop-argument.invariant.calls);
    }

pub walk_arguments-returns-clause-judged : goal.walk_arguments-returns-clause-judged
walk_arguments-returns-clause-judged t c =
    let f = file_in c.args.scope.now.names in
    let p = pou_in c.args.scope.now.names in
    let xs = c.args.arguments.now in
    let i = c.loop-argument.argument-index in
    let none : drop i xs ≡ [] = drop_all i xs (omega arith) in
    loop_done c.loop-argument.outcome c.args.outcome.now (in_arguments f p c.args.callee (arguments_view (drop i xs))) (in_arguments f p c.args.callee (arguments_view xs)) c.loop-argument.invariant.judged (ap (λ ys. in_arguments f p c.args.callee (arguments_view ys)) none)
