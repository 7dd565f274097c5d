use Rattle.std.proofs.Common.{◌≡◌, Bool, List, ◌+◌, ◌∷◌, ◌++◌, option_map, drop, map, ap, sym, ◌∙◌, arith}
use Rattle.source_tree.specs.declared.syntax.Expr.{Expr}
use Rattle.source_tree.specs.declared.syntax.Link.{Link}
use Rattle.source_tree.specs.declared.syntax.Argument.{Argument}
use Rattle.source_tree.specs.declared.syntax.Expr.TheVariants.{rolls-Chain, rolls-Call}
use Rattle.source_tree.specs.declared.syntax.Expr.TheFolds.{fold-roll-Expr}
use Rattle.source_tree.specs.Syntax.{Tree, chain, call}
use Rattle.rules.specs.declared.rule.Rule.TheVariants.{UnknownName}
use Rattle.rules.specs.Rules.{earlier, first_in}
use Rattle.source_tree.specs.SyntaxView.{LinkData, ArgumentData, expr_step, argument_step, link_step, name_view, tree_view, link_view, links_view, links_of, argument_view, arguments_view, arguments_of}
use Rattle.naming.specs.Library.{is_library}
use Rattle.naming.proofs.Outs.{link_view-out, argument_view-out}
use Rattle.naming.proofs.Steps.{view-drop}
use Rattle.relation_file.proofs.Steps.{then_on, before_rest}
use Rattle.relation_file.specs.Refusals.{unless}
use Rattle.relation_file.specs.Clauses.{broken_called, broken_argument, broken_names, broken_links, broken_arguments}
use Rattle.relation_file.proofs.names.+walk_names.Goals as goal

pub walk_names-returns-in-Chain : goal.walk_names-returns-in-Chain
walk_names-returns-in-Chain g t c =
    let m = g.S.Scope.means c.args.scope.now in
    let shape : tree_view c.args.expr.now ≡ chain (tree_view c.in-Chain.left.value) (links_view c.in-Chain.links.items) = ap tree_view (c.in-Chain.is ∙ sym (rolls-Chain c.in-Chain.left c.in-Chain.links)) ∙ fold-roll-Expr Tree ArgumentData LinkData expr_step argument_step link_step _ in
    let left = c.walk_names-in-Chain.ensures ∙ ap (λ (e : Expr). earlier c.args.first.now (first_in (broken_names m (tree_view e)))) c.deref-in-Chain.ensures in
    let right = c.walk_links.ensures ∙ ap (λ (ls : List Link). earlier c.walk_names-in-Chain.new.first (first_in (broken_links m (links_view ls)))) c.deref-in-Chain-2.ensures.value in
    rw shape (then_on c.args.first.now c.walk_names-in-Chain.new.first c.walk_links.new.first (broken_names m (tree_view c.in-Chain.left.value)) (broken_links m (links_view c.in-Chain.links.items)) left right)

pub walk_links-loop-link-preserved : goal.walk_links-loop-link-preserved
walk_links-loop-link-preserved g t c =
    let m = g.S.Scope.means c.args.scope.now in
    let x = c.link-item.result in
    let more = map link_view (drop (c.loop-link.link-index + 1) c.args.links.now) in
    let left = view-drop link_view c.args.links.now c.loop-link.link-index x (omega arith) c.link-item.is ∙ ap (λ (l : LinkData). l ∷ more) (link_view-out x) in
    let all = ap (λ ls. earlier c.loop-link.first (first_in (broken_links m (links_of ls)))) (sym left) ∙ c.loop-link.invariant in
    before_rest c.loop-link.first c.walk_names.new.first _ (broken_names m (tree_view x.right)) (broken_links m (links_of more)) c.walk_names.ensures all

pub walk_names-returns-in-Call : goal.walk_names-returns-in-Call
walk_names-returns-in-Call g t c =
    let m = g.S.Scope.means c.args.scope.now in
    let n = name_view c.in-Call.function in
    let args = c.in-Call.arguments.items in
    let shape : tree_view c.args.expr.now ≡ call n c.in-Call.field-1 (arguments_view args) = ap tree_view (c.in-Call.is ∙ sym (rolls-Call c.in-Call.function c.in-Call.field-1 c.in-Call.arguments)) ∙ fold-roll-Expr Tree ArgumentData LinkData expr_step argument_step link_step _ in
    let known : c.is_library-known.result ≡ is_library n.text = c.is_library-known.ensures ∙ ap is_library c.as_str.ensures.value in
    let called = c.earlier-in-Call.ensures ∙ ap (earlier c.args.first.now) (c.unless.ensures ∙ ap (λ (k : Bool). first_in (unless k UnknownName n.at)) known) in
    let all = c.walk_arguments.ensures
    ∙ ap (λ (k : Bool). earlier c.earlier-in-Call.result (first_in (broken_arguments m k (arguments_view c.deref-in-Call.result.now)))) known
    ∙ ap (λ (list : List Argument). earlier c.earlier-in-Call.result (first_in (broken_arguments m (is_library n.text) (arguments_view list)))) c.deref-in-Call.ensures.value in
    rw shape (then_on c.args.first.now c.earlier-in-Call.result c.walk_arguments.new.first (broken_called n) (broken_arguments m (is_library n.text) (arguments_view args)) called all)

pub walk_arguments-loop-argument-preserved : goal.walk_arguments-loop-argument-preserved
walk_arguments-loop-argument-preserved g t c =
    let m = g.S.Scope.means c.args.scope.now in
    let x = c.argument-item.result in
    let own = broken_argument c.args.known (option_map name_view x.name) in
    let more = map argument_view (drop (c.loop-argument.argument-index + 1) c.args.arguments.now) in
    let left = view-drop argument_view c.args.arguments.now c.loop-argument.argument-index x (omega arith) c.argument-item.is ∙ ap (λ (a : ArgumentData). a ∷ more) (argument_view-out x) in
    let all = ap (λ args. earlier c.loop-argument.first (first_in (broken_arguments m c.args.known (arguments_of args)))) (sym left) ∙ c.loop-argument.invariant in
    let name = c.earlier.ensures ∙ ap (earlier c.loop-argument.first) c.argument_refusal.ensures in
    let step = then_on c.loop-argument.first c.earlier.result c.walk_names.new.first own (broken_names m (tree_view x.value)) name c.walk_names.ensures in
    before_rest c.loop-argument.first c.walk_names.new.first _ (own ++ broken_names m (tree_view x.value)) (broken_arguments m c.args.known (arguments_of more)) step all
