use Rattle.std.proofs.Common.{◌≡◌, ◌∙◌, ◌&&◌, ◌+◌, Bool, Option, ap, sym, drop, rules}
use Rattle.std.specs.Prelude.{Some, option_map}
use Rattle.std.specs.String.{string_bytes}
use Rattle.naming.specs.Library.{standard_function}
use Rattle.naming.proofs.Outs.{argument_view-out}
use Rattle.source_tree.specs.declared.syntax.Argument.{out-Argument}
use Rattle.plc_types.specs.declared.data_type.DataType.{DataType}
use Rattle.rules.specs.declared.rule.Rule.TheVariants.{OperandType}
use Rattle.rules.specs.Judgements.{ok}
use Rattle.rules.specs.Outcomes.{outcome_of, tried}
use Rattle.source_tree.specs.declared.syntax.Expr.TheVariants.{rolls-Chain}
use Rattle.source_tree.specs.declared.syntax.Expr.TheFolds.{fold-roll-Expr}
use Rattle.source_tree.specs.Syntax.{Tree, chain, Arguments, argument}
use Rattle.source_tree.specs.SyntaxView.{LinkData, ArgumentData, expr_step, argument_step, link_step, name_view, argument_view, tree_view, links_view, arguments_view}
use Rattle.typing.specs.Typing.{synthesized, type_of, or_else, or_dint, takes_operands}
use Rattle.typing.specs.Judged.{judged, fit_from, place_for, fits_port, fits_placed, fit_placed, takes_sign}
use Rattle.typing.specs.Outcomes.{links_outcome, named_outcome, given_outcome}
use Rattle.typing_laws.proofs.Judging.{outcome_of-unary, outcome_of-chain, outcome_of-call, outcome_of-wrong_call, outcome_of-user_call}
use Rattle.expr_types.specs.Fits.{fits_unless_named}
use Rattle.expr_types.proofs.FitLemmas.{fits_port-synthesized, fits_placed-unless, one_more_fits, arguments_from, given_on}
use Rattle.expr_types.proofs.SameTypes.{judged-again}
use Rattle.expr_types.proofs.+judge_expr.Goals as goal
use Rattle.expr_types.proofs.+judge_expr.Goals.{answers::judge_given-then-fit, answers::judge_given-else-fit, calls::judge_call-then-takes_operands, calls::judge_call-else-takes_operands}

pub expressions::judge_unary-returns-in_ok-inner-in-None-clause-outcome : goal.expressions::judge_unary-returns-in_ok-inner-in-None-clause-outcome
expressions::judge_unary-returns-in_ok-inner-in-None-clause-outcome g t c =
    let m = g.S.Scope.means c.args.scope.now in
    let e = tree_view c.args.operand.now in
    let w = c.args.expected in
    let inner = c.in_ok-inner-in-None.inner in
    let k = c.kind.result in
    let kind : k ≡ type_of m w e = c.kind.ensures ∙ ap (λ (o : Option DataType). or_dint (or_else o w)) c.in_ok-inner-in-None.ensures.synthesized in
    let alike : inner.outcome ≡ outcome_of (judged m (Some k) e) =
    c.in_ok-inner-in-None.ensures.outcome ∙ sym (ap (λ (x : DataType). outcome_of (judged m (Some x) e)) kind ∙ ap outcome_of (judged-again m w e)) in
    let is : c.require-outcome.result ≡ tried inner.outcome (takes_sign c.args.operator k) OperandType c.args.at = c.require-outcome.ensures ∙ ap (λ (b : Bool). tried inner.outcome b OperandType c.args.at) c.takes_sign-fits.ensures in
    outcome_of-unary m w c.args.operator c.args.at e k inner.outcome c.require-outcome.result kind (search rules) alike is

pub expressions::judge_and_synthesize-returns-in_ok-outcome-in-Chain-clause-outcome : goal.expressions::judge_and_synthesize-returns-in_ok-outcome-in-Chain-clause-outcome
expressions::judge_and_synthesize-returns-in_ok-outcome-in-Chain-clause-outcome g t c =
    let m = g.S.Scope.means c.args.scope.now in
    let e = tree_view c.in-Chain.first.value in
    let ls = links_view c.in-Chain.links.items in
    let k = c.chain_types-types.result.kind in
    let left = c.in_ok-left-in-Chain.left in
    let is : tree_view c.args.expr.now ≡ chain e ls = ap tree_view (c.in-Chain.is ∙ sym (rolls-Chain _ _)) ∙ fold-roll-Expr Tree ArgumentData LinkData expr_step argument_step link_step _ in
    rw is
    (outcome_of-chain m c.args.expected e ls k left c.in_ok-outcome-in-Chain.outcome (search rules) (search rules) (c.in_ok-outcome-in-Chain.ensures ∙ ap (λ l. links_outcome m k left (links_view l)) c.deref-in-Chain-4.ensures.value))

pub calls::judge_call-returns-then-not-takes_all-clause-outcome : goal.calls::judge_call-returns-then-not-takes_all-clause-outcome
calls::judge_call-returns-then-not-takes_all-clause-outcome g t c =
    let m = g.S.Scope.means c.args.scope.now in
    let known : standard_function (string_bytes c.args.name.now.text) ≡ Some c.in-Some.function = search rules in
    rw known
    (outcome_of-wrong_call m c.args.expected c.args.name.now.at c.in-Some.function (m.signature (string_bytes c.args.name.now.text)) (arguments_view c.args.arguments.now) c.in_ok-alone.alone c.require-outcome.result (search rules) (search rules) (search rules))

pub calls::judge_call-returns-clause-outcome : goal.calls::judge_call-returns-clause-outcome
calls::judge_call-returns-clause-outcome g t c =
    let m = g.S.Scope.means c.args.scope.now in
    let f = c.in-Some.function in
    let k = c.or_dint-kind.result in
    let args = arguments_view c.args.arguments.now in
    let fit = fit_from m f k 0 args in
    let known : standard_function (string_bytes c.args.name.now.text) ≡ Some f = search rules in
    let fits : c.if-takes_operands.fits ≡ (takes_operands f k && fit) = elim c.if-takes_operands.branch [
      | calls::judge_call-then-takes_operands w ↦ w.fits-is ∙ c.in_ok-judged.ensures.fit ∙ ap (λ (b : Bool). b && fit) w.if-takes_operands.ensures
      | calls::judge_call-else-takes_operands w ↦ w.fits-is ∙ w.if-takes_operands.false ∙ ap (λ (b : Bool). b && fit) w.if-takes_operands.ensures
    ] in
    rw known
    (outcome_of-call m c.args.expected c.args.name.now.at f (m.signature (string_bytes c.args.name.now.text)) args k c.in_ok-judged.judged.outcome c.require-outcome-2.result c.if-takes_operands.fits (search rules) (search rules) fits c.in_ok-judged.ensures.outcome (search rules))

pub answers::judge_given-loop-place-preserved : goal.answers::judge_given-loop-place-preserved
answers::judge_given-loop-place-preserved g t c =
    let m = g.S.Scope.means c.args.scope.now in
    let s = c.args.signature in
    let xs = c.args.arguments.now in
    let place = c.loop-place.place in
    let a = c.index-arguments-place.result in
    let e = (argument_view a).1 in
    let n = (argument_view a).0 in
    let rest = arguments_view (drop (place + 1) xs) in
    let port = c.port-port.result in
    let value = c.in_ok-value.value in
    let named : option_map name_view (out-Argument a).name ≡ n = sym (ap (λ (x : ArgumentData). x.0) (argument_view-out a)) in
    let valued : tree_view (out-Argument a).value ≡ e = sym (ap (λ (x : ArgumentData). x.1) (argument_view-out a)) in
    let to : c.place_for-to.result ≡ place_for m s place n = c.place_for-to.ensures ∙ ap (place_for m s place) named in
    let own_is : value.synthesized ≡ synthesized m e = c.in_ok-value.ensures.synthesized ∙ ap (synthesized m) valued in
    let told : value.outcome ≡ outcome_of (judged m c.expected_by.result e) = c.in_ok-value.ensures.outcome ∙ ap (λ (x : Tree). outcome_of (judged m c.expected_by.result x)) valued in
    let fits : c.fits_port-fits.result ≡ fits_port m port e = c.fits_port-fits.ensures ∙ fits_port-synthesized m port e value.synthesized own_is in
    let placed : c.fits_unless_named-placed.result ≡ fits_placed m s place n e =
    c.fits_unless_named-placed.ensures ∙ ap (λ x. fits_unless_named x c.fits_port-fits.result) named ∙ ap (fits_unless_named n) (fits ∙ ap (λ p. fits_port m p e) (c.port-port.ensures ∙ ap (m.port s.function) to)) ∙ fits_placed-unless m s place n e in
    let new : c.if-fit.fit ≡ (c.loop-place.fit && c.fits_unless_named-placed.result) = elim c.if-fit.branch [
      | answers::judge_given-then-fit w ↦ rw w.if-fit.true w.fit-is
      | answers::judge_given-else-fit w ↦ rw w.if-fit.false (w.fit-is ∙ w.if-fit.false)
    ] in
    let listed : arguments_view (drop place xs) ≡ argument n e rest = arguments_from xs place a c.loop-place-test.true c.index-arguments-place.is in
    let all = given_outcome m s 0 (outcome_of ok) (arguments_view xs) in
    let all_fit = fit_placed m s 0 (arguments_view xs) in
    record {
      judged = given_on m s place n e rest c.loop-place.outcome value.outcome c.judge_port.result c.and-parts.result c.judge_named.result c.and-outcome.result all port c.expected_by.result c.place_for-to.result c.fits_port-fits.result
          to c.port-port.ensures c.expected_by.ensures told fits c.judge_port.ensures c.and-parts.ensures (c.judge_named.ensures ∙ ap (λ x. named_outcome x c.fits_port-fits.result c.and-parts.result) named) c.and-outcome.ensures
          (sym (ap (given_outcome m s place c.loop-place.outcome) listed) ∙ c.loop-place.invariant.judged);
      fit = one_more_fits c.loop-place.fit c.fits_unless_named-placed.result (fit_placed m s (place + 1) rest) all_fit c.if-fit.fit new
          (ap (λ (b : Bool). c.loop-place.fit && (b && fit_placed m s (place + 1) rest)) placed ∙ sym (ap (λ (x : Arguments). c.loop-place.fit && fit_placed m s place x) listed) ∙ c.loop-place.invariant.fit);
    }

pub answers::judge_user_call-returns-clause-outcome : goal.answers::judge_user_call-returns-clause-outcome
answers::judge_user_call-returns-clause-outcome g t c =
    let m = g.S.Scope.means c.args.scope.now in
    let s = c.in-Some.signature in
    let args = arguments_view c.args.arguments.now in
    let known : m.signature (string_bytes c.args.name.now.text) ≡ Some s = search rules in
    rw known (outcome_of-user_call m c.args.name.now.at s args c.in_ok-parts.parts.outcome c.in_ok-outcome.outcome c.in_ok-parts.ensures.outcome c.in_ok-outcome.ensures)
