use Rattle.std.proofs.Common.{◌≡◌, ◌-◌, ◌∙◌, length, Some, rules, arith, ap, sym}
use Rattle.std.proofs.lemmas.Grind.{common_steps}
use Rattle.source_tree.specs.SyntaxView.{tree_view, links_view, arguments_view}
use Rattle.grammar.specs.Reading.{ahead}
use Rattle.grammar.specs.Expressions.{inside, levelled, links, arguments_from}
use Rattle.grammar.proofs.Turns.{one_more, no_more}
use Rattle.grammar.proofs.Links.{inside_step, links-push, operand_none, unlinked, linked, links_none}
use Rattle.grammar.proofs.Arguments.{arguments-push}
use Rattle.st_reader.proofs.+expression.Goals as goal
use Rattle.st_reader.proofs.+expression.Goals.{expressions::levelled-then-is_linked+in_ok-links+in_ok-value-2, expressions::levelled-else-is_linked}

pub expressions::inside-returns : goal.expressions::inside-returns
expressions::inside-returns t c =
    let e = inside_step (length c.args.toks.now) c.args.depth (ahead c.args.toks.now c.args.at) (omega arith) in
    first_of (search rules, grind (arith, common_steps))

pub expressions::inside-returns-then-depth-eq0 : goal.expressions::inside-returns-then-depth-eq0
unfolding inside
expressions::inside-returns-then-depth-eq0 t c =
    λ _. let none : c.args.depth ≡ 0 = omega arith in ap (λ d. inside (length c.args.toks.now) d (ahead c.args.toks.now c.args.at)) none

pub expressions::links-returns-in_default : goal.expressions::links-returns-in_default
unfolding links
expressions::links-returns-in_default t c =
    let e = one_more (λ n. links (levelled (length c.args.toks.now) (inside (length c.args.toks.now) c.args.depth) (c.args.level - 1)) c.args.level n (links_view c.loop-turn.links.items) (ahead c.args.toks.now c.loop-turn.at)) _ c.loop-turn._turn c.loop-turn-test.true c.loop-turn.invariant in
    first_of (search rules, grind (arith, common_steps))

pub expressions::links-returns-in_err-right : goal.expressions::links-returns-in_err-right
unfolding links
expressions::links-returns-in_err-right t c =
    let e = one_more (λ n. links (levelled (length c.args.toks.now) (inside (length c.args.toks.now) c.args.depth) (c.args.level - 1)) c.args.level n (links_view c.loop-turn.links.items) (ahead c.args.toks.now c.loop-turn.at)) _ c.loop-turn._turn c.loop-turn-test.true c.loop-turn.invariant in
    first_of (search rules, grind (arith, common_steps))

pub expressions::links-loop-turn-preserved : goal.expressions::links-loop-turn-preserved
unfolding links
expressions::links-loop-turn-preserved t c =
    let e = one_more (λ n. links (levelled (length c.args.toks.now) (inside (length c.args.toks.now) c.args.depth) (c.args.level - 1)) c.args.level n (links_view c.loop-turn.links.items) (ahead c.args.toks.now c.loop-turn.at)) _ c.loop-turn._turn c.loop-turn-test.true c.loop-turn.invariant in
    first_of (search rules, grind (arith, common_steps, links-push))

pub expressions::links-returns : goal.expressions::links-returns
unfolding links
expressions::links-returns t c =
    let e = no_more (λ n. links (levelled (length c.args.toks.now) (inside (length c.args.toks.now) c.args.depth) (c.args.level - 1)) c.args.level n (links_view c.loop-turn.links.items) (ahead c.args.toks.now c.loop-turn.at)) _ c.loop-turn._turn c.loop-turn-test.false c.loop-turn.invariant in
    first_of (search rules, grind (arith, common_steps))

pub call::arguments_from-returns-in_err-name : goal.call::arguments_from-returns-in_err-name
unfolding arguments_from
call::arguments_from-returns-in_err-name t c =
    let e = one_more (λ n. arguments_from (length c.args.toks.now) (inside (length c.args.toks.now) c.args.depth) c.args.by_name n (arguments_view c.loop-turn.found.items) (ahead c.args.toks.now c.loop-turn.at)) _ c.loop-turn._turn c.loop-turn-test.true c.loop-turn.invariant in
    first_of (search rules, grind (arith, common_steps))

pub call::arguments_from-returns-in_err-value : goal.call::arguments_from-returns-in_err-value
unfolding arguments_from
call::arguments_from-returns-in_err-value t c =
    let e = one_more (λ n. arguments_from (length c.args.toks.now) (inside (length c.args.toks.now) c.args.depth) c.args.by_name n (arguments_view c.loop-turn.found.items) (ahead c.args.toks.now c.loop-turn.at)) _ c.loop-turn._turn c.loop-turn-test.true c.loop-turn.invariant in
    first_of (search rules, grind (arith, common_steps))

pub call::arguments_from-returns-in_default : goal.call::arguments_from-returns-in_default
unfolding arguments_from
call::arguments_from-returns-in_default t c =
    let e = one_more (λ n. arguments_from (length c.args.toks.now) (inside (length c.args.toks.now) c.args.depth) c.args.by_name n (arguments_view c.loop-turn.found.items) (ahead c.args.toks.now c.loop-turn.at)) _ c.loop-turn._turn c.loop-turn-test.true c.loop-turn.invariant in
    first_of (search rules, grind (arith, common_steps, arguments-push))

pub call::arguments_from-loop-turn-preserved : goal.call::arguments_from-loop-turn-preserved
unfolding arguments_from
call::arguments_from-loop-turn-preserved t c =
    let e = one_more (λ n. arguments_from (length c.args.toks.now) (inside (length c.args.toks.now) c.args.depth) c.args.by_name n (arguments_view c.loop-turn.found.items) (ahead c.args.toks.now c.loop-turn.at)) _ c.loop-turn._turn c.loop-turn-test.true c.loop-turn.invariant in
    first_of (search rules, grind (arith, common_steps, arguments-push))

pub call::arguments_from-returns : goal.call::arguments_from-returns
unfolding arguments_from
call::arguments_from-returns t c =
    let e = no_more (λ n. arguments_from (length c.args.toks.now) (inside (length c.args.toks.now) c.args.depth) c.args.by_name n (arguments_view c.loop-turn.found.items) (ahead c.args.toks.now c.loop-turn.at)) _ c.loop-turn._turn c.loop-turn-test.false c.loop-turn.invariant in
    first_of (search rules, grind (arith, common_steps))

pub expressions::levelled-returns-in_err-value : goal.expressions::levelled-returns-in_err-value
expressions::levelled-returns-in_err-value t c =
    let none = operand_none (length c.args.toks.now) (inside (length c.args.toks.now) c.args.depth) c.args.level (ahead c.args.toks.now c.args.at) in
    first_of (search rules, grind (arith, common_steps))

pub expressions::levelled-loop-tighter-init : goal.expressions::levelled-loop-tighter-init
unfolding levelled
expressions::levelled-loop-tighter-init t c = c.in_ok-value.ensures

pub expressions::levelled-returns-in_err-links : goal.expressions::levelled-returns-in_err-links
expressions::levelled-returns-in_err-links t c =
    let none = links_none (length c.args.toks.now) (inside (length c.args.toks.now) c.args.depth) c.loop-tighter.tighter c.args.level (ahead c.args.toks.now c.args.at) (ahead c.args.toks.now c.loop-tighter.at) (tree_view c.loop-tighter.value) (omega arith) c.loop-tighter.invariant in
    first_of (search rules, grind (arith, common_steps))

pub expressions::levelled-loop-tighter-preserved : goal.expressions::levelled-loop-tighter-preserved
expressions::levelled-loop-tighter-preserved t c =
    elim c.if-is_linked.branch [
      | expressions::levelled-then-is_linked+in_ok-links+in_ok-value-2 w ↦ (
          let more = linked (length c.args.toks.now) (inside (length c.args.toks.now) c.args.depth) c.loop-tighter.tighter (ahead c.args.toks.now c.args.at) (ahead c.args.toks.now c.loop-tighter.at) _ _ _ c.loop-tighter.invariant w.in_ok-links.ensures in
          rw (w.value-is, w.at-is) (more ∙ ap (λ e. Some (e, ahead c.args.toks.now w.in_ok-links.next)) (sym w.in_ok-value-2.ensures)))
      | expressions::levelled-else-is_linked w ↦ rw (w.value-is, w.at-is) (unlinked (length c.args.toks.now) (inside (length c.args.toks.now) c.args.depth) c.loop-tighter.tighter (ahead c.args.toks.now c.args.at) _ _ c.loop-tighter.invariant (sym c.is_linked.ensures ∙ w.if-is_linked.false))
    ]
