use Rattle.std.proofs.Common.{rules, arith}
use Rattle.std.proofs.lemmas.Grind.{common_steps}
use Rattle.std.proofs.lemmas.List.{map_push}
use Rattle.source_tree.specs.SyntaxView.{step_actions_view}
use Rattle.grammar.specs.Reading.{ahead}
use Rattle.grammar.specs.ChartSteps.{step_actions}
use Rattle.grammar.proofs.Turns.{one_more, no_more}
use Rattle.file_reader.proofs.step.step_actions.Goals as goal

pub returns-in-Some : goal.returns-in-Some
unfolding step_actions
returns-in-Some c =
    let e = one_more (λ n. step_actions n (step_actions_view c.loop-turn.found.items) (ahead c.args.toks.now c.loop-turn.at)) _ c.loop-turn._turn c.loop-turn-test.true c.loop-turn.invariant in
    first_of (search rules, grind (arith, common_steps))

pub returns-in_err-next : goal.returns-in_err-next
unfolding step_actions
returns-in_err-next c =
    let e = one_more (λ n. step_actions n (step_actions_view c.loop-turn.found.items) (ahead c.args.toks.now c.loop-turn.at)) _ c.loop-turn._turn c.loop-turn-test.true c.loop-turn.invariant in
    first_of (search rules, grind (arith, common_steps))

pub loop-turn-preserved : goal.loop-turn-preserved
unfolding step_actions
loop-turn-preserved c =
    let e = one_more (λ n. step_actions n (step_actions_view c.loop-turn.found.items) (ahead c.args.toks.now c.loop-turn.at)) _ c.loop-turn._turn c.loop-turn-test.true c.loop-turn.invariant in
    first_of (search rules, grind (arith, common_steps, map_push))

pub returns : goal.returns
unfolding step_actions
returns c =
    let e = no_more (λ n. step_actions n (step_actions_view c.loop-turn.found.items) (ahead c.args.toks.now c.loop-turn.at)) _ c.loop-turn._turn c.loop-turn-test.false c.loop-turn.invariant in
    first_of (search rules, grind (arith, common_steps))
