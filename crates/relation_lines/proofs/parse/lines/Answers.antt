use Rattle.std.proofs.Common.{rules, arith, length}
use Rattle.std.proofs.lemmas.Grind.{common_steps}
use Rattle.std.proofs.lemmas.List.{map_push}
use Rattle.grammar.specs.Reading.{ahead}
use Rattle.grammar.proofs.Turns.{one_more, no_more}
use Rattle.relation_lines.specs.View.{lines_view}
use Rattle.relation_lines.specs.Reading.{lines}
use Rattle.relation_lines.proofs.parse.lines.Goals as goal

pub returns-then-has_ended : goal.returns-then-has_ended
unfolding lines
returns-then-has_ended c =
    let e = one_more (λ n. lines (length c.args.toks.now) 64 n (lines_view c.loop-turn.found.items) (ahead c.args.toks.now c.loop-turn.at)) _ c.loop-turn._turn c.loop-turn-test.true c.loop-turn.invariant in
    first_of (search rules, grind (arith, common_steps))

pub returns-in_err-next : goal.returns-in_err-next
unfolding lines
returns-in_err-next c =
    let e = one_more (λ n. lines (length c.args.toks.now) 64 n (lines_view c.loop-turn.found.items) (ahead c.args.toks.now c.loop-turn.at)) _ c.loop-turn._turn c.loop-turn-test.true c.loop-turn.invariant in
    first_of (search rules, grind (arith, common_steps))

pub loop-turn-preserved : goal.loop-turn-preserved
unfolding lines
loop-turn-preserved c =
    let e = one_more (λ n. lines (length c.args.toks.now) 64 n (lines_view c.loop-turn.found.items) (ahead c.args.toks.now c.loop-turn.at)) _ c.loop-turn._turn c.loop-turn-test.true c.loop-turn.invariant in
    first_of (search rules, grind (arith, common_steps, map_push))

pub returns : goal.returns
unfolding lines
returns c =
    let e = no_more (λ n. lines (length c.args.toks.now) 64 n (lines_view c.loop-turn.found.items) (ahead c.args.toks.now c.loop-turn.at)) _ c.loop-turn._turn c.loop-turn-test.false c.loop-turn.invariant in
    first_of (search rules, grind (arith, common_steps))
