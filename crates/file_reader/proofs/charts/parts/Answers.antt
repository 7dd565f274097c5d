use Rattle.std.proofs.Common.{rules, arith, length}
use Rattle.std.proofs.lemmas.Grind.{common_steps}
use Rattle.std.proofs.lemmas.List.{map_push}
use Rattle.source_tree.specs.SyntaxView.{parts_view}
use Rattle.grammar.specs.Reading.{ahead}
use Rattle.grammar.specs.Charts.{parts}
use Rattle.grammar.proofs.Turns.{one_more, no_more}
use Rattle.file_reader.proofs.charts.parts.Goals as goal

pub returns-in_err-next : goal.returns-in_err-next
unfolding parts
returns-in_err-next c =
    let e = one_more (λ n. parts (length c.args.toks.now) 64 n (parts_view c.loop-turn.found.items) (ahead c.args.toks.now c.loop-turn.at)) _ c.loop-turn._turn c.loop-turn-test.true c.loop-turn.invariant in
    first_of (search rules, grind (arith, common_steps))

pub returns-then-not-begins_part : goal.returns-then-not-begins_part
unfolding parts
returns-then-not-begins_part c =
    let e = one_more (λ n. parts (length c.args.toks.now) 64 n (parts_view c.loop-turn.found.items) (ahead c.args.toks.now c.loop-turn.at)) _ c.loop-turn._turn c.loop-turn-test.true c.loop-turn.invariant in
    first_of (search rules, grind (arith, common_steps, map_push))

pub loop-turn-preserved : goal.loop-turn-preserved
unfolding parts
loop-turn-preserved c =
    let e = one_more (λ n. parts (length c.args.toks.now) 64 n (parts_view c.loop-turn.found.items) (ahead c.args.toks.now c.loop-turn.at)) _ c.loop-turn._turn c.loop-turn-test.true c.loop-turn.invariant in
    first_of (search rules, grind (arith, common_steps, map_push))

pub returns : goal.returns
unfolding parts
returns c =
    let e = no_more (λ n. parts (length c.args.toks.now) 64 n (parts_view c.loop-turn.found.items) (ahead c.args.toks.now c.loop-turn.at)) _ c.loop-turn._turn c.loop-turn-test.false c.loop-turn.invariant in
    first_of (search rules, grind (arith, common_steps))
