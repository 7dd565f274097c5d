use Rattle.std.proofs.Common.{rules, arith, length}
use Rattle.std.proofs.lemmas.Grind.{common_steps}
use Rattle.std.proofs.lemmas.List.{map_push}
use Rattle.source_tree.specs.SyntaxView.{items_view}
use Rattle.grammar.specs.Reading.{ahead}
use Rattle.grammar.specs.Files.{items}
use Rattle.grammar.proofs.Turns.{one_more, no_more}
use Rattle.st_parser.proofs.file.items.Goals as goal

pub returns-in_default : goal.returns-in_default
unfolding items
returns-in_default c =
    let e = one_more (λ n. items (length c.args.toks.now) 64 n (items_view c.loop-turn.found.items) (ahead c.args.toks.now c.loop-turn.at)) _ c.loop-turn._turn c.loop-turn-test.true c.loop-turn.invariant in
    first_of (search rules, grind (arith, common_steps))

pub returns-in_err-next : goal.returns-in_err-next
unfolding items
returns-in_err-next c =
    let e = one_more (λ n. items (length c.args.toks.now) 64 n (items_view c.loop-turn.found.items) (ahead c.args.toks.now c.loop-turn.at)) _ c.loop-turn._turn c.loop-turn-test.true c.loop-turn.invariant in
    first_of (search rules, grind (arith, common_steps))

pub loop-turn-preserved : goal.loop-turn-preserved
unfolding items
loop-turn-preserved c =
    let e = one_more (λ n. items (length c.args.toks.now) 64 n (items_view c.loop-turn.found.items) (ahead c.args.toks.now c.loop-turn.at)) _ c.loop-turn._turn c.loop-turn-test.true c.loop-turn.invariant in
    first_of (search rules, grind (arith, common_steps, map_push))

pub returns : goal.returns
unfolding items
returns c =
    let e = no_more (λ n. items (length c.args.toks.now) 64 n (items_view c.loop-turn.found.items) (ahead c.args.toks.now c.loop-turn.at)) _ c.loop-turn._turn c.loop-turn-test.false c.loop-turn.invariant in
    first_of (search rules, grind (arith, common_steps))
