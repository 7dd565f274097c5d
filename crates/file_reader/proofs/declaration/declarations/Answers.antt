use Rattle.std.proofs.Common.{rules, arith, length}
use Rattle.std.proofs.lemmas.Grind.{common_steps}
use Rattle.std.proofs.lemmas.List.{map_push}
use Rattle.source_tree.specs.SyntaxView.{declarations_view}
use Rattle.grammar.specs.Reading.{ahead}
use Rattle.grammar.specs.Declarations.{declarations}
use Rattle.grammar.proofs.Turns.{one_more, no_more}
use Rattle.file_reader.proofs.declaration.declarations.Goals as goal

pub returns-in-Some : goal.returns-in-Some
unfolding declarations
returns-in-Some c =
    let e = one_more (λ n. declarations (length c.args.toks.now) n (declarations_view c.loop-turn.found.items) (ahead c.args.toks.now c.loop-turn.at)) _ c.loop-turn._turn c.loop-turn-test.true c.loop-turn.invariant in
    first_of (search rules, grind (arith, common_steps))

pub returns-in_err-next : goal.returns-in_err-next
unfolding declarations
returns-in_err-next c =
    let e = one_more (λ n. declarations (length c.args.toks.now) n (declarations_view c.loop-turn.found.items) (ahead c.args.toks.now c.loop-turn.at)) _ c.loop-turn._turn c.loop-turn-test.true c.loop-turn.invariant in
    first_of (search rules, grind (arith, common_steps))

pub loop-turn-preserved : goal.loop-turn-preserved
unfolding declarations
loop-turn-preserved c =
    let e = one_more (λ n. declarations (length c.args.toks.now) n (declarations_view c.loop-turn.found.items) (ahead c.args.toks.now c.loop-turn.at)) _ c.loop-turn._turn c.loop-turn-test.true c.loop-turn.invariant in
    first_of (search rules, grind (arith, common_steps, map_push))

pub returns : goal.returns
unfolding declarations
returns c =
    let e = no_more (λ n. declarations (length c.args.toks.now) n (declarations_view c.loop-turn.found.items) (ahead c.args.toks.now c.loop-turn.at)) _ c.loop-turn._turn c.loop-turn-test.false c.loop-turn.invariant in
    first_of (search rules, grind (arith, common_steps))
