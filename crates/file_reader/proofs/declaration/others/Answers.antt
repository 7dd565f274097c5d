use Rattle.std.proofs.Common.{rules, arith}
use Rattle.std.proofs.lemmas.Grind.{common_steps}
use Rattle.std.proofs.lemmas.List.{map_push}
use Rattle.source_tree.specs.SyntaxView.{names_view}
use Rattle.grammar.specs.Reading.{ahead}
use Rattle.grammar.specs.Declarations.{others}
use Rattle.grammar.proofs.Turns.{one_more, no_more}
use Rattle.file_reader.proofs.declaration.others.Goals as goal

pub returns-in_default : goal.returns-in_default
unfolding others
returns-in_default c =
    let e = one_more (λ n. others n (names_view c.loop-turn.names.items) (ahead c.args.toks.now c.loop-turn.at)) _ c.loop-turn._turn c.loop-turn-test.true c.loop-turn.invariant in
    first_of (search rules, grind (arith, common_steps))

pub returns-in_err-name : goal.returns-in_err-name
unfolding others
returns-in_err-name c =
    let e = one_more (λ n. others n (names_view c.loop-turn.names.items) (ahead c.args.toks.now c.loop-turn.at)) _ c.loop-turn._turn c.loop-turn-test.true c.loop-turn.invariant in
    first_of (search rules, grind (arith, common_steps))

pub loop-turn-preserved : goal.loop-turn-preserved
unfolding others
loop-turn-preserved c =
    let e = one_more (λ n. others n (names_view c.loop-turn.names.items) (ahead c.args.toks.now c.loop-turn.at)) _ c.loop-turn._turn c.loop-turn-test.true c.loop-turn.invariant in
    first_of (search rules, grind (arith, common_steps, map_push))

pub returns : goal.returns
unfolding others
returns c =
    let e = no_more (λ n. others n (names_view c.loop-turn.names.items) (ahead c.args.toks.now c.loop-turn.at)) _ c.loop-turn._turn c.loop-turn-test.false c.loop-turn.invariant in
    first_of (search rules, grind (arith, common_steps))
