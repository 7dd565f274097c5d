use Rattle.std.proofs.Common.{◌≡◌, ◌<◌, ◌≤◌, ℕ, sym, ◌∙◌, subst, List, [], length, arith, IfOk, false}
use Rattle.std.proofs.lemmas.Bool.Decides.{nat_tests}
use Rattle.clause_core.specs.declared.literal.Lit.{Lit}
use Rattle.plc_types.specs.Types.{width_of}
use Rattle.word_circuits.specs.Conversions.{resized}
use Rattle.node_circuits.specs.NodeWords.{words_view, word_in}
use Rattle.node_circuits.proofs.Views.{word_in-view, word_in-past}
use Rattle.node_circuits.proofs.operands.operand.Goals as goal

pub returns-in-Some-clause-word : goal.returns-in-Some-clause-word
returns-in-Some-clause-word c =
    let l = c.in-Some.ensures.lookup in
    let inside : c.args.number < length c.args.words.now = grind (arith, nat_tests, l.0) in
    let is : word_in (words_view c.args.words.now) c.args.number ≡ c.as_slice.result.now =
    word_in-view c.args.words.now c.args.number c.in-Some.word.now inside l.1 ∙ sym c.as_slice.ensures.value in
    subst (λ (a : List Lit). IfOk c.resize.result (λ w. w.items ≡ resized false (width_of c.args.kind) a)) (sym is)
    (subst (λ (k : ℕ). IfOk c.resize.result (λ w. w.items ≡ resized false k c.as_slice.result.now)) c.width-width.ensures.width c.resize.ensures.word)

pub returns-in-None-clause-word : goal.returns-in-None-clause-word
returns-in-None-clause-word c =
    let l = c.in-None.ensures.lookup in
    let past : length c.args.words.now ≤ c.args.number = grind (arith, nat_tests, l.0) in
    subst (λ (a : List Lit). IfOk c.resize-in-None.result (λ w. w.items ≡ resized false (width_of c.args.kind) a)) (sym (word_in-past c.args.words.now c.args.number past))
    (subst (λ (k : ℕ). IfOk c.resize-in-None.result (λ w. w.items ≡ resized false k [])) c.width-width.ensures.width c.resize-in-None.ensures.word)
