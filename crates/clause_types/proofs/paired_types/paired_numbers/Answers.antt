use Rattle.std.proofs.Common.{List, ◌≡◌, ◌+◌, ◌∷◌, drop, ap, ◌∙◌, arith, String, Global}
use Rattle.std.proofs.lemmas.Grind.{common_steps}
use Rattle.plc_types.specs.Enumerations.{paired_number}
use Rattle.program_tree.specs.View.{texts_view, lists_of_texts, program_view}
use Rattle.clause_types.proofs.NumberLemmas.{one_more_number}
use Rattle.clause_types.proofs.paired_types.paired_numbers.Goals as goal

pub loop-number-preserved : goal.loop-number-preserved
loop-number-preserved c =
    let i = c.loop-number.number in
    let own = c.index-types-number.result in
    let rest = lists_of_texts (drop (i + 1) c.args.types.now) in
    let left : lists_of_texts (drop i c.args.types.now) ≡ texts_view own.items ∷ rest = grind (arith, common_steps) in
    let old = (program_view c.args.old.now.program.now).types in
    let kind = c.paired_number-kind.ensures ∙ ap (λ (ns : List (String Global)). paired_number old i (texts_view ns)) c.deref.ensures.value in
    one_more_number old c.loop-number.numbers.items _ _ i (texts_view own.items) rest _ _ c.in_ok-push.ensures.items kind left c.loop-number.invariant
