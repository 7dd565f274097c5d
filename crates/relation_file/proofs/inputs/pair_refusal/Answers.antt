use Rattle.std.proofs.Common.{◌++◌, ℕ, List, ap, ◌∙◌}
use Rattle.rules.specs.declared.rule.Rule.TheVariants.{InputsDiffer}
use Rattle.rules.specs.Rules.{first_in}
use Rattle.source_tree.specs.SyntaxView.{name_view}
use Rattle.plc_types.specs.Enumerations.{paired_type}
use Rattle.scan_model.specs.declared.side.Side.TheVariants as sides
use Rattle.relation_file.specs.Broken.{broken_name}
use Rattle.candidates.specs.ByPath.{cell_named, found_view}
use Rattle.relation_file.specs.Inputs.{are_alike}
use Rattle.candidates.specs.PairView.{old_of, new_of}
use Rattle.relation_file.specs.Refusals.{unless}
use Rattle.relation_file.proofs.FirstLemmas.{own_behind, both_first}
use Rattle.relation_file.proofs.inputs.pair_refusal.Goals as goal

pub returns : goal.returns
returns c = λ before recalls.
    let old = old_of c.args.pair.now in
    let new = new_of c.args.pair.now in
    let a = name_view c.args.old.now in
    let b = name_view c.args.new.now in
    let of_old = broken_name old new sides.Old before a in
    let of_new = broken_name old new sides.New before b in
    let one = c.find_old.ensures ∙ ap (λ (t : List ℕ). cell_named t old.cells) c.as_str.ensures.value in
    let two = c.find_new.ensures ∙ ap (λ (t : List ℕ). cell_named t new.cells) c.as_str-2.ensures.value in
    let alike = c.are_alike-alike.ensures ∙ ap (λ o. are_alike (paired_type old.types new.types) o (found_view c.find_new.result)) one ∙ ap (are_alike (paired_type old.types new.types) (cell_named a.text old.cells)) two in
    let own = c.unless.ensures ∙ ap (λ t. first_in (unless t InputsDiffer a.at)) alike in
    let parts = both_first c.earlier.result c.name_refusal-of_old.result c.name_refusal-of_new.result of_old of_new c.earlier.ensures (c.name_refusal-of_old.ensures before recalls) (c.name_refusal-of_new.ensures before recalls) in
    own_behind c.or.result c.earlier.result c.unless.result (of_old ++ of_new) (unless (are_alike (paired_type old.types new.types) (cell_named a.text old.cells) (cell_named b.text new.cells)) InputsDiffer a.at) c.or.ensures parts own
