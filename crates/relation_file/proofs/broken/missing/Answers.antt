use Rattle.std.proofs.Common.{◌&&◌, ℕ, List, Bool, ap, ◌∙◌}
use Rattle.rules.specs.declared.rule.Rule.TheVariants.{LineOrder, InputCount}
use Rattle.rules.specs.Rules.{first_in}
use Rattle.scan_model.specs.declared.side.Side.TheVariants as sides
use Rattle.indexmap.specs.IndexSet.{contains_text}
use Rattle.relation_file.specs.Broken.{missing_ranks, missing_inputs}
use Rattle.candidates.specs.ByPath.{is_among}
use Rattle.relation_file.specs.Inputs.{names_in, all_listed}
use Rattle.candidates.specs.PairView.{old_of, new_of}
use Rattle.relation_file.specs.Refusals.{unless}
use Rattle.relation_file.proofs.FirstLemmas.{both_first}
use Rattle.relation_file.proofs.broken.missing.Goals as goal

pub returns : goal.returns
returns c = λ before recalls.
    let old = old_of c.args.pair.now in
    let new = new_of c.args.pair.now in
    let end = c.args.end in
    let listed = c.has_inputs.ensures
    ∙ ap (λ (f : List ℕ → Bool). all_listed f old.cells && all_listed (contains_text c.args.seen.now.of_new) new.cells) recalls.of_old
    ∙ ap (λ (f : List ℕ → Bool). all_listed (is_among (names_in sides.Old before)) old.cells && all_listed f new.cells) recalls.of_new in
    let ranks = c.unless-ranks.ensures ∙ ap (λ b. first_in (unless b LineOrder end)) (c.has_needed.ensures before recalls.ranks) in
    let inputs = c.unless-inputs.ensures ∙ ap (λ b. first_in (unless b InputCount end)) listed in
    both_first c.earlier.result c.unless-ranks.result c.unless-inputs.result (missing_ranks old new end before) (missing_inputs old new end before) c.earlier.ensures ranks inputs
