use Rattle.std.proofs.Common.{◌∙◌}
use Rattle.candidates.specs.PairView.{old_of, new_of}
use Rattle.relation_file.proofs.GatheredLemmas.{all_depth, all_conflicts, all_faults, all_inputs, all_environment, all_invariants, all_relates}
use Rattle.relation_file.proofs.ListedLemmas.{relation_is}
use Rattle.relation_file.proofs.relation.relation_of.Goals as goal

pub returns : goal.returns
returns c = λ ls w.
    let old = old_of c.args.pair.now in
    let new = new_of c.args.pair.now in
    let kept = c.args.gathered in
    let listed = c.in_ok-listed.ensures ls (all_faults old new ls kept w) (all_invariants old new ls kept w) (all_relates old new ls kept w) in
    relation_is old new ls (c.unwrap_or-depth.ensures ∙ all_depth old new ls kept w) (c.unwrap_or-conflicts.ensures ∙ all_conflicts old new ls kept w) (all_inputs old new ls kept w) (all_environment old new ls kept w)
    (all_faults old new ls kept w) listed.relates listed.invariants listed.candidates
