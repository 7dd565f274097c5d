use Rattle.std.proofs.Common.{◌∙◌}
use Rattle.candidates.specs.PairView.{old_of, new_of}
use Rattle.relation_lines.specs.declared.line.Condition.TheVariants.{Relate}
use Rattle.relation_file.specs.Relations.{clauses_in}
use Rattle.relation_file.proofs.ListedLemmas.{is_listed}
use Rattle.relation_file.proofs.listed.candidates_in.Goals as goal

pub returns : goal.returns
returns c = λ ls equal invariants relates.
    let old = old_of c.args.pair.now in
    let new = new_of c.args.pair.now in
    is_listed old new ls c.args.agree _ c.args.invariants.items c.add_same_of.new.found.items c.add_relates.new.found.items c.add_initial_values_of.new.found.items
    equal invariants c.in_ok-add_same_of.ensures (c.in_ok-relates.ensures.added (clauses_in old new Relate ls) relates) c.in_ok-add_initial_values_of.ensures c.in_ok-add_exclusive_of.ensures
    (c.len-invariants.ensures ∙ c.args.invariants.ok.0) (c.len-first_relate.ensures ∙ c.add_same_of.new.found.ok.0) c.in_ok-relates.ensures.counted
