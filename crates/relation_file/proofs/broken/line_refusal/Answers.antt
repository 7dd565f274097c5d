use Rattle.std.proofs.Common.{not, ap, ◌∙◌}
use Rattle.rules.specs.declared.rule.Rule.TheVariants.{LineOrder}
use Rattle.rules.specs.Rules.{first_in}
use Rattle.relation_lines.specs.View.{content_view}
use Rattle.relation_file.specs.Broken.{broken_parts}
use Rattle.relation_file.specs.Order.{is_out_of_order}
use Rattle.candidates.specs.PairView.{old_of, new_of}
use Rattle.relation_file.specs.Refusals.{unless}
use Rattle.relation_file.proofs.FirstLemmas.{own_behind}
use Rattle.relation_file.proofs.broken.line_refusal.Goals as goal

pub returns : goal.returns
returns c = λ before recalls.
    let line = c.args.line.now in
    let content = content_view line.content in
    let own = c.unless.ensures ∙ ap (λ b. first_in (unless (not b) LineOrder line.at)) (c.is_out_of_order-late.ensures before recalls.ranks) in
    own_behind c.or.result c.parts_refusal-parts.result c.unless.result (broken_parts (old_of c.args.pair.now) (new_of c.args.pair.now) before content) (unless (not (is_out_of_order content before)) LineOrder line.at) c.or.ensures (c.parts_refusal-parts.ensures before recalls) own
