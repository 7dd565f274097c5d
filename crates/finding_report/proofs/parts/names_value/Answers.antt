use Rattle.std.proofs.Common.{◌∙◌, map, arith}
use Rattle.serde_json.specs.View.{view}
use Rattle.queries.specs.Sets.{members}
use Rattle.finding_report.proofs.PartLemmas.{names_next}
use Rattle.finding_report.proofs.parts.names_value.Goals as goal

pub loop-number-preserved : goal.loop-number-preserved
loop-number-preserved c =
    names_next (members c.args.set.now) c.args.candidates.now c.loop-number.number c.index-candidates-number.result c.has.result c.as_str.result.now (map view c.loop-number.names.items)
    (map view c.add_name.new.names.items) (omega arith) c.index-candidates-number.is c.has.ensures c.as_str.ensures.value c.in_ok-add_name.ensures ∙ c.loop-number.invariant
