use Rattle.std.proofs.Common.{arith, rules}
use Rattle.std.specs.Str.{bytes_eq}
use Rattle.std.proofs.lemmas.Int.{ints}
use Rattle.indexmap.specs.IndexMap.{get_by}
use Rattle.clause_types.proofs.ValueLemmas.{one_more_value}
use Rattle.clause_types.proofs.enumeration_values.with_values.Goals as goal

pub loop-index-preserved : goal.loop-index-preserved
loop-index-preserved c =
    one_more_value c.args.kind c.args.names.now c.loop-index.index c.as_str.result c.index-names-index.result _ c.loop-index.more c.insert.new.self (λ text. get_by (λ name. bytes_eq text name.now) c.args.found)
    (omega arith) (omega arith) c.index-names-index.is c.as_str.ensures.value (search (rules, ints)) c.in_ok-insert.ensures.updates c.loop-index.invariant
