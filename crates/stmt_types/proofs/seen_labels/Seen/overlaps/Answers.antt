use Rattle.std.proofs.Common.{◌≡◌, ◌∙◌, sym, ap, arith}
use Rattle.std.proofs.lemmas.Int.{ints}
use Rattle.stmt_types.specs.SeenLabels.{is_above}
use Rattle.stmt_types.proofs.SeenLemmas.{none_above}
use Rattle.stmt_types.proofs.seen_labels.Seen.overlaps.Goals as goal
use mir.Syntax.{w128}
use mir.Val.{to_z, of_z}

pub returns-then-is_above : goal.returns-then-is_above
returns-then-is_above c = λ list sees.
    let same : to_z w128 (of_z w128 c.args.range.low) ≡ c.args.range.low = omega (arith, ints) in
    none_above c.args.self.now.greatest list c.args.range sees.1 (ap (is_above c.args.self.now.greatest) (sym same) ∙ sym c.is_above.ensures ∙ c.if-is_above.true)

pub returns : goal.returns
returns c = λ list sees. c.overlaps_kept.ensures list sees.0
