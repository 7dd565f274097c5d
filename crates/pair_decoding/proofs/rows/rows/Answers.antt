use Rattle.std.proofs.Common.{sym, subst}
use Rattle.node_circuits.specs.NodeWords.{words_view}
use Rattle.pair_decoding.specs.Widths.{AreWide}
use Rattle.pair_decoding.proofs.Fronts.{wide_at}
use Rattle.pair_decoding.proofs.rows.rows.Goals as goal

pub row-requires : goal.row-requires
row-requires c =
    subst (λ ws. AreWide c.args.cells.now (words_view ws)) (sym c.as_slice.ensures.value)
    (wide_at c.args.cells.now c.args.scans.now c.loop-scan.scan-index c.scan-item.result c.loop-scan-test.true c.scan-item.is c.requires)
