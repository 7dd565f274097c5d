use Rattle.std.proofs.Common.{◌≡◌, ℕ, ◌+◌, ◌-◌, ◌<◌, ◌∙◌, ap, map, List, ◌++◌, arith}
use Rattle.std.proofs.lemmas.List.{map_push}
use Rattle.std.proofs.lemmas.Result.{err_from_is_err_and}
use Rattle.gates.proofs.Growth.{extends_then}
use Rattle.word_circuits.proofs.Growth.{handed_on}
use Rattle.pair_circuits.specs.declared.breaks.ScanLits.{ScanLits}
use Rattle.query_formulas.specs.CellShapes.{bits_of}
use Rattle.pair_circuits.specs.Views.{parts_view, pair_view, scan_lits_view}
use Rattle.query_formulas.specs.Breaks.{ScanLiterals, scans_from}
use Rattle.pair_circuits.proofs.BreakTurns.{room_step, scans_turn, scans_step, scans_step_net}
use Rattle.pair_circuits.proofs.breaks.scans_from.Goals as goal

pub returns-in_err-made-clause-too_many : goal.returns-in_err-made-clause-too_many
returns-in_err-made-clause-too_many c =
    let p = err_from_is_err_and c.from_residual.result c.from_residual.ensures.1 in
    handed_on c.from_residual.result p.0 _ _ _ p.1 p.2 c.in_err-made.ensures.too_many
    (scans_turn (parts_view c.args.parts.now) c.args.count c.loop-scan._scan c.loop-scan.next _ _ c.loop-scan.circuit _ (omega arith) (rw c.as_slice.ensures.value at c.in-Ok.ensures) c.loop-scan.invariant.net)

pub loop-scan-preserved : goal.loop-scan-preserved
loop-scan-preserved c =
    let parts = parts_view c.args.parts.now in
    let i = c.loop-scan._scan in
    let bits = bits_of c.args.parts.now.lines.items in
    let within : i < c.args.count = omega arith in
    let same = rw c.as_slice.ensures.value at c.in-Ok.ensures in
    let counted = rw c.as_slice-in-loop-scan.ensures.value at c.count_bits-next.ensures in
    let next : c.loop-scan.next + c.count_bits-next.result ≡ c.loop-scan.next + bits = ap (λ (k : ℕ). c.loop-scan.next + k) counted in
    record {
      bits = omega (arith, room_step c.args.count i bits within, c.loop-scan.invariant.bits, counted);
      scans = ap (λ (xs : List ScanLits). map scan_lits_view xs ++ (scans_from parts (c.args.count - (i + 1)) (c.loop-scan.next + c.count_bits-next.result) (pair_view c.in_ok-made.made.pair) c.scan_from.new.circuit).scans) c.in-Ok-push.ensures.items
          ∙ ap (λ (xs : List ScanLiterals). xs ++ (scans_from parts (c.args.count - (i + 1)) (c.loop-scan.next + c.count_bits-next.result) (pair_view c.in_ok-made.made.pair) c.scan_from.new.circuit).scans) (map_push scan_lits_view c.loop-scan.scans.items c.in_ok-made.made.lits)
          ∙ scans_step parts c.args.count i c.loop-scan.next _ _ _ _ c.loop-scan.circuit _ _ _ _ within same c.in_ok-made.ensures.lits c.in_ok-made.ensures.pair c.in_ok-made.ensures.net next c.loop-scan.invariant.scans;
      net = scans_step_net parts c.args.count i c.loop-scan.next _ _ _ _ c.loop-scan.circuit _ _ within same c.in_ok-made.ensures.pair c.in_ok-made.ensures.net next c.loop-scan.invariant.net;
      extends = extends_then _ _ _ c.loop-scan.invariant.extends c.scan_from.ensures.extends;
    }
