use Rattle.std.proofs.Common.{◌≡◌, ◌∙◌, sym, ap, subst, List, map, take}
use Rattle.clause_core.specs.Satisfaction.{assigned}
use Rattle.pair_circuits.specs.declared.breaks.ScanLits.{ScanLits}
use Rattle.query_formulas.specs.declared.shapes.CellShape.{CellShape}
use Rattle.pair_circuits.specs.Views.{parts_view, scan_lits_view}
use Rattle.pair_decoding.specs.Widths.{AreWideRows}
use Rattle.query_formulas.specs.Decoded.{first_state}
use Rattle.pair_decoding.proofs.Fronts.{rows_of, wide_front, run_decoded}
use Rattle.pair_decoding.proofs.decoding.decode_scans.Goals as goal

pub rows-requires : goal.rows-requires
rows-requires c =
    let lines = c.args.parts.now.lines.items in
    let taken : c.first_scans-scans.result.now ≡ take c.args.count c.args.breaks.now.scans.items = c.first_scans-scans.ensures ∙ ap (λ (ss : List ScanLits). take c.args.count ss) c.as_slice-3.ensures.value in
    subst (λ (cs : List CellShape). AreWideRows cs (map scan_lits_view c.first_scans-scans.result.now)) (sym c.as_slice-4.ensures.value)
    (subst (λ (ss : List ScanLits). AreWideRows lines (map scan_lits_view ss)) (sym taken) (wide_front lines c.args.count c.args.breaks.now.scans.items c.requires))

pub returns : goal.returns
returns c =
    let v = assigned c.args.found.now in
    let lines = c.args.parts.now.lines.items in
    let taken : c.first_scans-scans.result.now ≡ take c.args.count c.args.breaks.now.scans.items = c.first_scans-scans.ensures ∙ ap (λ (ss : List ScanLits). take c.args.count ss) c.as_slice-3.ensures.value in
    run_decoded v (parts_view c.args.parts.now) c.args.count c.args.breaks.now.scans.items c.in_ok-old.old.items c.in_ok-new.new.items c.in_ok-rows.rows.items
    (c.in_ok-old.ensures ∙ ap first_state c.as_slice.ensures.value)
    (c.in_ok-new.ensures ∙ ap first_state c.as_slice-2.ensures.value)
    (c.in_ok-rows.ensures ∙ ap (λ (cs : List CellShape). rows_of v cs (map scan_lits_view c.first_scans-scans.result.now)) c.as_slice-4.ensures.value
    ∙ ap (λ (ss : List ScanLits). rows_of v lines (map scan_lits_view ss)) taken)
