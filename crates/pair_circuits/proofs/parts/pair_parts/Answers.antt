use Rattle.std.proofs.Common.{◌≡◌, ◌+◌, ◌++◌, length, map, arith, ap, ◌∙◌}
use Rattle.std.proofs.lemmas.List.{length-map}
use Rattle.program_tree.specs.View.{cell_view, cells_view, exprs_view, program_view}
use Rattle.scan_model.specs.Pairs.{clauses_among, candidates_view}
use Rattle.scan_model.specs.Among.{among}
use Rattle.node_core.specs.Scans.{scan_view}
use Rattle.query_formulas.specs.CellShapes.{shapes_of, cells_of_lines}
use Rattle.pair_circuits.specs.LineShapes.{shapes_of_lines}
use Rattle.pair_circuits.specs.Views.{clauses_view}
use Rattle.query_formulas.specs.Parts.{clauses_of}
use Rattle.pair_circuits.proofs.Lines.{lines_same}
use Rattle.pair_circuits.proofs.SameParts.{same_parts, clauses_fused}
use Rattle.pair_circuits.proofs.parts.pair_parts.Goals as goal

pub returns : goal.returns
returns c =
    let rel = c.args.relation.now in
    let olds = c.args.old.now.cells.items in
    let news = c.args.new.now.cells.items in
    let cells = length (cells_view olds) + length (cells_view news) in
    let count : c.len.result + c.len-2.result ≡ cells = omega (arith, length-map olds cell_view, length-map news cell_view) in
    let old_is : c.in_ok-of_old.of_old.items ≡ shapes_of (cells_view olds) = c.in_ok-of_old.ensures ∙ ap (λ cs. shapes_of (cells_view cs)) c.as_slice.ensures.value in
    let new_is : c.in_ok-of_new.of_new.items ≡ shapes_of (cells_view news) = c.in_ok-of_new.ensures ∙ ap (λ cs. shapes_of (cells_view cs)) c.as_slice-2.ensures.value in
    let lines_are : c.in_ok-lines.lines.items ≡ shapes_of (cells_of_lines (program_view c.args.old.now) (program_view c.args.new.now) rel.inputs.items) =
    c.in_ok-lines.ensures
    ∙ (ap (λ xs. shapes_of_lines xs c.as_slice-4.result.now c.as_slice-inputs.result.now) (c.as_slice-3.ensures.value ∙ old_is)
    ∙ (ap (λ xs. shapes_of_lines (shapes_of (cells_view olds)) xs c.as_slice-inputs.result.now) (c.as_slice-4.ensures.value ∙ new_is)
    ∙ (ap (shapes_of_lines (shapes_of (cells_view olds)) (shapes_of (cells_view news))) c.as_slice-inputs.ensures.value
    ∙ lines_same (program_view c.args.old.now) (program_view c.args.new.now) rel.inputs.items))) in
    let inputs_are : c.extend_from_slice.new.self.items ≡ rel.inputs.items =
    c.in_ok-extend_from_slice.ensures.items ∙ (ap (λ xs. xs ++ c.as_slice-inputs.result.now) c.new-copies.ensures.items ∙ c.as_slice-inputs.ensures.value) in
    let candidates_are : clauses_view c.in_ok-candidates.candidates.items ≡ clauses_of cells (map (λ k. k.clause) (candidates_view rel.candidates.items)) =
    c.in_ok-candidates.ensures
    ∙ (ap (λ n. clauses_of n (clauses_among c.as_slice-5.result.now)) count ∙ (ap (λ cs. clauses_of cells (clauses_among cs)) c.as_slice-5.ensures.value ∙ ap (clauses_of cells) (clauses_fused rel.candidates.items))) in
    let environment_is : clauses_view c.in_ok-environment.environment.items ≡ clauses_of cells (exprs_view rel.environment.items) =
    c.in_ok-environment.ensures ∙ (ap (λ n. clauses_of n (exprs_view c.as_slice-6.result.now)) count ∙ ap (λ es. clauses_of cells (exprs_view es)) c.as_slice-6.ensures.value) in
    let relates_are : clauses_view c.in_ok-relates.relates.items ≡ clauses_of cells (clauses_among (among rel.first_relate rel.relates rel.candidates.items)) =
    c.in_ok-relates.ensures ∙ (ap (λ n. clauses_of n (clauses_among c.relate_clauses.result.now)) count ∙ ap (λ cs. clauses_of cells (clauses_among cs)) c.relate_clauses.ensures) in
    same_parts _ _ _ _ _ _ _ _ (scan_view c.args.old_scan) (scan_view c.args.new_scan) _ _ _ _ _ _ rel.depth old_is new_is lines_are inputs_are candidates_are environment_is relates_are
