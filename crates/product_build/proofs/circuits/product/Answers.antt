use Rattle.std.proofs.Common.{◌+◌, ◌-◌, ◌^◌, ◌<◌, sym, subst, ap, ◌∙◌, arith}
use Rattle.std.proofs.lemmas.List.{length-map}
use Rattle.std.proofs.lemmas.Result.{err_from_is_err_and}
use Rattle.gates.specs.Netlists.{IsOverfull}
use Rattle.program_tree.specs.View.{cell_view}
use Rattle.node_core.specs.Scans.{scan_view}
use Rattle.query_formulas.specs.Parts.{Parts}
use Rattle.pair_circuits.specs.Views.{parts_view, product_view, breaks_view}
use Rattle.query_formulas.specs.Products.{product_bits, product_of}
use Rattle.query_formulas.specs.Breaks.{breaks_bits, breaks_of}
use Rattle.product_build.specs.Limits.{most_gates, HasManyGates}
use Rattle.product_build.specs.MadeCircuits.{comparison_between}
use Rattle.product_build.proofs.Few.{few_words, product_few, breaks_few}
use Rattle.product_build.proofs.Gates.{handed, few_gates, many_in_product, many_in_breaks}
use Rattle.product_build.proofs.circuits.product.Goals as goal

pub pair_parts-requires : goal.pair_parts-requires
pair_parts-requires c =
    let few = few_words (comparison_between c.args.old.now c.args.new.now c.args.relation.now) c.requires.typed.comparison in
    omega (arith, few, length-map c.args.old.now.cells.items cell_view, length-map c.args.new.now.cells.items cell_view)

pub product_circuit-requires : goal.product_circuit-requires
product_circuit-requires c =
    let k = comparison_between c.args.old.now c.args.new.now c.args.relation.now in
    record { few = subst (λ (p : Parts). product_bits p + most_gates < 2 ^ 31 - 1) (sym c.in-Ok.ensures) (product_few k (scan_view c.args.old_scan) (scan_view c.args.new_scan) c.requires.typed.comparison c.requires.lines) }

pub returns-in_err-product-clause-too_many : goal.returns-in_err-product-clause-too_many
returns-in_err-product-clause-too_many c =
    let k = comparison_between c.args.old.now c.args.new.now c.args.relation.now in
    let parts = parts_view c.in-Ok.parts in
    let p = err_from_is_err_and c.from_residual.result c.from_residual.ensures.1 in
    handed (IsOverfull (product_of parts most_gates).lits.net) (HasManyGates k (scan_view c.args.old_scan) (scan_view c.args.new_scan)) c.from_residual.result p.0 _ p.1 p.2 c.in_err-product.ensures.too_many
    (many_in_product k (scan_view c.args.old_scan) (scan_view c.args.new_scan) parts c.in-Ok.ensures)

pub breaks_circuit-requires : goal.breaks_circuit-requires
breaks_circuit-requires c =
    let k = comparison_between c.args.old.now c.args.new.now c.args.relation.now in
    record { few = subst (λ (p : Parts). breaks_bits p + most_gates < 2 ^ 31 - 1) (sym c.in-Ok.ensures) (breaks_few k (scan_view c.args.old_scan) (scan_view c.args.new_scan) c.requires.typed.comparison c.requires.lines) }

pub returns-in_err-breaks-clause-too_many : goal.returns-in_err-breaks-clause-too_many
returns-in_err-breaks-clause-too_many c =
    let k = comparison_between c.args.old.now c.args.new.now c.args.relation.now in
    let parts = parts_view c.in-Ok.parts in
    let p = err_from_is_err_and c.from_residual-in_err-breaks.result c.from_residual-in_err-breaks.ensures.1 in
    handed (IsOverfull (breaks_of parts most_gates).net) (HasManyGates k (scan_view c.args.old_scan) (scan_view c.args.new_scan)) c.from_residual-in_err-breaks.result p.0 _ p.1 p.2 c.in_err-breaks.ensures.too_many
    (many_in_breaks k (scan_view c.args.old_scan) (scan_view c.args.new_scan) parts c.in-Ok.ensures)

pub invariant_of-result : goal.invariant_of-result
invariant_of-result c =
    let k = comparison_between c.args.old.now c.args.new.now c.args.relation.now in
    let parts = parts_view c.in-Ok.parts in
    record {
      typed = c.requires.typed;
      lines = c.requires.lines;
      old_scan = scan_view c.args.old_scan;
      new_scan = scan_view c.args.new_scan;
      old_is_scan = c.requires.old_scan;
      new_is_scan = c.requires.new_scan;
      gates = few_gates k (scan_view c.args.old_scan) (scan_view c.args.new_scan) parts c.in-Ok.ensures (product_view c.in_ok-product.product) (breaks_view c.in_ok-breaks.breaks) c.in_ok-product.ensures.product c.in_ok-breaks.ensures.breaks c.in_ok-product.ensures.fits c.in_ok-breaks.ensures.fits;
      parts_are = c.in-Ok.ensures;
      product_is = c.in_ok-product.ensures.product ∙ ap (λ (x : Parts). product_of x most_gates) c.in-Ok.ensures;
      breaks_are = c.in_ok-breaks.ensures.breaks ∙ ap (λ (x : Parts). breaks_of x most_gates) c.in-Ok.ensures;
    }

pub returns-clause-few : goal.returns-clause-few
returns-clause-few c =
    let k = comparison_between c.args.old.now c.args.new.now c.args.relation.now in
    few_gates k (scan_view c.args.old_scan) (scan_view c.args.new_scan) (parts_view c.in-Ok.parts) c.in-Ok.ensures (product_view c.in_ok-product.product) (breaks_view c.in_ok-breaks.breaks) c.in_ok-product.ensures.product c.in_ok-breaks.ensures.breaks c.in_ok-product.ensures.fits c.in_ok-breaks.ensures.fits
