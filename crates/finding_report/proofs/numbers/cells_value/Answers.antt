use Rattle.std.proofs.Common.{◌≡◌, ◌∙◌, ◌<◌, ◌≤◌, pos, length, get_or, ap, sym, string_bytes, rules, arith, to_z, of_z, to_z-of_z, FitsSigned}
use Rattle.std.specs.Int.{w128}
use Rattle.std.specs.Prelude.{min}
use Rattle.std.proofs.lemmas.List.{get_or-map, length-map}
use Rattle.serde_json.specs.Data.{object}
use Rattle.serde_json.specs.View.{members_view}
use Rattle.serde_json.proofs.Views.{view-Object}
use Rattle.program_tree.specs.declared.typed.Cell.{Cell}
use Rattle.program_tree.specs.Tree.{CellData}
use Rattle.program_tree.specs.View.{cell_view, cells_view}
use Rattle.finding_report.proofs.NumberLemmas.{left_value, numbers_next, numbers_done}
use Rattle.finding_report.proofs.numbers.cells_value.Goals as goal

pub loop-place-preserved : goal.loop-place-preserved
loop-place-preserved c =
    let i = c.loop-place.place in
    let cells = c.args.cells.now in
    let values = c.args.values.now in
    let cell = c.index-cells-place.result in
    let first = get_or values i (pos 0) in
    let below : i < length cells = omega arith in
    let inside : i < length values = omega arith in
    let seen : i < length (cells_view cells) = grind (arith, length-map) in
    let fits : FitsSigned w128 first = search rules in
    numbers_next (λ (d : CellData). d.path) (cells_view cells) values i (members_view c.loop-place.members.entries) (cell_view cell) c.as_str.result.now (to_z w128 (of_z w128 first)) first
    (members_view c.add_number.new.members.entries) seen (ap cell_view c.index-cells-place.is ∙ sym (get_or-map cell_view cells i cell (cell_view cell) below)) (c.as_str.ensures.value ∙ ap (λ (x : Cell). string_bytes x.path) (sym c.index-cells-place.is))
    (left_value values i inside) (to_z-of_z {w = w128} {z = first} fits) c.in_ok-add_number.ensures
    ∙ c.loop-place.invariant

pub returns : goal.returns
returns c =
    let long : length (cells_view c.args.cells.now) ≡ length c.args.cells.now = grind (arith, length-map) in
    let done : min (length (cells_view c.args.cells.now)) (length c.args.values.now) ≤ c.loop-place.place = omega (arith, long) in
    view-Object c.loop-place.members
    ∙ ap object (sym (numbers_done (λ (d : CellData). d.path) (cells_view c.args.cells.now) c.args.values.now c.loop-place.place (members_view c.loop-place.members.entries) done) ∙ c.loop-place.invariant)
