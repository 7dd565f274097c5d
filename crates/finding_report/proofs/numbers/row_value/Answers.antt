use Rattle.std.proofs.Common.{◌∙◌, ◌<◌, ◌≤◌, pos, length, get_or, ap, sym, rules, arith, to_z, of_z, to_z-of_z, FitsSigned}
use Rattle.std.specs.Int.{w128}
use Rattle.std.specs.Prelude.{min}
use Rattle.std.proofs.lemmas.List.{get_or_default}
use Rattle.serde_json.specs.Data.{object}
use Rattle.serde_json.specs.View.{members_view}
use Rattle.serde_json.proofs.Views.{view-Object}
use Rattle.program_tree.specs.View.{cells_view}
use Rattle.scan_model.specs.declared.relation.InputLine.{InputLine}
use Rattle.scan_model.specs.declared.relation.InputLine.TheVariants.{Both}
use Rattle.finding_report.specs.Names.{input_name}
use Rattle.finding_report.proofs.NumberLemmas.{left_value, numbers_next, numbers_done}
use Rattle.finding_report.proofs.numbers.row_value.Goals as goal

pub loop-place-preserved : goal.loop-place-preserved
loop-place-preserved c =
    let i = c.loop-place.place in
    let inputs = c.args.inputs.now in
    let row = c.args.row.now in
    let none : InputLine = Both (record { low = pos 0; high = pos 0 }) 0 0 in
    let line = get_or inputs i none in
    let first = get_or row i (pos 0) in
    let below : i < length inputs = omega arith in
    let inside : i < length row = omega arith in
    let fits : FitsSigned w128 first = search rules in
    numbers_next (input_name (cells_view c.args.old.now) (cells_view c.args.new.now)) inputs row i (members_view c.loop-place.members.entries) line c.as_str.result.now (to_z w128 (of_z w128 first))
    first (members_view c.add_number.new.members.entries) below (get_or_default inputs i none line below) (c.as_str.ensures.value ∙ c.in_ok-name.ensures) (left_value row i inside)
    (to_z-of_z {w = w128} {z = first} fits) c.in_ok-add_number.ensures
    ∙ c.loop-place.invariant

pub returns : goal.returns
returns c =
    let done : min (length c.args.inputs.now) (length c.args.row.now) ≤ c.loop-place.place = omega arith in
    view-Object c.loop-place.members
    ∙ ap object (sym (numbers_done (input_name (cells_view c.args.old.now) (cells_view c.args.new.now)) c.args.inputs.now c.args.row.now c.loop-place.place (members_view c.loop-place.members.entries) done) ∙ c.loop-place.invariant)
