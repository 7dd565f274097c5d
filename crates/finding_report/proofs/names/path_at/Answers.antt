use Rattle.std.proofs.Common.{◌∙◌}
use Rattle.finding_report.proofs.NameLemmas.{path_there, path_nowhere}
use Rattle.finding_report.proofs.names.path_at.Goals as goal

pub returns-in-Some : goal.returns-in-Some
returns-in-Some c =
    let found = c.in-Some.ensures.lookup.3 in
    c.as_str.ensures.value ∙ path_there c.args.cells.now c.args.place c.in-Some.cell.now found.0 (found.1 c.in-Some.cell.now)

pub returns-in-None : goal.returns-in-None
returns-in-None c = path_nowhere c.args.cells.now c.args.place c.in-None.ensures.lookup.3
