use Rattle.std.proofs.Common.{List, ◌++◌, length, sym, ap, ◌∙◌, arith}
use Rattle.program_tree.specs.View.{cells_view}
use Rattle.scan_model.specs.Pairs.{CandidateData, candidates_view}
use Rattle.candidates.proofs.CandidateLemmas.{length-cells}
use Rattle.relation_file.specs.Listed.{on_faults}
use Rattle.relation_file.proofs.ListedLemmas.{relates_added, counted}
use Rattle.relation_file.proofs.listed.add_relates.Goals as goal

pub returns-clause-added : goal.returns-clause-added
returns-clause-added c = λ es named.
    let cells = c.args.pair.now.old.program.now.cells.items in
    let first = candidates_view c.args.found.now.items in
    let between = candidates_view c.add_all.new.found.items in
    relates_added c.args.agree (length (cells_view cells)) es first between (candidates_view c.add_on_faults.new.found.items) (c.in_ok-add_all.ensures ∙ ap (λ (cs : List CandidateData). first ++ cs) named)
    (c.in_ok-add_on_faults.ensures ∙ ap (λ n. between ++ on_faults c.args.agree n) (c.len.ensures ∙ c.args.pair.now.old.program.now.cells.ok.0 ∙ sym (length-cells cells)))

pub returns-clause-counted : goal.returns-clause-counted
returns-clause-counted c =
    let one = counted c.args.found.now.items c.add_all.new.found.items _ c.in_ok-add_all.ensures in
    let two = counted c.add_all.new.found.items c.add_on_faults.new.found.items _ c.in_ok-add_on_faults.ensures in
    omega (arith, one, two, c.len-before.ensures, c.len-2.ensures)
