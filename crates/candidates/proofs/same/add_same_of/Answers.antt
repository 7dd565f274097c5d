use Rattle.program_tree.specs.View.{program_view}
use Rattle.scan_model.specs.Pairs.{candidates_view}
use Rattle.candidates.proofs.PairLemmas.{ok_other, same_of}
use Rattle.candidates.proofs.same.add_same_of.Goals as goal

pub returns : goal.returns
returns c =
    let old = (program_view c.args.pair.now.old.program.now).cells in
    let new = (program_view c.args.pair.now.new.program.now).cells in
    ok_other c.add_same.result _ _ _ (same_of (candidates_view c.args.found.now.items) _ _ c.cells.result.now old new c.args.pair.now.paired c.cells.ensures) c.add_same.ensures
