use Rattle.std.proofs.Common.{ℕ, List, ◌+◌, ◌++◌, length, drop, ap, sym, ◌∙◌, arith}
use Rattle.program_tree.specs.View.{cell_view, cells_view}
use Rattle.naming.proofs.Steps.{view-drop}
use Rattle.scan_model.specs.Pairs.{candidates_view}
use Rattle.clause_types.specs.PairedTypes.{paired_in}
use Rattle.scan_model.specs.Candidates.{same_cells}
use Rattle.candidates.specs.ByPath.{cell_named, found_view}
use Rattle.candidates.specs.PairView.{new_of}
use Rattle.candidates.proofs.CandidateLemmas.{same_more, room_behind}
use Rattle.candidates.proofs.same.add_same.Goals as goal

pub same-requires : goal.same-requires
same-requires c = room_behind c.args.pair.now.new.program.now _ (length c.args.old.now) c.find_new-other.result c.find_new-other.ensures c.requires

pub loop-place-preserved : goal.loop-place-preserved
loop-place-preserved c =
    let i = c.loop-place.place in
    let x = c.index-old-place.result in
    let new = (new_of c.args.pair.now).cells in
    let behind = length c.args.old.now in
    let left = view-drop cell_view c.args.old.now i x (omega arith) c.index-old-place.is in
    let all = ap (λ cs. candidates_view c.loop-place.found.items ++ same_cells (paired_in c.args.pair.now.scope.types) i behind new cs) (sym left) ∙ c.loop-place.invariant in
    let known = c.find_new-other.ensures ∙ ap (λ (t : List ℕ). cell_named t new) c.as_str.ensures.value in
    same_more (paired_in c.args.pair.now.scope.types) c.loop-place.found.items _ c.in_ok-candidate.candidate (found_view c.find_new-other.result) (cell_view x) i behind new (cells_view (drop (i + 1) c.args.old.now)) _ known c.in_ok-candidate.ensures c.in_ok-add.ensures all
