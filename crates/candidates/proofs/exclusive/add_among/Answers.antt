use Rattle.std.proofs.Common.{ℕ, List, ◌+◌, ◌*◌, ◌-◌, ◌++◌, ap, sym, ◌∙◌, arith}
use Rattle.program_tree.specs.View.{cells_view}
use Rattle.scan_model.specs.Pairs.{candidates_view}
use Rattle.scan_model.specs.Candidates.{not_both_among, paths_of}
use Rattle.candidates.proofs.ExclusiveLemmas.{appended, among_next}
use Rattle.candidates.proofs.exclusive.add_among.Goals as goal

pub loop-index-preserved : goal.loop-index-preserved
loop-index-preserved c =
    let i = c.loop-index.index in
    let half = c.args.half.now in
    let paths : List (List ℕ) = paths_of (cells_view half.cells.now) in
    let one = among_next half.program.now half.start paths c.args.place i c.args.steps (omega arith) in
    let all = ap (λ cs. candidates_view c.loop-index.found.items ++ cs) (sym one) ∙ c.loop-index.invariant in
    appended (candidates_view c.loop-index.found.items) _ _ (not_both_among half.program.now half.start paths (c.args.place + 2 * (i + 1)) (c.args.steps - (i + 1))) _ c.in_ok-add_with.ensures all
