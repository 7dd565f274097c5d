use Rattle.std.proofs.Common.{◌≡◌, ◌+◌, ◌++◌, drop, ap, sym, ◌∙◌, arith}
use Rattle.program_tree.specs.View.{cell_view, cells_view}
use Rattle.naming.proofs.Steps.{view-drop}
use Rattle.scan_model.specs.Pairs.{candidates_view}
use Rattle.scan_model.specs.Candidates.{initial_values}
use Rattle.candidates.proofs.CandidateLemmas.{pushed}
use Rattle.candidates.proofs.initial_values.add_initial_values.Goals as goal

pub loop-index-preserved : goal.loop-index-preserved
loop-index-preserved c =
    let i = c.loop-index.index in
    let program = c.args.program.now in
    let start = c.args.start in
    let more = cells_view (drop (i + 1) c.args.cells.now) in
    let left = view-drop cell_view c.args.cells.now i c.index-cells-index.result (omega arith) c.index-cells-index.is in
    let all = ap (λ cs. candidates_view c.loop-index.found.items ++ initial_values program (start + i) cs) (sym left) ∙ c.loop-index.invariant in
    let next : start + i + 1 ≡ start + (i + 1) = omega arith in
    ap (λ n. candidates_view c.push.new.self.items ++ initial_values program n more) (sym next)
    ∙ pushed c.loop-index.found.items _ _ _ (initial_values program (start + i + 1) more) _ c.in_ok-push.ensures.items c.in_ok-candidate.ensures all
