use Rattle.std.proofs.Common.{◌≡◌, ◌∙◌, sym, ap, subst, pos}
use Rattle.finding_lines.specs.Form.{IsEnding}
use Rattle.finding_lines.specs.declared.line.Conclusion.{Conclusion}
use Rattle.finding_lines.specs.declared.line.Conclusion.TheVariants.{Spent}
use Rattle.finding_lines.specs.declared.line.Line.TheVariants as lines
use Rattle.judgement.specs.Steps.{opened}
use Rattle.judgement.specs.Places.{in_query, finished}
use Rattle.finding_search.specs.Passing.{Passes}
use Rattle.finding_search.specs.Places.{after_all}
use Rattle.finding_search.proofs.Going.{Writes-then, Writes-exit}
use Rattle.finding_search.proofs.LogRuns.{spent_runs}
use Rattle.finding_search.proofs.Openings.{spent_passes}
use Rattle.finding_search.proofs.logs.write_spent.Goals as goal

pub returns-in_err-write_spent_log : goal.returns-in_err-write_spent_log
returns-in_err-write_spent_log g c s formula f from reach told same ending passes spent =
    Writes-exit s formula _ _ _ _ _ _ _ c.from_residual.ensures.1
    (c.in_err-write_spent_log.ensures s formula from _ _ passes (spent_runs s formula f s.conflicts c.args.log.now reach c.args.asked told spent))

pub returns : goal.returns
returns g c s formula f from reach told same ending passes spent =
    let d = after_all (opened f) c.args.log.now in
    let is : Spent c.args.asked (pos s.conflicts) ≡ c.spent_by.result = ap (λ n. Spent c.args.asked (pos n)) same ∙ sym c.spent_by.ensures.same in
    let here : IsEnding (Spent c.args.asked (pos s.conflicts)) = subst (λ n. IsEnding (Spent c.args.asked (pos n))) (sym same) ending in
    Writes-then s formula _ _ _ _ _ _ _ _
    (c.in_ok-write_spent_log.ensures s formula from _ _ passes (spent_runs s formula f s.conflicts c.args.log.now reach c.args.asked told spent))
    (c.write_end.ensures s formula _ reach
    (subst (λ (v : Conclusion). Passes s formula (in_query reach c.args.asked d 0) (lines.End v) (finished reach v)) is (spent_passes s formula reach c.args.asked d here)))
