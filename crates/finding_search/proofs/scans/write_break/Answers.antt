use Rattle.std.proofs.Common.{sym, subst}
use Rattle.finding_lines.specs.declared.line.Conclusion.{Conclusion}
use Rattle.judgement.specs.Places.{at_end}
use Rattle.finding_search.specs.Passing.{Runs}
use Rattle.finding_search.specs.Shown.{scans_of}
use Rattle.finding_search.proofs.Going.{Writes-then, Writes-exit}
use Rattle.finding_search.proofs.Openings.{end_passes}
use Rattle.finding_search.proofs.scans.write_break.Goals as goal

pub returns-in_err-write_scans : goal.returns-in_err-write_scans
returns-in_err-write_scans g c s formula from reach runs = Writes-exit s formula _ _ _ _ _ _ _ c.from_residual.ensures.1 (c.in_err-write_scans.ensures s formula from _ runs)

pub returns : goal.returns
returns g c s formula from reach runs =
    let verdict = c.different_at.result in
    Writes-then s formula _ _ _ _ _ _ _ _
    (c.in_ok-write_scans.ensures s formula from (at_end reach verdict) (subst (λ (v : Conclusion). Runs s formula from (scans_of c.args.rows.now) (at_end reach v)) (sym c.different_at.ensures.same) runs))
    (c.write_end.ensures s formula _ reach (end_passes s formula reach verdict c.different_at.ensures.ending))
