use Rattle.std.proofs.Common.{◌≡◌, sym, subst}
use Rattle.finding_lines.specs.declared.line.Line.{Line}
use Rattle.judgement.specs.Places.{at_end}
use Rattle.judgement.specs.Tests.{at_end_next, IsTold}
use Rattle.finding_check.specs.Stages.{moved_of}
use Rattle.finding_check.proofs.places.at_end.Goals as goal

pub returns-in-End : goal.returns-in-End
returns-in-End c s pair =
    let h = c.end_by.ensures s pair in (
      h.0,
      subst (λ (l : Line). IsTold s (at_end c.args.reach c.args.verdict) l h.0) (sym c.in-End.is) h.1,
      subst (λ (l : Line). moved_of c.end_by.result pair ≡ at_end_next c.args.reach c.args.verdict h.0 l) (sym c.in-End.is) h.2,
    )
