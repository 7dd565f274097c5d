use Rattle.finding_search.proofs.Going.{Writes-exit, Writes-answer}
use Rattle.std.proofs.Common.{refl}
use Rattle.judgement.specs.Places.{finished}
use Rattle.finding_search.proofs.writing.write_end.Goals as goal

pub returns-in_err-write_line : goal.returns-in_err-write_line
returns-in_err-write_line g c s formula from reach passes = Writes-exit s formula _ _ _ _ _ _ _ c.from_residual.ensures.1 (c.in_err-write_line.ensures s formula from _ passes)

pub returns : goal.returns
returns g c s formula from reach passes = Writes-answer s formula _ _ _ _ _ (finished reach) c.args.verdict refl (c.in_ok-write_line.ensures s formula from _ passes)
