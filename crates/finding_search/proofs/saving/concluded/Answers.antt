use Rattle.std.proofs.Common.{refl}
use Rattle.judgement.specs.Places.{finished, finished_by}
use Rattle.finding_search.proofs.Going.{Writes-answer, Writes-stop}
use Rattle.finding_search.proofs.saving.concluded.Goals as goal

pub returns-in-Ok-clause-writes : goal.returns-in-Ok-clause-writes
returns-in-Ok-clause-writes c s formula old new from w =
    let ok = rw c.in-Ok.is at w in
    Writes-answer s formula old new from (finished c.args.reach) c.in-Ok.verdict finished_by (record { verdict = c.in-Ok.verdict; reach = c.args.reach }) refl ok

pub returns-in-Err-clause-writes : goal.returns-in-Err-clause-writes
returns-in-Err-clause-writes c s formula old new from w =
    let err = rw c.in-Err.is at w in
    Writes-stop s formula old new from (finished c.args.reach) finished_by c.in-Err.error err
