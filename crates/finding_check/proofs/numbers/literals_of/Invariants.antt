use Rattle.std.proofs.Common.{◌≡◌, take}
use Rattle.judgement.specs.Steps.{clause_of}
use Rattle.finding_check.proofs.numbers.literals_of.Given as goal

abbrev pub invariant-loop-place : goal.invariant-loop-place
invariant-loop-place l = l.clause ≡ clause_of (take l.place l.numbers)
