use Rattle.std.proofs.Common.{◌≡◌, drop}
use Rattle.decl_types.specs.Bodies.{file_in}
use Rattle.naming.specs.FileScope.{pous_of}
use Rattle.typing.specs.Outcomes.{pous_outcome}
use Rattle.st_types.proofs.bodies.judge_pous.Given as goal

abbrev pub invariant-loop-number : goal.invariant-loop-number
invariant-loop-number l =
    pous_outcome (file_in l.pous.domains) l.number l.judged (drop l.number (pous_of (file_in l.pous.domains))) ≡ pous_outcome (file_in l.pous.domains) 0 l.initial.judged (pous_of (file_in l.pous.domains))
