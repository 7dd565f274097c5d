use Rattle.std.proofs.Common.{◌≡◌, map, drop}
use Rattle.naming.specs.FileScope.{types_of}
use Rattle.decl_types.specs.Bodies.{file_in}
use Rattle.decl_types.specs.Spelled.{spelled_outcome, joined}
use Rattle.rules.specs.Judgements.{ok}
use Rattle.rules.specs.Outcomes.{outcome_of}
use Rattle.typing.specs.Outcomes.{types_outcome}
use Rattle.decl_types.proofs.judged_types.judge_types.Given as goal

abbrev pub invariant-loop-spelled : goal.invariant-loop-spelled
invariant-loop-spelled l =
    joined l.judged (map (spelled_outcome (file_in l.domains)) (drop l.spelled-index l.domains.judged.items)) ≡ types_outcome (file_in l.domains) (outcome_of ok) (types_of (file_in l.domains))
