use Rattle.std.proofs.Common.{map, ap, ◌∙◌}
use Rattle.naming.specs.FileScope.{types_of}
use Rattle.rules.specs.declared.outcome.Outcome.{Outcome}
use Rattle.rules.specs.Judgements.{ok}
use Rattle.rules.specs.Outcomes.{outcome_of}
use Rattle.decl_types.specs.Bodies.{file_in}
use Rattle.decl_types.specs.Spelled.{spelled_outcome, joined}
use Rattle.decl_types.proofs.SpelledLemmas.{joined-is}
use Rattle.decl_types.proofs.judged_types.judge_types.Goals as goal

pub loop-spelled-init : goal.loop-spelled-init
loop-spelled-init c =
    let f = file_in c.args.domains.now in
    ap (λ (o : Outcome). joined o (map (spelled_outcome f) c.args.domains.now.judged.items)) c.ok-judged.ensures ∙ ap (joined (outcome_of ok)) c.args.domains.now.outcomes ∙ joined-is f (outcome_of ok) (types_of f)
