use Rattle.std.proofs.Common.{◌≡◌, ◌∙◌, subst, true}
use Rattle.finding_check.specs.Stages.{place_behind}
use Rattle.clause_core.specs.Clauses.{rises}
use Rattle.judgement.specs.Steps.{clause_of}
use Rattle.finding_check.proofs.HintLemmas.{IfOk-map, log_moved-short}
use Rattle.finding_check.proofs.logs.log_step.Goals as goal

pub returns : goal.returns
returns c =
    let facts = rw c.in-Some.is at c.in_ok-step.ensures in
    let ordered = subst (λ n. rises n (clause_of c.args.literals.now) ≡ true) c.variables.ensures facts.0 in
    IfOk-map c.log_by.result
    (λ moved h pair. h pair ∙ log_moved-short c.args.checker (place_behind c.args.behind) c.args.literals.now c.args.hints.now c.in-Some.step c.requires facts.1 facts.2 ordered)
    c.log_by.ensures
