use Rattle.std.proofs.Common.{◌≡◌, ◌∙◌, subst, true, List}
use Rattle.std.specs.Prelude.{◌↔◌, IsTrue}
use Rattle.clause_core.specs.declared.literal.Lit.{Lit}
use Rattle.clause_core.specs.Freshness.{IsFresh}
use Rattle.derivation_check.specs.Checks.{held_of}
use Rattle.clause_core.specs.Clauses.{rises}
use Rattle.judgement.specs.Steps.{clause_of}
use Rattle.finding_check.specs.Stages.{place_in}
use Rattle.finding_check.proofs.HintLemmas.{IfOk-map, spent_moved-short}
use Rattle.finding_check.proofs.logs.spent_step.Goals as goal

pub returns : goal.returns
returns c =
    let facts = rw c.in-Some.is at c.in_ok-step.ensures in
    let ordered = subst (λ n. rises n (clause_of c.args.literals.now) ≡ true) c.variables.ensures facts.0 in
    IfOk-map c.spent_by.result
    (λ moved h. (
      h.0,
      (λ asked. subst (λ (clause : List Lit). IsTrue h.0 ↔ IsFresh (held_of c.args.checker) clause) facts.1 h.1),
      (λ pair. h.2 pair ∙ spent_moved-short (place_in c.args.spending) c.args.checker c.args.left h.0 c.args.literals.now c.args.hints.now c.in-Some.step c.requires facts.1 facts.2 ordered),
    ))
    c.spent_by.ensures
