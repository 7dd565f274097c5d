use Rattle.std.proofs.Common.{◌≡◌, ◌+◌, ◌++◌, length, take, drop, refl, sym, ap, ◌∙◌, subst, arith, rules}
use Rattle.std.proofs.lemmas.Grind.{common_steps}
use Rattle.std.proofs.lemmas.List.{take-append-drop}
use Rattle.clause_core.specs.Freshness.{IsFresh}
use Rattle.derivation_check.specs.Checks.{Derivation, held_of}
use Rattle.clause_core.proofs.Ranges.{AllVariablesBelow-within}
use Rattle.clause_core.specs.Steps.{AllVariablesBelow}
use Rattle.derivation_check.proofs.Pushed.{open-length}
use Rattle.derivation_check.proofs.checker.Checker.fresh.Goals as goal

pub is_fresh-answer-requires-clause-held : goal.is_fresh-answer-requires-clause-held
is_fresh-answer-requires-clause-held c =
    let n = ap length c.as_mut_slice.ensures.value ∙ open-length c.self.inside.held.variables c.self.inside.values.items c.self.invariant.unassigned in
    subst (λ m. AllVariablesBelow m c.clauses-held.result.now) (sym n) (AllVariablesBelow-within c.self.inside.held.variables c.clauses-held.result.now c.clauses-held.ensures.within)

pub returns-then-shows-clause-exact : goal.returns-then-shows-clause-exact
returns-then-shows-clause-exact c =
    let i = c.self.inside in
    let clause = c.args.step.now.clause in
    let inside : IsFresh i.held.clauses clause = subst (IsFresh i.held.clauses) c.literals-literals.ensures (c.shows.ensures.fresh c.if-shows.true) in
    let joined : IsFresh (take i.given i.held.clauses ++ drop i.given i.held.clauses) clause = subst (λ z. IsFresh z clause) (sym (take-append-drop i.given i.held.clauses)) inside in
    (λ _. subst (λ (d : Derivation). IsFresh (held_of d) clause) c.self.view_is joined, λ _. refl)

pub invariant_of-self-2 : goal.invariant_of-self-2
invariant_of-self-2 c =
    let i = c.self.inside in
    let k = c.self.invariant in
    let size : length i.values.items ≡ i.held.variables + 1 = open-length i.held.variables i.values.items k.unassigned in
    record {
      given = k.given;
      unassigned = first_of (grind (arith, common_steps), search rules);
      test = c.shows.ensures.test;
      implied = k.implied;
      refuted = k.refuted;
    }
