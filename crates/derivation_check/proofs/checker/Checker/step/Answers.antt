use Rattle.std.proofs.Common.{◌≡◌, ◌+◌, ◌++◌, ◌∷◌, [], ◌||◌, length, take, drop, true, sym, ap, ◌∙◌, subst, arith, refl, List, ◌==◌}
use Rattle.std.proofs.lemmas.Grind.{common_steps}
use Rattle.std.proofs.lemmas.List.{take-append-drop}
use Rattle.std.proofs.lemmas.Option.{IfSome_then}
use Rattle.clause_core.specs.declared.literal.Lit.{Lit}
use Rattle.clause_core.specs.declared.check.Outcome.TheVariants.{Accepted}
use Rattle.clause_core.specs.Clauses.{rises}
use Rattle.clause_core.specs.Formula.{Formula, with_clause}
use Rattle.clause_core.specs.Steps.{VariablesBelow, outcome}
use Rattle.clause_core.proofs.Ranges.{VariablesBelow-fits}
use Rattle.clause_core.proofs.Sound.{clause_true-accepted}
use Rattle.derivation_check.specs.Checks.{Derivation, held_of}
use Rattle.derivation_check.specs.Inside.{is_empty}
use Rattle.derivation_check.specs.Tests.{IsTestOf}
use Rattle.derivation_check.proofs.Pushed.{Pushed, open-length, Pushed-accepted, outcome-parts}
use Rattle.derivation_check.proofs.checker.Checker.step.Goals as goal

is_empty-length : (c : List Lit) → (length c == 0) ≡ is_empty c
is_empty-length [] = refl
is_empty-length (l ∷ ls) = grind arith

pub check_step-outcome-requires-clause-clause : goal.check_step-outcome-requires-clause-clause
check_step-outcome-requires-clause-clause c =
    let n = c.as_mut_slice.ensures.value in
    let size = ap length n ∙ open-length c.self.inside.held.variables c.self.inside.values.items c.self.invariant.unassigned in
    let rises_here = subst (λ (d : Derivation). rises d.formula.variables c.args.step.now.clause ≡ true) (sym c.self.view_is) c.requires in
    subst (λ m. VariablesBelow m c.literals.result.now) (sym size)
    (subst (VariablesBelow (c.self.inside.held.variables + 1)) (sym c.literals.ensures) (VariablesBelow-fits c.self.inside.held.variables 0 c.args.step.now.clause rises_here))

pub add-requires : goal.add-requires
add-requires c =
    let i = c.self.inside in
    let s = c.args.step.now in
    let rises_here : rises i.held.variables s.clause ≡ true = subst (λ (d : Derivation). rises d.formula.variables s.clause ≡ true) (sym c.self.view_is) c.requires in
    let below = subst (VariablesBelow (i.held.variables + 1)) (sym c.literals-in-Accepted-3.ensures) (VariablesBelow-fits i.held.variables 0 s.clause rises_here) in
    IfSome_then i.test c.self.invariant.test (λ p over. subst (λ n. VariablesBelow n c.literals-in-Accepted-3.result.now) (sym over.size) below)

pub invariant_of-self-in-Accepted : goal.invariant_of-self-in-Accepted
invariant_of-self-in-Accepted c =
    let i = c.self.inside in
    let s = c.args.step.now in
    let rises_here : rises i.held.variables s.clause ≡ true = subst (λ (d : Derivation). rises d.formula.variables s.clause ≡ true) (sym c.self.view_is) c.requires in
    let accepted =
    outcome-parts i.held.variables i.held.clauses c.clauses.result.now c.as_mut_slice.result.now s.clause c.literals.result.now s.hints c.numbers.result.now c.check_step-outcome.result c.check_step-outcome.ensures.outcome c.in-Accepted.is c.clauses.ensures.same (c.as_mut_slice.ensures.value ∙ c.self.invariant.unassigned) c.literals.ensures c.numbers.ensures
    in
    let pushed : c.push_rising.new.self.clauses ≡ i.held.clauses ++ s.clause ∷ [] = cc (c.in-Ok.ensures.ok, c.literals-in-Accepted.ensures) in
    let was : c.is_empty.result ≡ is_empty s.clause = c.is_empty.ensures ∙ ap (λ (z : List Lit). length z == 0) c.literals-in-Accepted-2.ensures ∙ is_empty-length s.clause in
    let before : Pushed i.given i.held.clauses i.is_refuted = record { few = c.self.invariant.given; implied = c.self.invariant.implied; refuted = c.self.invariant.refuted } in
    let p = Pushed-accepted i.held.variables i.given i.held.clauses c.push_rising.new.self.clauses i.is_refuted (i.is_refuted || c.is_empty.result) s.clause s.hints before pushed accepted (ap (λ z. i.is_refuted || z) was) in
    let same : with_clause i.held c.literals-in-Accepted-3.result.now ≡ c.push_rising.new.self = cc (c.in-Ok.ensures.ok, c.literals-in-Accepted.ensures, c.literals-in-Accepted-3.ensures) in
    record { given = p.few; unassigned = grind (arith, common_steps); test = subst (λ (f : Formula). IsTestOf f c.add.new.test) same (c.add.ensures i.held c.self.invariant.test); implied = p.implied; refuted = p.refuted }

pub returns-in-Ok-clause-follows : goal.returns-in-Ok-clause-follows
returns-in-Ok-clause-follows c = λ v f.
    let i = c.self.inside in
    let s = c.args.step.now in
    let inside =
    outcome-parts i.held.variables i.held.clauses c.clauses.result.now c.as_mut_slice.result.now s.clause c.literals.result.now s.hints c.numbers.result.now c.check_step-outcome.result c.check_step-outcome.ensures.outcome c.in-Accepted.is c.clauses.ensures.same (c.as_mut_slice.ensures.value ∙ c.self.invariant.unassigned) c.literals.ensures c.numbers.ensures
    in
    let joined : outcome i.held.variables (take i.given i.held.clauses ++ drop i.given i.held.clauses) s.clause s.hints ≡ Accepted =
    subst (λ z. outcome i.held.variables z s.clause s.hints ≡ Accepted) (sym (take-append-drop i.given i.held.clauses)) inside
    in
    let accepted = subst (λ (d : Derivation). outcome d.formula.variables (held_of d) s.clause s.hints ≡ Accepted) c.self.view_is joined in
    clause_true-accepted c.args.self.now.formula.variables (held_of c.args.self.now) s.clause s.hints accepted v f
