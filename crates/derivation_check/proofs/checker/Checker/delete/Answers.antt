use Rattle.std.proofs.Common.{◌≡◌, ◌<◌, ◌+◌, ℕ, true, length, replicate, set, sym, ◌∙◌, ap, subst, arith}
use Rattle.std.specs.Prelude.{◌-◌}
use Rattle.std.proofs.lemmas.List.{length-set}
use Rattle.std.proofs.lemmas.Option.{IfSome_then}
use Rattle.clause_core.specs.declared.truth.Truth.TheVariants.{Open}
use Rattle.clause_core.specs.Deletions.{always, without_clause}
use Rattle.clause_core.specs.Formula.{Formula}
use Rattle.derivation_check.specs.Checks.{Derivation, derivation_from}
use Rattle.derivation_check.specs.Deletions.{may_delete, without}
use Rattle.derivation_check.specs.Tests.{IsTestOf}
use Rattle.derivation_check.proofs.Deleting.{Pushed-deleted, without-from}
use Rattle.derivation_check.proofs.Overs.{IsOver-gone}
use Rattle.derivation_check.proofs.Pushed.{Pushed}
use Rattle.derivation_check.proofs.checker.Checker.delete.Goals as goal

pub invariant_of-self-2 : goal.invariant_of-self-2
invariant_of-self-2 c =
    let i = c.self.inside in
    let k = c.self.invariant in
    let place = c.args.number - 1 in
    let lt : i.given < c.args.number = c.in_ok-cover.ensures.derived in
    let left : c.let_go.new.self.clauses ≡ set i.held.clauses place always = ap (λ (f : Formula). f.clauses) c.let_go.ensures in
    let size : length c.let_go.new.self.clauses ≡ length i.held.clauses = ap length left ∙ length-set i.held.clauses place always in
    let variables : c.let_go.new.self.variables ≡ i.held.variables = ap (λ (f : Formula). f.variables) c.let_go.ensures in
    let before : Pushed i.given i.held.clauses i.is_refuted = record { few = k.given; implied = k.implied; refuted = k.refuted } in
    let p = Pushed-deleted i.given i.held.clauses c.let_go.new.self.clauses i.is_refuted c.is_refuted-self-inside.result c.args.number place lt (omega (arith, lt)) left size c.is_refuted-self-inside.ensures before in
    let still : IsTestOf (without_clause place i.held) i.test = IfSome_then i.test k.test (λ p over. IsOver-gone i.held place p over) in
    record {
      given = p.few;
      unassigned = k.unassigned ∙ ap (λ (n : ℕ). replicate (n + 1) Open) (sym variables);
      test = subst (λ (f : Formula). IsTestOf f c.let_go-2.new.test) (sym c.let_go.ensures) (c.let_go-2.ensures (without_clause place i.held) still);
      implied = p.implied;
      refuted = p.refuted;
    }

pub returns-clause-deleted : goal.returns-clause-deleted
returns-clause-deleted c =
    let i = c.self.inside in
    let number = c.args.number in
    let place = number - 1 in
    let lt : i.given < number = c.in_ok-cover.ensures.derived in (
      subst (λ (d : Derivation). may_delete d number ≡ true) c.self.view_is c.in_ok-cover.ensures.ok,
      ap (derivation_from i.given) c.let_go.ensures ∙ without-from i.given i.held number place c.self.invariant.given lt (omega (arith, lt)) ∙ ap (λ (d : Derivation). without d number) c.self.view_is,
    )
