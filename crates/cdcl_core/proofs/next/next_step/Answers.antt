use Rattle.std.proofs.Common.{◌≡◌, ◌≢◌, ◌<◌, ◌+◌, ◌++◌, ◌∷◌, [], length, get_or, true, sym, ◌∙◌, ap, subst, arith, refl, Ok, None}
use Rattle.clause_core.specs.Steps.{AllVariablesBelow, VariablesBelow}
use Rattle.clause_core.proofs.Ranges.{AllVariablesBelow-within, VariablesBelow-fits}
use Rattle.clause_core.specs.Clauses.{rises}
use Rattle.clause_core.specs.Steps.{assume_false}
use Rattle.std.proofs.Common.{replicate}
use Rattle.std.specs.Option.{IfSome}
use Rattle.clause_core.specs.Freshness.{IsFresh}
use Rattle.std.specs.List.{All}
use Rattle.clause_core.specs.Propagation.{Extends}
use Rattle.clause_core.proofs.Extensions.{Extends-refl}
use Rattle.clause_core.specs.declared.truth.Truth.TheVariants.{Open}
use Rattle.cdcl_core.specs.Noting.{Derives}
use Rattle.cdcl_core.proofs.Decisions.{Settled, Settled-propagate_from, IsGoodStep-propagate_from, rises-push, IsFresh-next, SetNext-settled, formula_true-closed, before-push, before-more, set-push}
use Rattle.cdcl_core.proofs.next.next_step.Goals as goal
use Rattle.cdcl_core.proofs.next.next_step.Goals.{in-Open+in_ok-push-in-Open+in_ok-propagate_from-in-Open+in-None-2, in_default}

pub propagate_from-requires-clause-held : goal.propagate_from-requires-clause-held
propagate_from-requires-clause-held c = subst (λ n. AllVariablesBelow n c.args.held.now) (sym c.requires.size) (AllVariablesBelow-within c.args.variables c.args.held.now c.requires.held)

pub loop-variable-init : goal.loop-variable-init
loop-variable-init c =
    let literals : c.literals.result.now ≡ c.new-clause.result = c.literals.ensures in
    let nil : c.new-clause.result ≡ [] = c.new-clause.ensures in
    let none : c.propagate_from.result ≡ Ok None = c.in_ok-propagate_from.was ∙ ap Ok c.in-None.is in
    record {
      settled = Settled-propagate_from c.args.variables c.args.held.now c.new-clause.result c.propagate_from.new.values (length c.args.values.now) c.literals.result.now c.requires.size literals (ap (rises c.args.variables) nil) (c.propagate_from.ensures.closed none) c.propagate_from.ensures.grows c.propagate_from.ensures.below;
      before = λ k d h. absurd (omega (arith, ap length nil));
      set = λ k p q. absurd (omega arith);
    }

pub propagate_from-requires-in-Open-clause-held : goal.propagate_from-requires-in-Open-clause-held
propagate_from-requires-in-Open-clause-held c =
    let n : length c.loop-variable.values ≡ c.args.variables + 1 = omega (arith, c.requires.size) in
    subst (λ m. AllVariablesBelow m c.args.held.now) (sym n) (AllVariablesBelow-within c.args.variables c.args.held.now c.requires.held)

pub propagate_from-requires-in-Open-clause-literals : goal.propagate_from-requires-in-Open-clause-literals
propagate_from-requires-in-Open-clause-literals c =
    let n : length c.loop-variable.values ≡ c.args.variables + 1 = omega (arith, c.requires.size) in
    let i = c.loop-variable in
    let more : rises c.args.variables (i.clause ++ record { variable = i.variable; negative = true } ∷ []) ≡ true = rises-push c.args.variables i.clause (record { variable = i.variable; negative = true }) i.invariant.settled.fits i.invariant.before (omega arith) (omega arith) in
    let same : c.literals-in-Open.result.now ≡ i.clause ++ record { variable = i.variable; negative = true } ∷ [] = c.literals-in-Open.ensures ∙ c.in_ok-push-in-Open.ensures.ok in
    subst (λ m. VariablesBelow m c.literals-in-Open.result.now) (sym n)
    (subst (VariablesBelow (c.args.variables + 1)) (sym same) (VariablesBelow-fits c.args.variables 0 (i.clause ++ record { variable = i.variable; negative = true } ∷ []) more))

pub returns-in-Some-2 : goal.returns-in-Some-2
returns-in-Some-2 c =
    let n : length c.loop-variable.values ≡ c.args.variables + 1 = omega (arith, c.requires.size) in
    let i = c.loop-variable in
    let more : rises c.args.variables (i.clause ++ record { variable = i.variable; negative = true } ∷ []) ≡ true = rises-push c.args.variables i.clause (record { variable = i.variable; negative = true }) i.invariant.settled.fits i.invariant.before (omega arith) (omega arith) in
    let pushed : c.push.new.self ≡ i.clause ++ record { variable = i.variable; negative = true } ∷ [] = c.in_ok-push-in-Open.ensures.ok in
    let derives : Derives c.args.held.now (assume_false (replicate (length i.values) Open) c.literals-in-Open.result.now) c.in-Some-2.hints = subst (λ o. IfSome o (λ hints. Derives c.args.held.now (assume_false (replicate (length i.values) Open) c.literals-in-Open.result.now) hints)) c.in-Some-2.is c.in_ok-propagate_from-in-Open.ensures.conflict in (
      IsGoodStep-propagate_from c.args.variables c.args.held.now (record { clause = c.push.new.self; hints = c.in-Some-2.hints }) (length i.values) c.literals-in-Open.result.now n c.literals-in-Open.ensures (ap (rises c.args.variables) pushed ∙ more) derives,
      λ _. subst (IsFresh c.args.held.now) (sym pushed) (IsFresh-next c.args.variables c.args.held.now i.clause i.values (record { variable = i.variable; negative = true }) i.invariant.settled c.in-Open.is),
    )

pub returns : goal.returns
returns c = formula_true-closed c.args.variables c.loop-variable.values c.args.held.now c.requires.held c.loop-variable.invariant.settled.closed (λ k p le. c.loop-variable.invariant.set k p (omega arith))

pub loop-variable-preserved : goal.loop-variable-preserved
loop-variable-preserved c =
    let i = c.loop-variable in
    let n : length i.values ≡ c.args.variables + 1 = omega (arith, c.requires.size) in
    elim c.match-values-variable.branch [
      | in-Open+in_ok-push-in-Open+in_ok-propagate_from-in-Open+in-None-2 w ↦
          let more : rises c.args.variables (i.clause ++ record { variable = i.variable; negative = true } ∷ []) ≡ true = rises-push c.args.variables i.clause (record { variable = i.variable; negative = true }) i.invariant.settled.fits i.invariant.before (omega arith) (omega arith) in
          let pushed : c.match-values-variable.clause ≡ i.clause ++ record { variable = i.variable; negative = true } ∷ [] = w.clause-is ∙ w.in_ok-push-in-Open.ensures.ok in
          let none : w.propagate_from-in-Open.result ≡ Ok None = w.in_ok-propagate_from-in-Open.was ∙ ap Ok w.in-None-2.is in
          let here : Settled c.args.variables c.args.held.now (i.clause ++ record { variable = i.variable; negative = true } ∷ []) w.propagate_from-in-Open.new.values = Settled-propagate_from c.args.variables c.args.held.now (i.clause ++ record { variable = i.variable; negative = true } ∷ []) w.propagate_from-in-Open.new.values (length i.values) w.literals-in-Open.result.now n (w.literals-in-Open.ensures ∙ w.in_ok-push-in-Open.ensures.ok) more (w.propagate_from-in-Open.ensures.closed none) w.propagate_from-in-Open.ensures.grows w.propagate_from-in-Open.ensures.below in
          let settled : Settled c.args.variables c.args.held.now (i.clause ++ record { variable = i.variable; negative = true } ∷ []) c.match-values-variable.values = subst (Settled c.args.variables c.args.held.now (i.clause ++ record { variable = i.variable; negative = true } ∷ [])) (sym w.values-is) here in
          let next = SetNext-settled c.args.variables c.args.held.now i.clause i.values c.match-values-variable.values (record { variable = i.variable; negative = true }) i.invariant.settled settled in
          record {
            settled = subst (λ z. Settled c.args.variables c.args.held.now z c.match-values-variable.values) (sym pushed) settled;
            before = subst (All (λ m. m.variable < i.variable + 1)) (sym pushed) (before-push i.variable i.clause (record { variable = i.variable; negative = true }) refl i.invariant.before);
            set = set-push i.values c.match-values-variable.values i.variable i.invariant.set next.grows next.set;
          }
      | in_default w ↦
          let grows : Extends c.match-values-variable.values i.values = subst (λ z. Extends z i.values) (sym w.values-is) (Extends-refl i.values) in
          record {
            settled = subst (λ z. Settled c.args.variables c.args.held.now c.match-values-variable.clause z) (sym w.values-is) (subst (λ z. Settled c.args.variables c.args.held.now z i.values) (sym w.clause-is) i.invariant.settled);
            before = subst (All (λ m. m.variable < i.variable + 1)) (sym w.clause-is) (before-more i.variable i.clause i.invariant.before);
            set = set-push i.values c.match-values-variable.values i.variable i.invariant.set grows (subst (λ z. get_or z i.variable Open ≢ Open) (sym w.values-is) w.in_default.not-Open);
          }
    ]
