use Rattle.std.proofs.Common.{◌≡◌, length, sym, ◌∙◌, ap, subst, arith, refl}
use Rattle.std.proofs.lemmas.Bool.{false≢true}
use Rattle.clause_core.specs.declared.truth.Truth.TheVariants.{True}
use Rattle.clause_core.specs.Values.{value}
use Rattle.clause_core.specs.Steps.{assume_false}
use Rattle.clause_core.specs.Propagation.{Extends}
use Rattle.clause_core.proofs.OneOpen.{base, ShowsFresh-closed, Extends-shown, not_true-below}
use Rattle.clause_core.proofs.freshness.shows_between.Goals as goal

pub returns-in-True-clause-no : goal.returns-in-True-clause-no
returns-in-True-clause-no c = λ rho s.
    let b : c.assume_false-2.new.values ≡ base (length c.args.values.now) c.args.front.now c.args.back.now = c.assume_false-2.ensures ∙ ap (λ z. assume_false z c.args.back.now) (c.assume_false.ensures ∙ ap (λ z. assume_false z c.args.front.now) c.clear.ensures) in
    let shown = Extends-shown c.args.variables (length c.args.values.now) c.args.held.now c.args.front.now c.args.literal c.args.back.now rho c.requires.clause s in
    let further : Extends rho c.propagate.new.values = c.propagate.ensures.below rho (subst (Extends rho) (sym b) shown) s.unforced in
    let is : value c.propagate.new.values c.args.literal ≡ True = sym c.value.ensures ∙ c.in-True.is in
    absurd (not_true-below rho c.propagate.new.values c.args.literal further s.itself is)

pub returns-in_default : goal.returns-in_default
returns-in_default c =
    let b : c.assume_false-2.new.values ≡ base (length c.args.values.now) c.args.front.now c.args.back.now = c.assume_false-2.ensures ∙ ap (λ z. assume_false z c.args.back.now) (c.assume_false.ensures ∙ ap (λ z. assume_false z c.args.front.now) c.clear.ensures) in
    record {
      yes = λ _. ShowsFresh-closed c.args.variables (length c.args.values.now) c.args.held.now c.args.front.now c.args.literal c.args.back.now c.propagate.new.values (omega (arith, c.requires.size)) c.requires.clause
          (subst (Extends c.propagate.new.values) b c.propagate.ensures.grows) (c.propagate.ensures.closed c.if-propagate.true) (λ e. c.in_default.not-True (c.value.ensures ∙ e));
      no = λ rho s. refl;
    }

pub returns-else-propagate-clause-no : goal.returns-else-propagate-clause-no
returns-else-propagate-clause-no c = λ rho s.
    let b : c.assume_false-2.new.values ≡ base (length c.args.values.now) c.args.front.now c.args.back.now = c.assume_false-2.ensures ∙ ap (λ z. assume_false z c.args.back.now) (c.assume_false.ensures ∙ ap (λ z. assume_false z c.args.front.now) c.clear.ensures) in
    let shown = Extends-shown c.args.variables (length c.args.values.now) c.args.held.now c.args.front.now c.args.literal c.args.back.now rho c.requires.clause s in
    absurd (false≢true (sym c.if-propagate.false ∙ c.propagate.ensures.conflict rho (subst (Extends rho) (sym b) shown) s.unforced))
