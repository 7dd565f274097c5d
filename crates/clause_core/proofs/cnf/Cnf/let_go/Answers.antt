use Rattle.std.proofs.Common.{◌≡◌, ◌≤◌, true, refl, sym, subst}
use Rattle.clause_core.specs.Clauses.{is_within, is_set}
use Rattle.clause_core.specs.Formula.{Formula}
use Rattle.clause_core.proofs.Ranges.{list_all-set, is_within-always}
use Rattle.clause_core.proofs.cnf.Cnf.let_go.Goals as goal

pub invariant_of-self : goal.invariant_of-self
invariant_of-self c =
    let held = c.self.inside.clauses.items in
    let variables = c.self.inside.variables in
    let some : 1 ≤ variables = subst (λ (w : Formula). 1 ≤ w.variables) (sym c.self.view_is) c.requires in
    let within : is_within variables c.always.result ≡ true = subst (λ z. is_within variables z ≡ true) (sym c.always.ensures) (is_within-always variables some) in
    let in_order : is_set c.always.result ≡ true = subst (λ z. is_set z ≡ true) (sym c.always.ensures) refl in
    record {
      few = c.self.invariant.few;
      within = list_all-set (is_within variables) held c.args.place c.always.result c.self.invariant.within within;
      sets = list_all-set is_set held c.args.place c.always.result c.self.invariant.sets in_order;
    }

pub invariant_of-self-then-place-len-2 : goal.invariant_of-self-then-place-len-2
invariant_of-self-then-place-len-2 c =
    let held = c.self.inside.clauses.items in
    let variables = c.self.inside.variables in
    let some : 1 ≤ variables = subst (λ (w : Formula). 1 ≤ w.variables) (sym c.self.view_is) c.requires in
    let within : is_within variables c.always.result ≡ true = subst (λ z. is_within variables z ≡ true) (sym c.always.ensures) (is_within-always variables some) in
    let in_order : is_set c.always.result ≡ true = subst (λ z. is_set z ≡ true) (sym c.always.ensures) refl in
    record {
      few = c.self.invariant.few;
      within = list_all-set (is_within variables) held c.args.place c.always.result c.self.invariant.within within;
      sets = list_all-set is_set held c.args.place c.always.result c.self.invariant.sets in_order;
    }
