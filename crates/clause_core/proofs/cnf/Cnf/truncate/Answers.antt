use Rattle.std.proofs.Common.{◌≡◌, true, sym, subst}
use Rattle.std.specs.List.{list_all}
use Rattle.clause_core.specs.Clauses.{is_within, is_set}
use Rattle.clause_core.proofs.Ranges.{list_all-take}
use Rattle.clause_core.proofs.cnf.Cnf.truncate.Goals as goal

pub invariant_of-self : goal.invariant_of-self
invariant_of-self c =
    let held = c.self.inside.clauses.items in
    let variables = c.self.inside.variables in
    record {
      few = c.self.invariant.few;
      within = subst (λ z. list_all (is_within variables) z ≡ true) (sym c.truncate.ensures.items) (list_all-take (is_within variables) c.args.count held c.self.invariant.within);
      sets = subst (λ z. list_all is_set z ≡ true) (sym c.truncate.ensures.items) (list_all-take is_set c.args.count held c.self.invariant.sets);
    }
