use Rattle.std.proofs.Common.{◌≡◌, [], true, refl, sym, subst}
use Rattle.clause_core.specs.Clauses.{is_within, is_set, is_inside}
use Rattle.clause_core.proofs.Sets.{list_all-with_all, is_set-with_all}
use Rattle.clause_core.proofs.cnf.Cnf.push.Goals as goal

pub keep-requires-clause-within : goal.keep-requires-clause-within
keep-requires-clause-within c =
    subst (λ z. is_within c.args.self.now.variables z ≡ true) (sym c.in_ok-clause.ensures) (list_all-with_all (is_inside c.args.self.now.variables) [] c.args.literals.now refl c.requires)

pub keep-requires-clause-set : goal.keep-requires-clause-set
keep-requires-clause-set c = subst (λ z. is_set z ≡ true) (sym c.in_ok-clause.ensures) (is_set-with_all [] c.args.literals.now refl)
