use Rattle.std.proofs.Common.{◌≡◌, true, sym, subst}
use Rattle.clause_core.specs.Clauses.{is_within, is_set}
use Rattle.clause_core.proofs.Ranges.{is_within-rises}
use Rattle.clause_core.proofs.Sets.{is_set-rises}
use Rattle.clause_core.proofs.cnf.Cnf.push_rising.Goals as goal

pub keep-requires-clause-within : goal.keep-requires-clause-within
keep-requires-clause-within c =
    subst (λ z. is_within c.args.self.now.variables z ≡ true) (sym c.in_ok-clause.ensures) (is_within-rises c.args.self.now.variables c.args.literals.now c.requires)

pub keep-requires-clause-set : goal.keep-requires-clause-set
keep-requires-clause-set c =
    subst (λ z. is_set z ≡ true) (sym c.in_ok-clause.ensures) (is_set-rises c.args.self.now.variables c.args.literals.now c.requires)
