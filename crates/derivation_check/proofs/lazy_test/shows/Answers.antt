use Rattle.std.proofs.Common.{sym, subst}
use Rattle.clause_core.specs.Steps.{VariablesBelow}
use Rattle.clause_core.proofs.Ranges.{VariablesBelow-fits}
use Rattle.derivation_check.proofs.Overs.{IsFresh-over}
use Rattle.derivation_check.proofs.lazy_test.shows.Goals as goal

pub shows_fresh-requires : goal.shows_fresh-requires
shows_fresh-requires c =
    subst (λ n. VariablesBelow n c.args.literals.now) (sym c.in-Some.ensures.made.size) (VariablesBelow-fits c.args.cnf.now.variables 0 c.args.literals.now c.requires.literals)

pub returns-in-Ok-clause-fresh : goal.returns-in-Ok-clause-fresh
returns-in-Ok-clause-fresh c = λ h. IsFresh-over c.args.cnf.now c.in-Some.propagator c.args.literals.now c.in-Some.ensures.made (c.in-Ok.ensures.fresh h)
