use Rattle.std.proofs.Common.{refl}
use Rattle.propagation_trail.proofs.Tables.{IsTabled-put}
use Rattle.propagation_trail.proofs.trail.set_value.Goals as goal

pub returns-clause-tabled : goal.returns-clause-tabled
returns-clause-tabled c = rw (c.negated.ensures, c.opposite.ensures, c.signed.ensures) (IsTabled-put c.args.truths.now c.args.values.now c.args.code c.args.truth c.requires.code c.requires.tabled)
