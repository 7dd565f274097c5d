use Rattle.flat_core.proofs.Deciding.{flat-kept}
use Rattle.flat_core.proofs.flat_program.Flat.keeps_rules.Goals as goal

pub returns : goal.returns
returns c = flat-kept c.args.self.now
