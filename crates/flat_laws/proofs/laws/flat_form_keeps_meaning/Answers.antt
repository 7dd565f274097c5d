use Rattle.flat_laws.proofs.Joined.{keeps_meaning}
use Rattle.flat_laws.proofs.laws.flat_form_keeps_meaning.Goals as goal

pub returns : goal.returns
returns c = keeps_meaning
