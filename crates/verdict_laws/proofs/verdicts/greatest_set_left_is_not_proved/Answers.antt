use Rattle.verdict_laws.proofs.Shown.{left_is_not_proved}
use Rattle.verdict_laws.proofs.verdicts.greatest_set_left_is_not_proved.Goals as goal

pub returns : goal.returns
returns c = left_is_not_proved
