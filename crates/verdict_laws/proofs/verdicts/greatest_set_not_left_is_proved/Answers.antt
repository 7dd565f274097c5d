use Rattle.verdict_laws.proofs.Shown.{unleft_is_proved}
use Rattle.verdict_laws.proofs.verdicts.greatest_set_not_left_is_proved.Goals as goal

pub returns : goal.returns
returns c = unleft_is_proved
