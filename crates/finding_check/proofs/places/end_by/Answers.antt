use Rattle.std.proofs.Common.{true, refl}
use Rattle.finding_check.proofs.places.end_by.Goals as goal

pub returns-then-is_same : goal.returns-then-is_same
returns-then-is_same c s pair = (true, (λ asked. ((λ t. c.is_same.ensures.0 c.if-is_same.true), (λ e. refl))), refl)
