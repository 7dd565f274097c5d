use Rattle.typed_cells.proofs.Bodies.{body_is_typed}
use Rattle.typed_cells.proofs.laws.law_bodies.Goals as goal

pub returns : goal.returns
returns c = λ f runs used ordered k p there is unique may sound. body_is_typed f runs used ordered k p there is unique may sound
