use Rattle.std.proofs.Common.{ap, ◌∙◌}
use Rattle.std.proofs.Math.Logic.{∥∥₁_elim}
use Rattle.std.proofs.Props.{props}
use Rattle.naming.specs.ScopeView.{types_view}
use Rattle.file_bindings.proofs.bound.Resolved.types.Goals as goal

pub returns : goal.returns
returns c = ∥∥₁_elim c.args.self.now.bound.types (hlevel props) (λ declared. ∣ ap types_view c.deref.ensures.value ∙ declared ∣₁)
