use Rattle.std.proofs.Common.{ap, ◌∙◌}
use Rattle.plc_types.specs.declared.data_type.DataType.{DataType}
use Rattle.candidates.proofs.pair.Pair.paired.Goals as goal

pub returns : goal.returns
returns c = c.paired.ensures ∙ ap (λ (f : DataType → DataType). f c.args.kind) c.args.self.now.paired
