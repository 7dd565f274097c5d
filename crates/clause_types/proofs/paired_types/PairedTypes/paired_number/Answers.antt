use Rattle.std.proofs.Common.{List, ap, ◌∙◌}
use Rattle.std.specs.Prelude.{slice_get, unwrap_or}
use Rattle.plc_types.specs.declared.data_type.DataType.{DataType}
use Rattle.plc_types.specs.declared.data_type.DataType.TheVariants.{Unknown}
use Rattle.program_tree.specs.View.{program_view}
use Rattle.clause_types.proofs.NumberLemmas.{at_number}
use Rattle.clause_types.proofs.paired_types.PairedTypes.paired_number.Goals as goal

pub returns : goal.returns
returns c =
    let types = c.args.self.now in
    let number = c.args.number in
    c.kind_at.ensures ∙ ap (λ (ks : List DataType). unwrap_or (slice_get ks number) Unknown) c.deref.ensures.value
    ∙ ap (λ (ks : List DataType). unwrap_or (slice_get ks number) Unknown) types.listed
    ∙ at_number (program_view types.old.now).types (program_view types.new.now).types number
