use Rattle.std.proofs.Common.{◌≡◌, Some, length, refl, arith}
use Rattle.std.specs.List.{slice_get}
use Rattle.std.proofs.lemmas.Option.{slice_get_read}
use Rattle.decl_types.specs.Bodies.{file_in}
use Rattle.decl_types.proofs.ToldLemmas.{block_at}
use Rattle.decl_types.proofs.told.told_in.Goals as goal

pub told_of-requires : goal.told_of-requires
told_of-requires c =
    let vs = c.args.variables.now in
    let i = c.loop-variable.variable-index in
    let x = c.variable-item.result in
    let there : slice_get vs i ≡ Some x = slice_get_read vs (length vs) i x refl (omega arith) c.variable-item.is in
    block_at (file_in c.args.domains.now) vs i x c.requires there
