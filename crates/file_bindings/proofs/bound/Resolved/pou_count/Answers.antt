use Rattle.std.proofs.Common.{length, ap, ◌∙◌}
use Rattle.source_tree.specs.SyntaxView.{file_view}
use Rattle.file_bindings.proofs.BindingLemmas.{count_places}
use Rattle.file_bindings.proofs.bound.Resolved.pou_count.Goals as goal

pub returns : goal.returns
returns c =
    let r = c.args.self.now in
    ap length c.as_slice.ensures.value ∙ ap length r.bound.places ∙ count_places 0 (file_view r.file.now)
