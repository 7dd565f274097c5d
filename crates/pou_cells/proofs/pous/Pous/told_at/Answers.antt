use Rattle.std.proofs.Common.{ap, ◌∙◌, map, []}
use Rattle.std.specs.Prelude.{option_map, unwrap_or}
use Rattle.std.specs.List.{slice_get}
use Rattle.decl_types.specs.Bodies.{file_in}
use Rattle.decl_types.specs.ToldView.{told_view}
use Rattle.pou_cells.proofs.TableLemmas.{told_at-is}
use Rattle.pou_cells.proofs.pous.Pous.told_at.Goals as goal

pub returns : goal.returns
returns c =
    let k = c.args.number in
    c.told_of_pou.ensures ∙ ap (λ l. unwrap_or (option_map (λ v. map told_view v.items) (slice_get l k)) []) c.deref.ensures.value
    ∙ told_at-is (file_in c.args.self.now.domains) c.args.self.now.told.items k c.args.self.now.judged
