use Rattle.std.proofs.Common.{◌≡◌, map, ◌∙◌}
use Rattle.std.proofs.Math.Logic.{∥∥₁_elim}
use Rattle.std.proofs.Props.{props}
use Rattle.naming.specs.ScopeView.{variables_view}
use Rattle.decl_types.specs.Bodies.{file_in}
use Rattle.decl_types.specs.Told.{told_in}
use Rattle.decl_types.specs.ToldView.{told_view}
use Rattle.typing_laws.proofs.Judging.{on_ok}
use Rattle.pou_cells.specs.ToldPlaces.{told_at}
use Rattle.pou_cells.proofs.TableLemmas.{told_variables}
use Rattle.pou_cells.proofs.tables.told_pou.Goals as goal

pub returns : goal.returns
returns c =
    let f = file_in c.args.domains.now in
    let k = c.args.number in
    let vs = variables_view c.variables.result.now in
    on_ok c.told_in.result (λ list. map told_view list.items ≡ told_in f vs) (λ list. map told_view list.items ≡ told_at f k)
    (λ list is. ∥∥₁_elim c.variables.ensures.variables (hlevel props) (λ kept. is ∙ told_variables f vs k kept)) c.told_in.ensures
