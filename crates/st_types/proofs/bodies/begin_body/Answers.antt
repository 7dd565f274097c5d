use Rattle.std.proofs.Common.{◌≡◌, ℕ, List, ◌++◌, map, ap, sym, subst, ◌∙◌}
use Rattle.std.proofs.lemmas.List.{map-append}
use Rattle.program_tree.specs.Tree.{Statement}
use Rattle.program_tree.specs.View.{stmt_view, stmts_view, statements_of}
use Rattle.decl_types.specs.Bodies.{file_in}
use Rattle.decl_types.specs.Told.{ToldData}
use Rattle.decl_types.specs.ToldView.{told_view}
use Rattle.typing.specs.Beginnings.{beginnings}
use Rattle.typing.specs.Places.{sizes_of, variables_at}
use Rattle.typing.specs.TypedPrograms.{begun}
use Rattle.typing_laws.proofs.BeginningLemmas.{begun-list}
use Rattle.pou_cells.specs.Placing.{capped}
use Rattle.pou_cells.specs.ToldPlaces.{told_at, HavePlaces}
use Rattle.pou_cells.proofs.PlacedLemmas.{few_exact}
use Rattle.st_types.specs.ToldBeginnings.{told_beginnings}
use Rattle.st_types.proofs.ToldLemmas.{beginnings-told, beginnings-exact}
use Rattle.st_types.proofs.bodies.begin_body.Goals as goal

pub beginnings-requires : goal.beginnings-requires
beginnings-requires g c =
    subst (λ (ts : List ToldData). HavePlaces c.deref.result.now c.args.first ts) (sym c.told_at.ensures)
    (subst (λ (sizes : List ℕ). HavePlaces sizes c.args.first (told_at (file_in c.args.placed.now.pous.domains) c.args.number)) (sym c.deref.ensures.value) c.requires.room)

pub returns : goal.returns
returns g c =
    let f = file_in c.args.placed.now.pous.domains in
    let k = c.args.number in
    let list = c.in_ok-list.list.items in
    let behind = c.in_ok-behind.behind.items in
    let vs = variables_at f k in
    let ts = map told_view c.told_at.result.now in
    let items : c.append.new.self.items ≡ list ++ behind = c.in_ok-append.ensures.items in
    let begins : map stmt_view list ≡ beginnings f c.args.first vs =
    c.in_ok-list.ensures ∙ ap (λ (sizes : List ℕ). told_beginnings sizes c.args.first ts) (c.deref.ensures.value ∙ c.args.placed.now.sized)
    ∙ ap (told_beginnings (map capped (sizes_of f)) c.args.first) c.told_at.ensures
    ∙ beginnings-exact (sizes_of f) c.args.first (told_at f k) (few_exact f k c.requires.placed)
    ∙ beginnings-told f c.args.first vs in
    ap stmts_view items
    ∙ ap statements_of (map-append stmt_view list behind ∙ ap (λ (ss : List Statement). ss ++ map stmt_view behind) begins)
    ∙ begun-list f c.args.first vs (map stmt_view behind)
    ∙ ap (begun f c.args.first vs) c.in_ok-behind.ensures
