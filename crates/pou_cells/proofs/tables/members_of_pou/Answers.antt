use Rattle.std.proofs.Common.{◌≡◌, [], map, length, ap, ◌∙◌, arith}
use Rattle.std.proofs.lemmas.List.{length-map}
use Rattle.source_tree.specs.SyntaxView.{pou_view}
use Rattle.decl_types.specs.Bodies.{file_in}
use Rattle.decl_types.specs.ToldView.{told_view}
use Rattle.typing.specs.Members.{members_at}
use Rattle.typing.specs.Places.{count_of_cells, variables_at}
use Rattle.typing_laws.proofs.Judging.{on_ok}
use Rattle.pou_cells.specs.ToldPlaces.{told_count}
use Rattle.pou_cells.specs.ToldMembers.{told_members}
use Rattle.pou_cells.proofs.TableLemmas.{told_at-is}
use Rattle.pou_cells.proofs.ToldLemmas.{told_count-is, told_members_at-is}
use Rattle.pou_cells.proofs.RoomLemmas.{told_few}
use Rattle.pou_cells.proofs.tables.members_of_pou.Goals as goal

pub members_in-requires : goal.members_in-requires
members_in-requires c =
    let own = map told_view c.told_of_pou.result.now in
    let few = told_few own in
    let long : length own ≡ length c.told_of_pou.result.now = length-map c.told_of_pou.result.now told_view in
    omega (arith, few, long)

pub returns-clause-members : goal.returns-clause-members
returns-clause-members c =
    let f = file_in c.args.domains.now in
    let k = c.args.number in
    let p = pou_view c.pou-pou.result.now in
    let own = map told_view c.told_of_pou.result.now in
    let same = told_members_at-is f [] k p own (c.told_of_pou.ensures ∙ told_at-is f c.args.told.now k c.requires.told) c.pou-pou.ensures in
    on_ok c.members_in.result (λ list. list.items ≡ told_members [] p.pou_type own) (λ list. list.items ≡ members_at f [] k) (λ list is. is ∙ same) c.members_in.ensures

pub returns-clause-few : goal.returns-clause-few
returns-clause-few c =
    let f = file_in c.args.domains.now in
    let k = c.args.number in
    let own = map told_view c.told_of_pou.result.now in
    let few = told_few own in
    let long : length own ≡ length c.told_of_pou.result.now = length-map c.told_of_pou.result.now told_view in
    let counted : told_count [] own ≡ count_of_cells f [] (variables_at f k) =
    ap (told_count []) (c.told_of_pou.ensures ∙ told_at-is f c.args.told.now k c.requires.told) ∙ told_count-is f [] (variables_at f k) in
    omega (arith, few, long, counted)
