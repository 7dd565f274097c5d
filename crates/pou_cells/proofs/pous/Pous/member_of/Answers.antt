use Rattle.std.proofs.Common.{◌≡◌, ℕ, List, [], ◌-◌, ap, ◌∙◌}
use Rattle.std.specs.Prelude.{option_and_then}
use Rattle.std.specs.List.{slice_get}
use Rattle.source_tree.specs.SyntaxView.{name_view}
use Rattle.typing.specs.declared.member.Member.{Member}
use Rattle.typing.specs.Members.{member_at}
use Rattle.decl_types.specs.Bodies.{file_in}
use Rattle.pou_cells.proofs.TableLemmas.{member_at-is}
use Rattle.pou_cells.proofs.RoomLemmas.{low_some}
use Rattle.pou_cells.proofs.pous.Pous.member_of.Goals as goal

pub returns-clause-member : goal.returns-clause-member
returns-clause-member c =
    member_at-is (file_in c.args.self.now.domains) [] c.args.number (name_view c.args.name.now).text c.bound-bound.result c.member_bound.result c.bound-bound.ensures
    (c.member_bound.ensures ∙ ap (λ (ms : List Member). option_and_then (λ (b : ℕ). slice_get ms (b - 1)) c.bound-bound.result) c.members_at.ensures)

pub returns-clause-low : goal.returns-clause-low
returns-clause-low c =
    let f = file_in c.args.self.now.domains in
    let text = (name_view c.args.name.now).text in
    let member : c.member_bound.result ≡ member_at f [] c.args.number text =
    member_at-is f [] c.args.number text c.bound-bound.result c.member_bound.result c.bound-bound.ensures
    (c.member_bound.ensures ∙ ap (λ (ms : List Member). option_and_then (λ (b : ℕ). slice_get ms (b - 1)) c.bound-bound.result) c.members_at.ensures) in
    low_some f [] c.args.number text c.member_bound.result (c.args.self.now.few c.args.number) member
