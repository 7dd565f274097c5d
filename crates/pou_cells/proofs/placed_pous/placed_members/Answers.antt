use Rattle.std.proofs.Common.{◌≡◌, ◌≤◌, ℕ, List, map, ap, sym, ◌∙◌, arith}
use Rattle.source_tree.specs.SyntaxView.{pou_view}
use Rattle.naming.specs.FileScope.{pou_at}
use Rattle.decl_types.specs.Bodies.{file_in}
use Rattle.decl_types.specs.ToldView.{told_view}
use Rattle.typing.specs.Places.{count_of_cells, sizes_of, variables_at}
use Rattle.pou_cells.specs.Placing.{capped, capped_cells}
use Rattle.pou_cells.specs.ToldPlaces.{told_at, told_count}
use Rattle.pou_cells.specs.ToldMembers.{told_members}
use Rattle.pou_cells.proofs.SizeLemmas.{capped_told, capped_count, many_cells, few_cells}
use Rattle.pou_cells.proofs.PlacedLemmas.{not_placed, few_placed}
use Rattle.pou_cells.proofs.placed_pous.placed_members.Goals as goal

pub returns-then-capped_cells-gt-MOST_CELLS : goal.returns-then-capped_cells-gt-MOST_CELLS
returns-then-capped_cells-gt-MOST_CELLS c =
    let f = file_in c.args.pous.now.domains in
    let k = c.args.number in
    let s = sizes_of f in
    let count = count_of_cells f s (variables_at f k) in
    let counted : c.capped_cells.result ≡ capped count =
    c.capped_cells.ensures ∙ ap (capped_cells c.args.sizes.now) c.told_at-variables.ensures ∙ ap (λ (t : List ℕ). capped_cells t (told_at f k)) c.requires.sizes ∙ capped_count f s k in
    sym (not_placed f (pou_at f k) (many_cells count c.capped_cells.result counted c.if-capped_cells-gt-MOST_CELLS.true))

pub members_in-requires : goal.members_in-requires
members_in-requires c =
    let sizes = c.args.sizes.now in
    let ts = map told_view c.told_at-variables.result.now in
    let few : c.capped_cells.result ≤ 16777216 = omega (arith, c.if-capped_cells-gt-MOST_CELLS.false) in
    let count = few_cells (told_count sizes ts) c.capped_cells.result (c.capped_cells.ensures ∙ capped_told sizes ts) few in
    omega (arith, count)

pub returns : goal.returns
returns c =
    let f = file_in c.args.pous.now.domains in
    let k = c.args.number in
    let s = sizes_of f in
    let p = pou_view c.pou-pou.result.now in
    let count = count_of_cells f s (variables_at f k) in
    let counted : c.capped_cells.result ≡ capped count =
    c.capped_cells.ensures ∙ ap (capped_cells c.args.sizes.now) c.told_at-variables.ensures ∙ ap (λ (t : List ℕ). capped_cells t (told_at f k)) c.requires.sizes ∙ capped_count f s k in
    let few : c.capped_cells.result ≤ 16777216 = omega (arith, c.if-capped_cells-gt-MOST_CELLS.false) in
    few_placed f k p c.in_ok-members.members.items c.pou-pou.ensures (few_cells count c.capped_cells.result counted few)
    (c.in_ok-members.ensures ∙ ap (told_members c.args.sizes.now p.pou_type) c.told_at-variables.ensures ∙ ap (λ (t : List ℕ). told_members t p.pou_type (told_at f k)) c.requires.sizes)
