use Rattle.std.proofs.Common.{◌≡◌, ℕ, List, true, IfOk, map, ap, sym, subst, ◌∙◌, arith}
use Rattle.source_tree.specs.Syntax.{PouData, FileData}
use Rattle.source_tree.specs.SyntaxView.{pou_view}
use Rattle.program_tree.specs.Tree.{Statements}
use Rattle.program_tree.specs.View.{stmts_view}
use Rattle.naming.specs.Scopes.{Variable, variables_in_pou}
use Rattle.decl_types.specs.Bodies.{file_in}
use Rattle.decl_types.specs.ToldView.{told_view}
use Rattle.typing.specs.declared.next.Next.{Next}
use Rattle.typing.specs.Members.{scope_of}
use Rattle.typing.specs.Places.{sizes_of, first_places, variables_in, variables_at}
use Rattle.typing.specs.TypedPrograms.{begun, typed_body, pou_body}
use Rattle.pou_cells.specs.Placing.{capped, is_placed}
use Rattle.pou_cells.specs.ToldPlaces.{told_at, told_count, told_first_places, HavePlaces}
use Rattle.pou_cells.proofs.SizeLemmas.{first_exact}
use Rattle.pou_cells.proofs.PlacedLemmas.{placed_few, has_places, few_exact, few_capped}
use Rattle.pou_cells.proofs.RoomLemmas.{begins_with_room, low_alone}
use Rattle.pou_cells.proofs.ToldLemmas.{told_first_places-is}
use Rattle.st_types.proofs.bodies.pou_body.Goals as goal

pub invariant_of-scope : goal.invariant_of-scope
invariant_of-scope c = record { fits = c.requires.placed }

pub begin_body-requires-clause-placed : goal.begin_body-requires-clause-placed
begin_body-requires-clause-placed c = c.requires.placed

pub first_places-first-requires : goal.first_places-first-requires
first_places-first-requires c =
    let f = file_in c.args.placed.now.pous.domains in
    let k = c.args.number in
    let placed : is_placed f k ≡ true = c.requires.placed in
    let same : told_count c.deref.result.now (map told_view c.told_at.result.now) ≡ told_count (map capped (sizes_of f)) (told_at f k) =
    ap (told_count c.deref.result.now) c.told_at.ensures ∙ ap (λ (s : List ℕ). told_count s (told_at f k)) (c.deref.ensures.value ∙ c.args.placed.now.sized) in
    let few = few_capped f k placed in
    omega (arith, same, few)

pub begin_body-requires-clause-room : goal.begin_body-requires-clause-room
begin_body-requires-clause-room c =
    let f = file_in c.args.placed.now.pous.domains in
    let k = c.args.number in
    let pou_type = (pou_view c.args.pou.now).pou_type in
    let sizes = c.args.placed.now.sizes.items in
    let ts = told_at f k in
    let placed : is_placed f k ≡ true = c.requires.placed in
    let same : told_count sizes ts ≡ told_count (map capped (sizes_of f)) ts = ap (λ (s : List ℕ). told_count s ts) c.args.placed.now.sized in
    let few = few_capped f k placed in
    let first : told_first_places sizes pou_type ts ≡ c.first_places-first.result =
    sym (c.first_places-first.ensures ∙ ap (told_first_places c.deref.result.now pou_type) c.told_at.ensures ∙ ap (λ (s : List ℕ). told_first_places s pou_type ts) c.deref.ensures.value) in
    subst (λ (n : Next). HavePlaces sizes n ts) first (begins_with_room sizes pou_type ts (omega (arith, same, few)))

pub begin_body-requires-clause-low : goal.begin_body-requires-clause-low
begin_body-requires-clause-low c = λ n.
    let f = file_in c.args.placed.now.pous.domains in
    let low = low_alone f (sizes_of f) c.args.number n in
    let few = placed_few f c.args.number (has_places f c.args.number c.requires.placed) in
    omega (arith, low, few)

begun_body : (f : FileData) (number : ℕ) (p : PouData) (vs : List Variable) (first : Next) → vs ≡ variables_in_pou p → first ≡ first_places f (sizes_of f) p.pou_type vs
    → begun f first vs (typed_body (scope_of f (sizes_of f) number) p.body) ≡ pou_body f number p
begun_body f number p vs first read from =
    let body = typed_body (scope_of f (sizes_of f) number) p.body in
    ap (λ (n : Next). begun f n vs body) from ∙ ap (λ (xs : List Variable). begun f (first_places f (sizes_of f) p.pou_type xs) xs body) read

pub returns : goal.returns
returns c =
    let f = file_in c.args.placed.now.pous.domains in
    let k = c.args.number in
    let p = pou_view c.args.pou.now in
    let vs = variables_at f k in
    let sizes : c.deref.result.now ≡ map capped (sizes_of f) = c.deref.ensures.value ∙ c.args.placed.now.sized in
    let placed : is_placed f k ≡ true = c.requires.placed in
    let first : c.first_places-first.result ≡ first_places f (sizes_of f) p.pou_type vs =
    c.first_places-first.ensures ∙ ap (told_first_places c.deref.result.now p.pou_type) c.told_at.ensures ∙ ap (λ (s : List ℕ). told_first_places s p.pou_type (told_at f k)) sizes
    ∙ first_exact (sizes_of f) p.pou_type (told_at f k) (few_exact f k placed) ∙ told_first_places-is f (sizes_of f) p.pou_type vs in
    subst (λ (ss : Statements). IfOk c.begin_body.result (λ list. stmts_view list.items ≡ ss)) (begun_body f k p vs c.first_places-first.result (ap variables_in c.requires.there) first) c.begin_body.ensures
