-- A body behind the assignments that it begins with.
use Rattle.std.proofs.Common.{◌≡◌, List, [], ◌∷◌, ◌++◌, Bool, true, false, if◌then◌else◌, refl, ap}
use Rattle.program_tree.specs.Tree.{Statement, Statements, statement}
use Rattle.program_tree.specs.View.{statements_of}
use Rattle.source_tree.specs.Syntax.{FileData}
use Rattle.naming.specs.Scopes.{Variable}
use Rattle.typing.specs.declared.next.Next.{Next}
use Rattle.typing.specs.Places.{sizes_of, first_place, places_behind}
use Rattle.typing.specs.TypedPrograms.{is_temporary, begun}
use Rattle.typing.specs.Beginnings.{beginning, beginnings}

one_more : (b : Bool) (s : Statement) (list ss : List Statement) (all : Statements) → statements_of (list ++ ss) ≡ all
    → statements_of ((if b then s ∷ list else list) ++ ss) ≡ (if b then statement s all else all)
one_more true s list ss all behind = ap (statement s) behind
one_more false s list ss all behind = behind

pub begun-list : (f : FileData) (next : Next) (vs : List Variable) (ss : List Statement) → statements_of (beginnings f next vs ++ ss) ≡ begun f next vs (statements_of ss)
begun-list f next [] ss = refl
begun-list f next (v ∷ vs) ss =
    let behind = places_behind f (sizes_of f) next v in
    one_more (is_temporary v.role) (beginning f (first_place next v) v) (beginnings f behind vs) ss (begun f behind vs (statements_of ss)) (begun-list f behind vs ss)
