-- The assignments that a body begins with, by what is told of the declarations of its POU.
use Rattle.std.specs.Prelude.{ℕ, List, [], ◌∷◌, if◌then◌else◌}
use Rattle.program_tree.specs.Tree.{Statement, number, assign}
use Rattle.typing.specs.declared.next.Next.{Next}
use Rattle.typing.specs.TypedPrograms.{is_temporary}
use Rattle.decl_types.specs.Told.{ToldData}
use Rattle.pou_cells.specs.ToldPlaces.{told_first_place, told_places_behind}

-- of the VAR_TEMP variables, among those whose cells begin at places
abbrev pub told_beginnings : List ℕ → Next → List ToldData → List Statement
told_beginnings sizes next [] = []
told_beginnings sizes next (t ∷ ts) =
    if is_temporary t.role then assign (told_first_place next t) (number t.initial) ∷ told_beginnings sizes (told_places_behind sizes next t) ts
    else told_beginnings sizes (told_places_behind sizes next t) ts
