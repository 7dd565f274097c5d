-- The assignments that a body begins with, as a list.
use Rattle.std.specs.Prelude.{ℕ, List, [], ◌∷◌, if◌then◌else◌}
use Rattle.program_tree.specs.Tree.{Statement, number, assign}
use Rattle.source_tree.specs.Syntax.{FileData}
use Rattle.naming.specs.Scopes.{Variable}
use Rattle.typing.specs.Variables.{initial_of}
use Rattle.typing.specs.declared.next.Next.{Next}
use Rattle.typing.specs.Places.{sizes_of, first_place, places_behind}
use Rattle.typing.specs.TypedPrograms.{is_temporary}

-- a variable's cell gets the value that the variable begins with
abbrev pub beginning : FileData → ℕ → Variable → Statement
beginning f cell v = assign cell (number (initial_of f v))

-- of the VAR_TEMP variables, among those whose cells begin at places
abbrev pub beginnings : FileData → Next → List Variable → List Statement
beginnings f next [] = []
beginnings f next (v ∷ vs) =
    if is_temporary v.role then beginning f (first_place next v) v ∷ beginnings f (places_behind f (sizes_of f) next v) vs
    else beginnings f (places_behind f (sizes_of f) next v) vs
