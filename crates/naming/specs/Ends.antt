-- What is known of the types of a file, by their numbers: where each leads to, and which are whole.
use Rattle.std.specs.Prelude.{◌≡◌, ℕ, ◌+◌, ◌==◌, List, [], ◌∷◌, Bool, false, Option, Some, None, option_map}
use Rattle.std.specs.List.{slice_index_or, slice_get}
use Rattle.source_tree.specs.Syntax.{of_elementary, of_subrange, of_name, SpecificationData, of_type, of_values, TypeDeclarationData, FileData}
use Rattle.naming.specs.declared.standing.Standing.{Standing}
use Rattle.naming.specs.declared.standing.Standing.TheVariants as standings
use Rattle.naming.specs.declared.shape.Shape.{Shape}
use Rattle.naming.specs.declared.shape.Shape.TheVariants as shapes
use Rattle.naming.specs.Types.{specification_at, are_first, is_whole_end}

-- a list has what a function answers to the numbers below its length, and the function leaves the others as they are
abbrev pub Leads : List ℕ → (ℕ → ℕ) → Type 0
Leads ends step = (t : ℕ) → slice_index_or ends t t ≡ step t

-- a list has the answers of a test, which no number from its length on passes
abbrev pub Marks : List Bool → (ℕ → Bool) → Type 0
Marks marks test = (t : ℕ) → slice_index_or marks t false ≡ test t

-- what a type is, where it is told apart
abbrev pub shape_of : FileData → ℕ → SpecificationData → Shape
shape_of f t (of_type (of_elementary kind at)) = shapes.Elementary
shape_of f t (of_type (of_subrange kind at b)) = shapes.Subrange
shape_of f t (of_type (of_name n)) = shapes.Named
shape_of f t (of_values at first others) = shapes.Enumeration (are_first f t 0 (first ∷ others))

-- the shapes of types that are counted from a number on
abbrev pub shapes_from : FileData → ℕ → List TypeDeclarationData → List Shape
shapes_from f number [] = []
shapes_from f number (d ∷ ds) = shape_of f number d.specification ∷ shapes_from f (number + 1) ds

-- whether each of these types, which are counted from a number on, is whole at the end of a way
abbrev pub wholes_from : FileData → ℕ → List TypeDeclarationData → List Bool
wholes_from f number [] = []
wholes_from f number (d ∷ ds) = is_whole_end f number (Some d.specification) ∷ wholes_from f (number + 1) ds

-- an enumeration whose names break no rule
abbrev pub is_sound : Option Shape → Bool
is_sound None = false
is_sound (Some shapes.Elementary) = false
is_sound (Some shapes.Subrange) = false
is_sound (Some shapes.Named) = false
is_sound (Some (shapes.Enumeration ok)) = ok

-- a list has what each type of a file is
abbrev pub AreShapes : FileData → List Shape → Type 0
AreShapes f ss = (t : ℕ) → slice_get ss t ≡ option_map (shape_of f t) (specification_at f t)

-- a value of the type of a number
abbrev pub is_value_of : ℕ → Option Standing → Bool
is_value_of number None = false
is_value_of number (Some (standings.Type t)) = false
is_value_of number (Some (standings.Value t k)) = t == number
is_value_of number (Some (standings.Pou p)) = false
