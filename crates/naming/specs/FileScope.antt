-- The scope of a file (IEC 61131-3, 2.3.3 and 2.5): the names of types, of the values of enumerations, and of POUs.
use Rattle.std.specs.Prelude.{ℕ, ◌+◌, List, [], ◌∷◌, ◌++◌, length, count_by, Bool, true, false, ◌||◌, nat_lt, Option, Some, None, option_map, option_and_then, unwrap_or, if◌then◌else◌}
use Rattle.std.specs.List.{list_any, slice_get}
use Rattle.std.specs.Str.{bytes_eq}
use Rattle.source_tree.specs.Syntax.{Named, SpecificationData, of_type, of_values, TypeDeclarationData, PouTypeData, function, function_block, program, PouData, types, pou, FileData}
use Rattle.naming.specs.declared.standing.Standing.{Standing}
use Rattle.naming.specs.declared.standing.Standing.TheVariants as standings
use Rattle.naming.specs.Library.{is_library}

-- the types that a file declares, in its order, and its POUs
abbrev pub types_of : FileData → List TypeDeclarationData
types_of [] = []
types_of (types ds ∷ is) = ds ++ types_of is
types_of (pou p ∷ is) = types_of is

abbrev pub pous_of : FileData → List PouData
pous_of [] = []
pous_of (types ds ∷ is) = pous_of is
pous_of (pou p ∷ is) = p ∷ pous_of is

-- a name that a file declares, and what it stands for
abbrev pub DeclaredName : Type 0
DeclaredName = Named × Standing

-- the names of values of the type of a number, which are counted from a number on
abbrev pub names_of_values : ℕ → ℕ → List Named → List DeclaredName
names_of_values t number [] = []
names_of_values t number (n ∷ ns) = (n, standings.Value t number) ∷ names_of_values t (number + 1) ns

abbrev pub names_in_specification : ℕ → SpecificationData → List DeclaredName
names_in_specification t (of_type k) = []
names_in_specification t (of_values at first others) = names_of_values t 0 (first ∷ others)

-- the names of types that are counted from a number on, each with those of its values behind it
abbrev pub names_of_types : ℕ → List TypeDeclarationData → List DeclaredName
names_of_types number [] = []
names_of_types number (d ∷ ds) = (d.name, standings.Type number) ∷ (names_in_specification number d.specification ++ names_of_types (number + 1) ds)

-- the names of items, whose types and whose POUs are counted from a number on each
abbrev pub names_of_items : ℕ → ℕ → FileData → List DeclaredName
names_of_items number place [] = []
names_of_items number place (types ds ∷ is) = names_of_types number ds ++ names_of_items (number + length ds) place is
names_of_items number place (pou p ∷ is) = (p.name, standings.Pou place) ∷ names_of_items number (place + 1) is

-- all names that a file declares, in its order
abbrev pub names_of : FileData → List DeclaredName
names_of f = names_of_items 0 0 f

abbrev pub is_declared_as : List ℕ → DeclaredName → Bool
is_declared_as text d = bytes_eq d.0.text text

-- a name that the file's scope has
abbrev pub is_known : FileData → List ℕ → Bool
is_known f text = is_library text || list_any (is_declared_as text) (names_of f)

-- a name that is declared twice, where the library's names are declared from the start
abbrev pub is_declared_twice : List DeclaredName → List ℕ → Bool
is_declared_twice ds text = nat_lt 1 (count_by (is_declared_as text) ds + (if is_library text then 1 else 0))

-- a name that the file's scope has twice
abbrev pub is_doubled_in_file : FileData → List ℕ → Bool
is_doubled_in_file f text = is_declared_twice (names_of f) text

-- what the first of some names that is this one stands for
abbrev pub first_standing : List ℕ → List DeclaredName → Option Standing
first_standing text [] = None
first_standing text (d ∷ ds) = if is_declared_as text d then Some d.1 else first_standing text ds

-- what a name of the file's scope stands for that it has once
unfoldable pub standing : FileData → List ℕ → Option Standing
standing f text = if is_doubled_in_file f text then None else first_standing text (names_of f)

abbrev pub is_type : Option Standing → Bool
is_type None = false
is_type (Some (standings.Type t)) = true
is_type (Some (standings.Value t k)) = false
is_type (Some (standings.Pou p)) = false

abbrev pub is_value : Option Standing → Bool
is_value None = false
is_value (Some (standings.Type t)) = false
is_value (Some (standings.Value t k)) = true
is_value (Some (standings.Pou p)) = false

-- the POU of a number, where a file has one
abbrev pub pou_at : FileData → ℕ → Option PouData
pou_at f number = slice_get (pous_of f) number

abbrev pub pou_type_at : FileData → ℕ → Option PouTypeData
pou_type_at f number = option_map (λ p. p.pou_type) (pou_at f number)

abbrev pub is_program : PouTypeData → Bool
is_program (function t) = false
is_program function_block = false
is_program program = true

abbrev pub is_block : PouTypeData → Bool
is_block (function t) = false
is_block function_block = true
is_block program = false

abbrev pub pou_number : Option Standing → Option ℕ
pou_number None = None
pou_number (Some (standings.Type t)) = None
pou_number (Some (standings.Value t k)) = None
pou_number (Some (standings.Pou p)) = Some p

-- a POU that passes a test by what it is, by its number
abbrev pub number_if : FileData → (PouTypeData → Bool) → ℕ → Option ℕ
number_if f test number = if unwrap_or (option_map test (pou_type_at f number)) false then Some number else None

-- the FUNCTION_BLOCK that a name stands for, by its number
abbrev pub block_number : FileData → Option Standing → Option ℕ
block_number f s = option_and_then (number_if f is_block) (pou_number s)
