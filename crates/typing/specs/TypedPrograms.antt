-- The typed program that a file stands for.
use Rattle.std.specs.Prelude.{ℕ, zero, suc, ◌==◌, List, [], ◌∷◌, ◌++◌, length, map, filter, codes, Bool, true, false, Option, Some, None, is_some, ◌||◌, if◌then◌else◌, ℤ, pos}
use Rattle.plc_types.specs.declared.elementary.Elementary.TheVariants as types
use Rattle.program_tree.specs.declared.typed.Part.{Part}
use Rattle.program_tree.specs.declared.typed.CellType.{CellType}
use Rattle.program_tree.specs.declared.typed.Part.TheVariants as parts
use Rattle.plc_types.specs.Types.{range_of}
use Rattle.source_tree.specs.Syntax.{Named, SpecificationData, of_type, of_values, TypeDeclarationData, BodyData, statements, chart as chart_body, PouTypeData, function, function_block, program, PouData, FileData}
use Rattle.program_tree.specs.Tree.{number, assign as typed_assign, Statements, no_statements, statement, CellData, CalledData, block as typed_block, function as typed_function, ProgramData}
use Rattle.naming.specs.declared.role.Role.{Role}
use Rattle.naming.specs.declared.role.Role.TheVariants as roles
use Rattle.naming.specs.FileScope.{types_of, pous_of, pou_at}
use Rattle.naming.specs.Scopes.{Variable, variables_in_pou, is_step, block_of}
use Rattle.typing.specs.Typing.{Scope, bool_type}
use Rattle.typing.specs.TypedStatements.{typed_list}
use Rattle.typing.specs.TypedCharts.{typed_chart}
use Rattle.typing.specs.Variables.{domain_of_variable, initial_of}
use Rattle.typing.specs.declared.next.Next.{Next}
use Rattle.typing.specs.Places.{has_cell, is_stored_action, in_order, variables_at, size_among, sizes_of, first_places, first_place, places_behind}
use Rattle.typing.specs.ChartPlaces.{charts_in}
use Rattle.typing.specs.Members.{called_order, scope_of}

abbrev pub part_of : Role → Part
part_of roles.Input = parts.Input
part_of roles.Output = parts.Output
part_of roles.Local = parts.Local
part_of roles.Temporary = parts.Local
part_of roles.Constant = parts.Local
part_of roles.Result = parts.Local
part_of roles.Step = parts.Local
part_of roles.InitialStep = parts.Local
part_of roles.Action = parts.Local
part_of roles.StoredAction = parts.Local
part_of roles.Transition = parts.Local

-- the cells of an instance are all local
abbrev pub part_in : Bool → Role → Part
part_in inside role = if inside then parts.Local else part_of role

-- The path of a cell behind what stands before it, where paths are expected, and what stands before those of an instance or a step.
abbrev pub path_of : Option (List ℕ) → List ℕ → List ℕ
path_of None text = []
path_of (Some before) text = before ++ text

abbrev pub path_behind : Option (List ℕ) → Named → Option (List ℕ)
path_behind None n = None
path_behind (Some before) n = Some (before ++ n.text ++ codes ".")

abbrev pub cell_for : FileData → Bool → Option (List ℕ) → Variable → CellData
cell_for f inside before v = record {
  path = path_of before v.name.text;
  part = part_in inside v.role;
  kind = (domain_of_variable f v).kind;
  range = (domain_of_variable f v).range;
  is_subrange = (domain_of_variable f v).is_subrange;
  initial = initial_of f v;
}

-- FAULT is a BOOL that begins FALSE
abbrev pub fault_cell : CellData
fault_cell = record { path = codes "FAULT"; part = parts.Fault; kind = bool_type; range = range_of types.Bool; is_subrange = false; initial = pos 0 }

-- a cell of a chart, by the name of a step or an action and what it tells of it: a BOOL
abbrev pub flag_cell : Option (List ℕ) → Named → List ℕ → ℤ → CellData
flag_cell before n text initial = record {
  path = path_of (path_behind before n) text;
  part = parts.Local;
  kind = bool_type;
  range = range_of types.Bool;
  is_subrange = false;
  initial = initial;
}

-- the initial step begins active
abbrev pub active_first : Role → ℤ
active_first roles.Input = pos 0
active_first roles.Output = pos 0
active_first roles.Local = pos 0
active_first roles.Temporary = pos 0
active_first roles.Constant = pos 0
active_first roles.Result = pos 0
active_first roles.Step = pos 0
active_first roles.InitialStep = pos 1
active_first roles.Action = pos 0
active_first roles.StoredAction = pos 0
active_first roles.Transition = pos 0

-- The cells of a name that is no instance: of a step whether it is active, and whether it was where the run before this one started; of
-- an action whether it is stored.
abbrev pub cells_for : FileData → Bool → Option (List ℕ) → Variable → List CellData
cells_for f inside before v =
    if is_step v.role then flag_cell before v.name (codes "X") (active_first v.role) ∷ flag_cell before v.name (codes "L") (pos 0) ∷ []
    else (if is_stored_action v.role then flag_cell before v.name (codes "S") (pos 0) ∷ [] else cell_for f inside before v ∷ [])

-- The cells of names in an order, where those of the blocks of instances are known; a block that has none is not looked at.
abbrev pub cells_of_variable : FileData → (Option (List ℕ) → ℕ → List CellData) → Bool → Option (List ℕ) → Variable → Option ℕ → List CellData
cells_of_variable f of_block inside before v None = cells_for f inside before v
cells_of_variable f of_block inside before v (Some b) =
    if size_among (sizes_of f) (Some b) == 0 then [] else of_block (path_behind before v.name) b

abbrev pub cells_of : FileData → (Option (List ℕ) → ℕ → List CellData) → Bool → Option (List ℕ) → List Variable → List CellData
cells_of f of_block inside before [] = []
cells_of f of_block inside before (v ∷ vs) =
    (if has_cell v.role then cells_of_variable f of_block inside before v (block_of f v) else []) ++ cells_of f of_block inside before vs

-- The cells of an instance of a block, where instances stand in one another so many times at most.
abbrev pub block_cells : FileData → ℕ → Option (List ℕ) → ℕ → List CellData
block_cells f zero before b = []
block_cells f (suc depth) before b = cells_of f (block_cells f depth) true before (in_order false (variables_at f b))

-- no block is in itself, so that instances stand in one another fewer times than there are POUs
abbrev pub cells_in : FileData → Option (List ℕ) → Bool → List Variable → List CellData
cells_in f before of_function vs = cells_of f (block_cells f (length (pous_of f))) false before (in_order of_function vs)

-- the names of constants and instances in declared order
abbrev pub is_constant : Role → Bool
is_constant roles.Input = false
is_constant roles.Output = false
is_constant roles.Local = false
is_constant roles.Temporary = false
is_constant roles.Constant = true
is_constant roles.Result = false
is_constant roles.Step = false
is_constant roles.InitialStep = false
is_constant roles.Action = false
is_constant roles.StoredAction = false
is_constant roles.Transition = false

abbrev pub is_without_cell : FileData → Variable → Bool
is_without_cell f v = is_constant v.role || is_some (block_of f v)

abbrev pub names_without_cell : FileData → List Variable → List (List ℕ)
names_without_cell f vs = map (λ v. v.name.text) (filter (is_without_cell f) vs)

abbrev pub is_temporary : Role → Bool
is_temporary roles.Input = false
is_temporary roles.Output = false
is_temporary roles.Local = false
is_temporary roles.Temporary = true
is_temporary roles.Constant = false
is_temporary roles.Result = false
is_temporary roles.Step = false
is_temporary roles.InitialStep = false
is_temporary roles.Action = false
is_temporary roles.StoredAction = false
is_temporary roles.Transition = false

-- each VAR_TEMP variable, of those from a place on, gets the value that it begins with, and then statements run
abbrev pub begun : FileData → Next → List Variable → Statements → Statements
begun f next [] ss = ss
begun f next (v ∷ vs) ss =
    if is_temporary v.role then statement (typed_assign (first_place next v) (number (initial_of f v))) (begun f (places_behind f (sizes_of f) next v) vs ss)
    else begun f (places_behind f (sizes_of f) next v) vs ss

abbrev pub typed_body : Scope → BodyData → Statements
typed_body scope (statements ss) = typed_list scope ss
typed_body scope (chart_body ps) = statement (typed_chart scope ps) no_statements

-- what the POU of a number does, which begins with its VAR_TEMP variables
abbrev pub pou_body : FileData → ℕ → PouData → Statements
pou_body f k p = let vs = variables_in_pou p in begun f (first_places f (sizes_of f) p.pou_type vs) vs (typed_body (scope_of f (sizes_of f) k) p.body)

-- the cells of a FUNCTION's call, FAULT first
abbrev pub frame_cells : FileData → PouData → List CellData
frame_cells f p = fault_cell ∷ cells_in f None true (variables_in_pou p)

abbrev pub type_of_cell : CellData → CellType
type_of_cell c = record { kind = c.kind; is_subrange = c.is_subrange }

abbrev pub called_of : FileData → ℕ → PouTypeData → PouData → CalledData
called_of f k (function t) p =
    typed_function (map type_of_cell (frame_cells f p)) (map (λ c. c.range) (frame_cells f p)) (map (λ c. c.initial) (frame_cells f p)) (pou_body f k p)
called_of f k function_block p = typed_block (pou_body f k p)
called_of f k program p = typed_block (pou_body f k p)

abbrev pub called_if : FileData → ℕ → Option PouData → CalledData
called_if f k None = typed_block no_statements
called_if f k (Some p) = called_of f k p.pou_type p

-- the POUs that are reached and may be called
abbrev pub called_by : FileData → List CalledData
called_by f = map (λ k. called_if f k (pou_at f k)) (called_order f)

-- the names of the values of a type, which only an enumeration has
abbrev pub texts_of : List Named → List (List ℕ)
texts_of ns = map (λ n. n.text) ns

abbrev pub value_texts : SpecificationData → List (List ℕ)
value_texts (of_type t) = []
value_texts (of_values at first others) = texts_of (first ∷ others)

abbrev pub type_texts : List TypeDeclarationData → List (List (List ℕ))
type_texts ds = map (λ d. value_texts d.specification) ds

-- a PROGRAM, by its number: FAULT first, and then the cells of its names, among which charts stand
abbrev pub typed_program : FileData → ℕ → PouData → ProgramData
typed_program f k p = record {
  name = p.name.text;
  cells = fault_cell ∷ cells_in f (Some []) false (variables_in_pou p);
  charts = charts_in f (variables_in_pou p);
  without_cell = names_without_cell f (variables_in_pou p);
  types = type_texts (types_of f);
  called = called_by f;
  body = pou_body f k p;
}
