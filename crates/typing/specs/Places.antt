-- Where the cells of a POU's names stand (IEC 61131-3, 2.5 and 2.6): those of variables in declared order, those of an instance of a block
-- in its place; and behind them those of a chart, first of its steps, and then of its stored actions.
use Rattle.std.specs.Prelude.{ℕ, ◌+◌, List, [], ◌∷◌, ◌++◌, length, filter, replicate, Bool, true, false, not, ◌||◌, Option, Some, None, if◌then◌else◌, slice_index_or, slice_set}
use Rattle.source_tree.specs.Syntax.{PouTypeData, function, function_block, program, PouData, FileData}
use Rattle.naming.specs.declared.role.Role.{Role}
use Rattle.naming.specs.declared.role.Role.TheVariants as roles
use Rattle.naming.specs.FileScope.{pous_of, pou_at}
use Rattle.naming.specs.Scopes.{Variable, variables_in_pou, is_input, is_result, is_step, block_of}
use Rattle.typing.specs.declared.next.Next.{Next}
use Rattle.typing.specs.Reached.{reached_order}

-- constants have no cells, nor have transitions and actions that are not stored
abbrev pub has_cell : Role → Bool
has_cell roles.Input = true
has_cell roles.Output = true
has_cell roles.Local = true
has_cell roles.Temporary = true
has_cell roles.Constant = false
has_cell roles.Result = true
has_cell roles.Step = true
has_cell roles.InitialStep = true
has_cell roles.Action = false
has_cell roles.StoredAction = true
has_cell roles.Transition = false

-- a variable takes one cell, an instance as many as its block, where blocks have these sizes, and a step two
abbrev pub size_among : List ℕ → Option ℕ → ℕ
size_among sizes None = 1
size_among sizes (Some b) = slice_index_or sizes b 0

abbrev pub cells_taken : FileData → List ℕ → Variable → ℕ
cells_taken f sizes v = if has_cell v.role then (if is_step v.role then 2 else size_among sizes (block_of f v)) else 0

abbrev pub count_of_cells : FileData → List ℕ → List Variable → ℕ
count_of_cells f sizes [] = 0
count_of_cells f sizes (v ∷ vs) = cells_taken f sizes v + count_of_cells f sizes vs

-- the variables of the POU of a number
abbrev pub variables_in : Option PouData → List Variable
variables_in None = []
variables_in (Some p) = variables_in_pou p

abbrev pub variables_at : FileData → ℕ → List Variable
variables_at f number = variables_in (pou_at f number)

-- the sizes of POUs, by their numbers, made along numbers of which each stands behind the blocks of its instances
abbrev pub sizes_along : FileData → List ℕ → List ℕ → List ℕ
sizes_along f sizes [] = sizes
sizes_along f sizes (k ∷ ks) = sizes_along f (slice_set sizes k (count_of_cells f sizes (variables_at f k))) ks

-- Those of the POUs that are reached. Of a POU that no one uses no size is asked for, and it counts as one without cells.
unfoldable pub sizes_of : FileData → List ℕ
sizes_of f = sizes_along f (replicate (length (pous_of f)) 0) (reached_order f)

abbrev pub is_stored_action : Role → Bool
is_stored_action roles.Input = false
is_stored_action roles.Output = false
is_stored_action roles.Local = false
is_stored_action roles.Temporary = false
is_stored_action roles.Constant = false
is_stored_action roles.Result = false
is_stored_action roles.Step = false
is_stored_action roles.InitialStep = false
is_stored_action roles.Action = false
is_stored_action roles.StoredAction = true
is_stored_action roles.Transition = false

-- In a FUNCTION what it answers and its inputs stand before all other variables, and in a block or a PROGRAM all names but those of
-- stored actions, which may stand before steps in the text.
abbrev pub is_front : Bool → Role → Bool
is_front of_function role = if of_function then is_input role || is_result role else not (is_stored_action role)

abbrev pub in_front : Bool → List Variable → List Variable
in_front of_function vs = filter (λ v. is_front of_function v.role) vs

abbrev pub behind_front : Bool → List Variable → List Variable
behind_front of_function vs = filter (λ v. not (is_front of_function v.role)) vs

-- the names of a POU in the order of their cells
abbrev pub in_order : Bool → List Variable → List Variable
in_order of_function vs = in_front of_function vs ++ behind_front of_function vs

abbrev pub places_from : FileData → List ℕ → Bool → ℕ → List Variable → Next
places_from f sizes of_function first vs =
    record { of_function = of_function; front = first; rest = first + count_of_cells f sizes (in_front of_function vs) }

-- where the cells of a POU begin: those of a block at the first, and those of a FUNCTION or a PROGRAM behind FAULT
abbrev pub first_places : FileData → List ℕ → PouTypeData → List Variable → Next
first_places f sizes (function t) vs = places_from f sizes true 1 vs
first_places f sizes function_block vs = places_from f sizes false 0 vs
first_places f sizes program vs = places_from f sizes false 1 vs

abbrev pub first_place : Next → Variable → ℕ
first_place next v = if is_front next.of_function v.role then next.front else next.rest

-- the next places behind a variable
abbrev pub places_behind : FileData → List ℕ → Next → Variable → Next
places_behind f sizes next v =
    if is_front next.of_function v.role then record { of_function = next.of_function; front = next.front + cells_taken f sizes v; rest = next.rest }
    else record { of_function = next.of_function; front = next.front; rest = next.rest + cells_taken f sizes v }
