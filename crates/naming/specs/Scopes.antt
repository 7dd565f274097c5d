-- The scope of a POU (IEC 61131-3, 2.4, 2.5 and 2.6): the variables that it declares, a FUNCTION's own name, and the names of the steps,
-- actions and transitions of a chart.
use Rattle.std.specs.Prelude.{ℕ, List, [], ◌∷◌, ◌++◌, map, codes, count_by, Bool, true, false, not, ◌&&◌, ◌||◌, nat_lt, Option, Some, None, is_some, option_map, option_and_then, unwrap_or, if◌then◌else◌}
use Rattle.std.specs.Str.{bytes_eq}
use Rattle.source_tree.specs.declared.syntax.Section.{Section}
use Rattle.source_tree.specs.declared.syntax.Section.TheVariants as sections
use Rattle.source_tree.specs.Syntax.{Named, Tree, literal, path, enumerator, paren, unary, chain, call, TypeData, of_elementary, of_subrange, of_name, DeclarationData, VariablesData, PartData, step_part, transition_part, action_part, BodyData, statements, chart, PouTypeData, function, function_block, program, PouData, FileData}
use Rattle.naming.specs.declared.role.Role.{Role}
use Rattle.naming.specs.declared.role.Role.TheVariants as roles
use Rattle.naming.specs.Seen.{Seen}
use Rattle.naming.specs.ChartWords.{is_stored}
use Rattle.naming.specs.FileScope.{standing, is_value, is_program, block_number}
use Rattle.naming.specs.Types.{has_enumerator, is_whole_type_name}

-- a name of a POU, as it is declared: that of a variable, or of a step, an action or a transition, which has no type
pub record Variable : Type 0 where
  pub name : Named
  pub role : Role
  pub kind : Option TypeData
  pub initial : Option Tree

-- what the variables of a section are for
abbrev pub role_of : Section → Role
role_of sections.Input = roles.Input
role_of sections.Output = roles.Output
role_of sections.Local = roles.Local
role_of sections.Temporary = roles.Temporary
role_of sections.Constant = roles.Constant

abbrev pub declared_by : Role → DeclarationData → List Variable
declared_by role d = map (λ n. record { name = n; role = role; kind = Some d.kind; initial = d.initial }) (d.first ∷ d.others)

abbrev pub declared_in : Role → List DeclarationData → List Variable
declared_in role [] = []
declared_in role (d ∷ ds) = declared_by role d ++ declared_in role ds

-- the variables of lists of declarations, in declared order
abbrev pub variables_of : List VariablesData → List Variable
variables_of [] = []
variables_of (v ∷ vs) = declared_in (role_of v.section) v.declarations ++ variables_of vs

-- a FUNCTION's own name is a variable, of the type of its result
abbrev pub result_of : PouTypeData → Named → List Variable
result_of (function t) n = record { name = n; role = roles.Result; kind = Some t; initial = None } ∷ []
result_of function_block n = []
result_of program n = []

-- the name of a part of a chart
abbrev pub of_chart : Role → Named → Variable
of_chart role n = record { name = n; role = role; kind = None; initial = None }

abbrev pub step_role : Bool → Role
step_role initial = if initial then roles.InitialStep else roles.Step

abbrev pub action_role : Bool → Role
action_role stored = if stored then roles.StoredAction else roles.Action

abbrev pub transition_named : Option Named → List Variable
transition_named None = []
transition_named (Some n) = of_chart roles.Transition n ∷ []

-- the name that a part declares of a chart that stores these actions
abbrev pub declared_by_part : (List ℕ → Bool) → PartData → List Variable
declared_by_part stored (step_part s) = of_chart (step_role s.is_initial) s.name ∷ []
declared_by_part stored (transition_part t) = transition_named t.name
declared_by_part stored (action_part a) = of_chart (action_role (stored a.name.text)) a.name ∷ []

abbrev pub declared_by_parts : (List ℕ → Bool) → List PartData → List Variable
declared_by_parts stored [] = []
declared_by_parts stored (p ∷ ps) = declared_by_part stored p ++ declared_by_parts stored ps

-- the names of a chart, in the order of the text
abbrev pub names_in_body : BodyData → List Variable
names_in_body (statements ss) = []
names_in_body (chart ps) = declared_by_parts (is_stored ps) ps

-- the names of a POU: of a FUNCTION first its own name, then the variables that are declared, in their order, and then the names of a
-- chart
abbrev pub variables_in_pou : PouData → List Variable
variables_in_pou p = result_of p.pou_type p.name ++ variables_of p.variables ++ names_in_body p.body

abbrev pub is_local : Role → Bool
is_local roles.Input = false
is_local roles.Output = false
is_local roles.Local = true
is_local roles.Temporary = false
is_local roles.Constant = false
is_local roles.Result = false
is_local roles.Step = false
is_local roles.InitialStep = false
is_local roles.Action = false
is_local roles.StoredAction = false
is_local roles.Transition = false

abbrev pub is_input : Role → Bool
is_input roles.Input = true
is_input roles.Output = false
is_input roles.Local = false
is_input roles.Temporary = false
is_input roles.Constant = false
is_input roles.Result = false
is_input roles.Step = false
is_input roles.InitialStep = false
is_input roles.Action = false
is_input roles.StoredAction = false
is_input roles.Transition = false

-- what is seen of a block from outside: its inputs and its outputs
abbrev pub is_seen : Role → Bool
is_seen roles.Input = true
is_seen roles.Output = true
is_seen roles.Local = false
is_seen roles.Temporary = false
is_seen roles.Constant = false
is_seen roles.Result = false
is_seen roles.Step = false
is_seen roles.InitialStep = false
is_seen roles.Action = false
is_seen roles.StoredAction = false
is_seen roles.Transition = false

abbrev pub is_result : Role → Bool
is_result roles.Input = false
is_result roles.Output = false
is_result roles.Local = false
is_result roles.Temporary = false
is_result roles.Constant = false
is_result roles.Result = true
is_result roles.Step = false
is_result roles.InitialStep = false
is_result roles.Action = false
is_result roles.StoredAction = false
is_result roles.Transition = false

-- names of a chart
abbrev pub is_step : Role → Bool
is_step roles.Input = false
is_step roles.Output = false
is_step roles.Local = false
is_step roles.Temporary = false
is_step roles.Constant = false
is_step roles.Result = false
is_step roles.Step = true
is_step roles.InitialStep = true
is_step roles.Action = false
is_step roles.StoredAction = false
is_step roles.Transition = false

abbrev pub is_action : Role → Bool
is_action roles.Input = false
is_action roles.Output = false
is_action roles.Local = false
is_action roles.Temporary = false
is_action roles.Constant = false
is_action roles.Result = false
is_action roles.Step = false
is_action roles.InitialStep = false
is_action roles.Action = true
is_action roles.StoredAction = true
is_action roles.Transition = false

abbrev pub is_transition : Role → Bool
is_transition roles.Input = false
is_transition roles.Output = false
is_transition roles.Local = false
is_transition roles.Temporary = false
is_transition roles.Constant = false
is_transition roles.Result = false
is_transition roles.Step = false
is_transition roles.InitialStep = false
is_transition roles.Action = false
is_transition roles.StoredAction = false
is_transition roles.Transition = true

abbrev pub is_of_name : List ℕ → Variable → Bool
is_of_name text v = bytes_eq v.name.text text

-- the variable of a name: the first that is declared with it
abbrev pub variable_named : List ℕ → List Variable → Option Variable
variable_named text [] = None
variable_named text (v ∷ vs) = if is_of_name text v then Some v else variable_named text vs

-- the scope of a POU: its variables, and whether it has FAULT, the cell that each PROGRAM has besides its variables
pub record PouScope : Type 0 where
  pub has_fault : Bool
  pub variables : List Variable

abbrev pub scope_with : Bool → List Variable → PouScope
scope_with has_fault vs = record { has_fault = has_fault; variables = vs }

abbrev pub scope_of : PouData → PouScope
scope_of p = scope_with (is_program p.pou_type) (variables_in_pou p)

-- FAULT, where a POU has it
abbrev pub is_fault : Bool → List ℕ → Bool
is_fault has_fault text = has_fault && bytes_eq text (codes "FAULT")

-- a name that is declared twice among variables of a POU; FAULT is declared without words in each PROGRAM
abbrev pub is_doubled_among : Bool → List Variable → List ℕ → Bool
is_doubled_among has_fault vs text = is_fault has_fault text || nat_lt 1 (count_by (is_of_name text) vs)

abbrev pub is_doubled : PouScope → List ℕ → Bool
is_doubled p text = is_doubled_among p.has_fault p.variables text

-- the FUNCTION_BLOCK of a type by name, by its number
abbrev pub block_of_type : FileData → TypeData → Option ℕ
block_of_type f (of_elementary kind at) = None
block_of_type f (of_subrange kind at b) = None
block_of_type f (of_name n) = block_number f (standing f n.text)

-- an instance is a variable of VAR whose type is a FUNCTION_BLOCK: this is the block's number
abbrev pub block_of : FileData → Variable → Option ℕ
block_of f v = if is_local v.role then option_and_then (block_of_type f) v.kind else None

-- a type that breaks no rule; the bounds of a subrange are left aside
abbrev pub is_whole_type : FileData → TypeData → Bool
is_whole_type f (of_elementary kind at) = true
is_whole_type f (of_subrange kind at b) = true
is_whole_type f (of_name n) = is_whole_type_name f n

-- the type of a variable breaks no rule, or is the block of an instance
abbrev pub is_typed : FileData → Variable → Bool
is_typed f v = is_some (block_of f v) || unwrap_or (option_map (is_whole_type f) v.kind) true

-- In a POU a variable hides a value of its name, and so does a PROGRAM's FAULT.
abbrev pub is_value_name : FileData → PouScope → List ℕ → Bool
is_value_name f p text = not (is_some (variable_named text p.variables)) && not (is_fault p.has_fault text) && is_value (standing f text)

-- a constant names nothing but values; the grammar has no other constants than literals and names, and looks at no names in them
abbrev pub is_constant : FileData → PouScope → Tree → Bool
is_constant f p (literal l) = true
is_constant f p (path q) = is_value_name f p q.first.text
is_constant f p (enumerator t v) = has_enumerator f t v
is_constant f p (paren at e) = true
is_constant f p (unary o at e) = true
is_constant f p (chain e ls) = true
is_constant f p (call n at args) = true

abbrev pub are_bounds_constant : FileData → PouScope → TypeData → Bool
are_bounds_constant f p (of_elementary kind at) = true
are_bounds_constant f p (of_subrange kind at b) = is_constant f p b.low && is_constant f p b.high
are_bounds_constant f p (of_name n) = true

abbrev pub is_initial_constant : FileData → PouScope → Option Tree → Bool
is_initial_constant f p None = true
is_initial_constant f p (Some e) = is_constant f p e

-- the bounds of a declaration and its initial value name nothing but values
abbrev pub has_constants : FileData → PouScope → Variable → Bool
has_constants f p v = unwrap_or (option_map (are_bounds_constant f p) v.kind) true && is_initial_constant f p v.initial

-- A declaration breaks no rule: its name is declared once, and its type and its initial value are whole.
abbrev pub is_whole : FileData → PouScope → Variable → Bool
is_whole f p v = not (is_doubled p v.name.text) && is_typed f v && has_constants f p v

-- what is known of a variable: whether its declaration breaks no rule, what it is for, and of an instance its block
abbrev pub seen : FileData → PouScope → Variable → Seen
seen f p v = record { whole = is_whole f p v; role = v.role; block = block_of f v }

-- the same by the name of a variable
abbrev pub seen_named : FileData → PouScope → List ℕ → Option Seen
seen_named f p text = option_map (seen f p) (variable_named text p.variables)
