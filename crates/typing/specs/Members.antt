-- What the names of a POU stand for, where blocks have some sizes: its variables and the steps of its chart, the inputs and outputs of its
-- instances, and the FUNCTIONs and blocks of its file.
use Rattle.std.specs.Prelude.{ℕ, ◌+◌, ◌-◌, List, [], ◌∷◌, length, map, filter, replicate, Bool, true, false, Option, Some, None, option_map, option_and_then, if◌then◌else◌, slice_index_or, slice_set}
use Rattle.std.specs.List.{slice_get}
use Rattle.plc_types.specs.declared.data_type.DataType.TheVariants.{Unknown}
use Rattle.source_tree.specs.Syntax.{Named, PouTypeData, function, function_block, program, PouData, FileData}
use Rattle.naming.specs.declared.role.Role.{Role}
use Rattle.naming.specs.declared.role.Role.TheVariants as roles
use Rattle.naming.specs.declared.standing.Standing.{Standing}
use Rattle.naming.specs.FileScope.{pous_of, pou_at, pou_type_at, standing, pou_number, number_if}
use Rattle.naming.specs.Scopes.{Variable, variables_in_pou, is_of_name, is_input, is_step, block_of}
use Rattle.typing.specs.declared.scope.Place.{Place}
use Rattle.typing.specs.declared.scope.Place.TheVariants as places
use Rattle.typing.specs.declared.scope.Meaning.{Meaning}
use Rattle.typing.specs.declared.scope.Port.{Port}
use Rattle.typing.specs.declared.scope.Signature.{Signature}
use Rattle.typing.specs.declared.scope.Instance.{Instance}
use Rattle.typing.specs.Typing.{Reference, by_path, by_value, Scope}
use Rattle.typing.specs.Domains.{value_at}
use Rattle.typing.specs.Variables.{domain_of_variable, judged_variable, initial_of}
use Rattle.typing.specs.declared.next.Next.{Next}
use Rattle.typing.specs.Reached.{reached_order}
use Rattle.typing.specs.Places.{has_cell, first_places, first_place, places_behind}
use Rattle.typing.specs.declared.member.Member.{Member}

abbrev pub may_be_assigned : Role → Bool
may_be_assigned roles.Input = false
may_be_assigned roles.Output = true
may_be_assigned roles.Local = true
may_be_assigned roles.Temporary = true
may_be_assigned roles.Constant = false
may_be_assigned roles.Result = true
may_be_assigned roles.Step = false
may_be_assigned roles.InitialStep = false
may_be_assigned roles.Action = false
may_be_assigned roles.StoredAction = false
may_be_assigned roles.Transition = false

-- what a FUNCTION answers may be assigned, and may not control a FOR
abbrev pub may_control : Role → Bool
may_control roles.Input = false
may_control roles.Output = true
may_control roles.Local = true
may_control roles.Temporary = true
may_control roles.Constant = false
may_control roles.Result = false
may_control roles.Step = false
may_control roles.InitialStep = false
may_control roles.Action = false
may_control roles.StoredAction = false
may_control roles.Transition = false

-- a name has cells, or the value that it begins with, as a constant has
abbrev pub place_at : FileData → ℕ → Variable → Place
place_at f cell v = if has_cell v.role then places.Cell cell else places.Value (initial_of f v)

abbrev pub meaning_of : FileData → ℕ → Variable → Meaning
meaning_of f cell v = record {
  place = place_at f cell v;
  kind = (domain_of_variable f v).kind;
  range = (domain_of_variable f v).range;
  whole = (judged_variable f v).whole;
  assignable = may_be_assigned v.role;
  control = may_control v.role;
}

-- a variable of a POU: the place of its first cell, what it stands for, what it is for, and of an instance its block
abbrev pub member_of : FileData → ℕ → Variable → Member
member_of f cell v = record { cell = cell; meaning = meaning_of f cell v; role = v.role; block = block_of f v }

-- the variables of a POU, from a place on
abbrev pub members_of : FileData → List ℕ → Next → List Variable → List Member
members_of f sizes next [] = []
members_of f sizes next (v ∷ vs) = member_of f (first_place next v) v ∷ members_of f sizes (places_behind f sizes next v) vs

abbrev pub members_in : FileData → List ℕ → PouData → List Member
members_in f sizes p = let vs = variables_in_pou p in members_of f sizes (first_places f sizes p.pou_type vs) vs

-- the variable of a name, among those from a place on
abbrev pub member_among : FileData → List ℕ → List ℕ → Next → List Variable → Option Member
member_among f sizes text next [] = None
member_among f sizes text next (v ∷ vs) =
    if is_of_name text v then Some (member_of f (first_place next v) v) else member_among f sizes text (places_behind f sizes next v) vs

abbrev pub member_in : FileData → List ℕ → List ℕ → PouData → Option Member
member_in f sizes text p = let vs = variables_in_pou p in member_among f sizes text (first_places f sizes p.pou_type vs) vs

-- the variable of a name of the POU of a number
abbrev pub member_at : FileData → List ℕ → ℕ → List ℕ → Option Member
member_at f sizes number text = option_and_then (member_in f sizes text) (pou_at f number)

-- from outside, an instance's inputs may be assigned; its cells stand from the place of the instance on
abbrev pub seen_from : ℕ → Member → Meaning
seen_from cell m = record m.meaning { place = places.Cell (cell + m.cell); assignable = is_input m.role; control = false }

abbrev pub in_instance : FileData → List ℕ → ℕ → Named → Option ℕ → Option Meaning
in_instance f sizes cell n None = None
in_instance f sizes cell n (Some b) = option_map (seen_from cell) (member_at f sizes b n.text)

-- what a path stands for that begins with a variable, or with a step, whose first cell it is then
abbrev pub meant_by : FileData → List ℕ → List Named → Member → Option Meaning
meant_by f sizes [] m = Some m.meaning
meant_by f sizes (n ∷ ns) m = if is_step m.role then Some m.meaning else in_instance f sizes m.cell n m.block

-- a path that begins with no variable may be that of a value
abbrev pub variable_or_value : FileData → List ℕ → List ℕ → List Named → Option Member → Option Meaning
variable_or_value f sizes text members None = value_at f (standing f text)
variable_or_value f sizes text members (Some m) = meant_by f sizes members m

abbrev pub named_in : FileData → List ℕ → ℕ → Reference → Option Meaning
named_in f sizes number (by_path p) = variable_or_value f sizes p.first.text p.members (member_at f sizes number p.first.text)
named_in f sizes number (by_value n) = value_at f (standing f n.text)

-- FUNCTIONs and FUNCTION_BLOCKs may be called
abbrev pub may_be_called : Option PouTypeData → Bool
may_be_called None = false
may_be_called (Some (function t)) = true
may_be_called (Some function_block) = true
may_be_called (Some program) = false

-- those that are reached, in the order in which each stands behind those that it uses
unfoldable pub called_order : FileData → List ℕ
called_order f = filter (λ k. may_be_called (pou_type_at f k)) (reached_order f)

-- the numbers that POUs have among those that may be called, which are counted from a number on
abbrev pub numbered : List ℕ → ℕ → List ℕ → List ℕ
numbered numbers n [] = numbers
numbered numbers n (k ∷ ks) = numbered (slice_set numbers k n) (n + 1) ks

unfoldable pub numbers_of : FileData → List ℕ
numbers_of f = numbered (replicate (length (pous_of f)) 0) 0 (called_order f)

abbrev pub called_number : FileData → ℕ → ℕ
called_number f number = slice_index_or (numbers_of f) number 0

abbrev pub port_of : Member → Port
port_of m = record { kind = m.meaning.kind; whole = m.meaning.whole }

abbrev pub no_port : Port
no_port = record { kind = Unknown; whole = false }

-- the inputs of a POU in declared order
abbrev pub ports_of : List Member → List Port
ports_of ms = map port_of (filter (λ m. is_input m.role) ms)

-- what a FUNCTION answers: its own name is its first variable
abbrev pub result_of : List Member → Port
result_of [] = no_port
result_of (m ∷ ms) = port_of m

abbrev pub members_if : FileData → List ℕ → Option PouData → List Member
members_if f sizes None = []
members_if f sizes (Some p) = members_in f sizes p

abbrev pub members_at : FileData → List ℕ → ℕ → List Member
members_at f sizes number = members_if f sizes (pou_at f number)

abbrev pub signature_of : FileData → List ℕ → ℕ → Signature
signature_of f sizes number = record {
  function = number;
  number = called_number f number;
  result = result_of (members_at f sizes number);
  count = length (ports_of (members_at f sizes number));
}

abbrev pub is_function : PouTypeData → Bool
is_function (function t) = true
is_function function_block = false
is_function program = false

-- the FUNCTION that a name stands for, by its number
abbrev pub function_number : FileData → Option Standing → Option ℕ
function_number f s = option_and_then (number_if f is_function) (pou_number s)

abbrev pub signature_at : FileData → List ℕ → List ℕ → Option Signature
signature_at f sizes text = option_map (signature_of f sizes) (function_number f (standing f text))

-- the inputs of a FUNCTION stand behind FAULT and what it answers
abbrev pub place_of_input : Member → Option ℕ
place_of_input m = if is_input m.role then Some (m.cell - 2) else None

abbrev pub instance_of : FileData → Member → Option Instance
instance_of f m = option_map (λ b. record { block = called_number f b; offset = m.cell }) m.block

-- The scope of the body of a POU, by its number, where blocks have some sizes. The inputs of a FUNCTION stand before all instances, so of
-- their places no sizes are asked.
abbrev pub scope_of : FileData → List ℕ → ℕ → Scope
scope_of f sizes number = record {
  means = named_in f sizes number;
  signature = signature_at f sizes;
  port = λ function place. slice_get (ports_of (members_at f sizes function)) place;
  input = λ function text. option_and_then place_of_input (member_at f [] function text);
  instance = λ text. option_and_then (instance_of f) (member_at f sizes number text);
}
