-- The entries of a POU's table of names: for each name the first variable of that name.
use Rattle.std.specs.Prelude.{ℕ, ◌+◌, List, [], ◌∷◌, Bool, true, Option, Some, None, option_map, ◌-◌, if◌then◌else◌}
use Rattle.naming.specs.declared.slot.Slot.{Slot}
use Rattle.naming.specs.Scopes.{Variable, PouScope, is_of_name, is_fault, is_doubled_among}

-- the first variable of a name, and its number in declared order, where these variables are counted from one on
abbrev pub found : List ℕ → ℕ → List Variable → Option (ℕ × Variable)
found text number [] = None
found text number (v ∷ vs) = if is_of_name text v then Some (number, v) else found text (number + 1) vs

abbrev pub slot_of : Bool → ℕ × Variable → Slot
slot_of doubled f = record { number = f.0; is_doubled = doubled }

-- the slot of a name among variables of a POU, which are counted from 1
abbrev pub slot_among : Bool → List Variable → List ℕ → Option Slot
slot_among has_fault vs text = option_map (slot_of (is_doubled_among has_fault vs text)) (found text 1 vs)

abbrev pub slot_named : PouScope → List ℕ → Option Slot
slot_named p text = slot_among p.has_fault p.variables text

-- the slot of a name once it is declared, again or for the first time
abbrev pub entered : Bool → ℕ → Variable → Option Slot → Slot
entered has_fault number v (Some s) = record s { is_doubled = true }
entered has_fault number v None = slot_of (is_fault has_fault v.name.text) (number, v)

-- the variable of a slot, by its number from 0, where its name is declared once
abbrev pub number_by : Option Slot → Option ℕ
number_by None = None
number_by (Some s) = if s.is_doubled then None else Some (s.number - 1)
