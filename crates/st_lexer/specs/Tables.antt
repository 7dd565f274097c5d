-- Tables of words.
use Rattle.std.specs.Prelude.{ℕ, List, slice_index, map, filter, ◌==◌}
use Rattle.std.specs.Borrow.{Bor}
use Rattle.plc_types.specs.declared.elementary.Elementary.{Elementary}
use Rattle.plc_types.specs.Types.{type_name}
use Rattle.source_tree.specs.declared.token.Terminal.{Terminal}
use Rattle.source_tree.specs.declared.token.Terminal.TheVariants as terminals
use Rattle.source_tree.specs.SyntaxView.{upper}
use Rattle.source_tree.specs.Terminals.{Entry}

-- the entries of a table in memory, in upper case
abbrev pub entries_of : List (Bor (List ℕ) × Terminal) → List Entry
entries_of es = map (λ e. (upper e.0.now, e.1)) es

-- the entries of elementary types, in upper case
abbrev pub entries_of_types : List Elementary → List Entry
entries_of_types ts = map (λ t. (upper (type_name t), terminals.Type t)) ts

-- the entries whose texts begin with a character
abbrev pub beginning_with : ℕ → List Entry → List Entry
beginning_with b es = filter (λ e. slice_index e.0 0 == b) es
