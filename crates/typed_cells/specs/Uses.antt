-- What the body of a POU may use of what its names stand for: of an instance its inputs and outputs, and the FUNCTIONs that the POU calls.
use Rattle.std.specs.Prelude.{ℕ, List, [], ◌∷◌, Bool, true, Option, Some, None}
use Rattle.call_order.specs.Uses.{uses_at, is_among}
use Rattle.source_tree.specs.Syntax.{Named, FileData}
use Rattle.naming.specs.Circles.{uses_of}
use Rattle.naming.specs.FileScope.{standing}
use Rattle.naming.specs.Scopes.{Variable, is_seen, block_of, variable_named}
use Rattle.typing.specs.Typing.{Reference, by_path, by_value}
use Rattle.typing.specs.Places.{variables_at}
use Rattle.typing.specs.Members.{function_number}
use Rattle.typed_scopes.specs.Uses.{Usable}

-- a variable is seen from outside; of a name that is that of none nothing is said
abbrev pub is_seen_variable : Option Variable → Bool
is_seen_variable None = true
is_seen_variable (Some v) = is_seen v.role

-- a name behind an instance of a block
abbrev pub is_seen_member : FileData → Named → Option ℕ → Bool
is_seen_member f n None = true
is_seen_member f n (Some b) = is_seen_variable (variable_named n.text (variables_at f b))

-- names behind a variable
abbrev pub are_seen_behind : FileData → List Named → Option Variable → Bool
are_seen_behind f ns None = true
are_seen_behind f [] (Some v) = true
are_seen_behind f (n ∷ ns) (Some v) = is_seen_member f n (block_of f v)

abbrev pub is_seen_by : FileData → ℕ → Reference → Bool
is_seen_by f k (by_path p) = are_seen_behind f p.members (variable_named p.first.text (variables_at f k))
is_seen_by f k (by_value n) = true

-- a FUNCTION is one that a POU calls
abbrev pub is_called_by : FileData → ℕ → Option ℕ → Bool
is_called_by f k None = true
is_called_by f k (Some number) = is_among number (uses_at (uses_of f) k)

-- what the body of the POU of a number may use
abbrev pub uses_of_pou : FileData → ℕ → Usable
uses_of_pou f k = record { names = is_seen_by f k; functions = λ text. is_called_by f k (function_number f (standing f text)) }
