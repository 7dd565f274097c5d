-- A trace: a JSON text (RFC 8259) of an array of arrays of whole numbers. A UTF-8 mark may stand before it, as before a program.
use Rattle.std.specs.Prelude.{◌≡◌, ℕ, List, [], ◌∷◌, length, drop, ◌==◌, ℤ, Option, Some, None, option_map, option_and_then, if◌then◌else◌, IsUtf8}
use Rattle.source_tree.specs.Tokens.{mark_len}
use Rattle.serde_json.specs.Data.{Data, Items, no_items, item}
use Rattle.serde_json.specs.Read.{read}
use Rattle.serde_json.specs.Find.{as_array, as_number, as_integer}

-- a whole number of 64 bits, with a sign or without: from -2^63 to 2^64 - 1
abbrev pub number_in : Data → Option ℤ
number_in d = option_and_then as_integer (as_number d)

abbrev pub numbers_in : Items → Option (List ℤ)
numbers_in no_items = Some []
numbers_in (item d ds) = option_and_then (λ z. option_map (λ zs. z ∷ zs) (numbers_in ds)) (number_in d)

-- a row of so many numbers
abbrev pub of_width : ℕ → List ℤ → Option (List ℤ)
of_width width zs = if length zs == width then Some zs else None

abbrev pub row_in : ℕ → Data → Option (List ℤ)
row_in width d = option_and_then (of_width width) (option_and_then numbers_in (as_array d))

abbrev pub rows_in : ℕ → Items → Option (List (List ℤ))
rows_in width no_items = Some []
rows_in width (item d ds) = option_and_then (λ row. option_map (λ rows. row ∷ rows) (rows_in width ds)) (row_in width d)

abbrev pub trace_in : ℕ → Data → Option (List (List ℤ))
trace_in width d = option_and_then (rows_in width) (as_array d)

-- a text behind its mark
abbrev pub unmarked : List ℕ → List ℕ
unmarked text = drop (mark_len text) text

-- a text is a trace of these rows
unfoldable pub IsTrace : ℕ → List ℕ → List (List ℤ) → Type 0
IsTrace width text rows = IsUtf8 (unmarked text) × (option_and_then (trace_in width) (read (unmarked text)) ≡ Some rows)
