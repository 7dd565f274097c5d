-- What the reader takes from the tokens of a text: a number, the numbers of a row, a row, and the rows of a trace.
use Rattle.std.specs.Prelude.{◌≡◌, ℕ, List, [], ◌∷◌, ◌++◌, length, ℤ, Option, Some, None, option_and_then}
use Rattle.json.specs.Token.{Token}
use Rattle.json.specs.Json as json
use Rattle.json.specs.Json.{Parse, value, items}
use Rattle.serde_json.specs.Data.{Data}
use Rattle.serde_json.specs.Read.{of_json, of_items, converted}
use Rattle.trace_rows.specs.Traces.{number_in, numbers_in, row_in, rows_in, trace_in}

-- what is behind the bracket that opens an array, where one stands
abbrev pub after_begin_array : List Token → Option (List Token)
after_begin_array [] = None
after_begin_array (Token.begin_object ∷ ts) = None
after_begin_array (Token.end_object ∷ ts) = None
after_begin_array (Token.begin_array ∷ ts) = Some ts
after_begin_array (Token.end_array ∷ ts) = None
after_begin_array (Token.key s ∷ ts) = None
after_begin_array (Token.string s ∷ ts) = None
after_begin_array (Token.number s ∷ ts) = None
after_begin_array (Token.boolean b ∷ ts) = None
after_begin_array (Token.null ∷ ts) = None
after_begin_array (Token.bad ∷ ts) = None

-- what a value of the grammar gives, by what its data gives
abbrev pub by_data : {A : Type 0} → (Data → Option A) → json.Json → Option A
by_data f j = option_and_then f (of_json j)

-- how deep a row's numbers and a trace's rows may nest
abbrev pub number_depth : ℕ
number_depth = 125

abbrev pub row_depth : ℕ
row_depth = 126

abbrev pub number_read : List Token → Option (ℤ × List Token)
number_read ts = converted (by_data number_in) (value number_depth ts)

-- the numbers up to the bracket that closes their row; the number bounds the turns
abbrev pub numbers_read : ℕ → List Token → Option (List ℤ × List Token)
numbers_read n ts = converted (λ js. option_and_then numbers_in (of_items js)) (items (value number_depth) n ts)

abbrev pub row_read : ℕ → List Token → Option (List ℤ × List Token)
row_read width ts = converted (by_data (row_in width)) (value row_depth ts)

-- the rows up to the bracket that closes the trace; the number bounds the turns
abbrev pub rows_read : ℕ → ℕ → List Token → Option (List (List ℤ) × List Token)
rows_read width n ts = converted (λ js. option_and_then (rows_in width) (of_items js)) (items (value row_depth) n ts)

-- numbers were read, and stand behind the others
pub record IsAdded (read : Option (List ℤ × List Token)) (old new : List ℤ) (rest : List Token) : Type 0 where
  pub numbers : List ℤ
  pub added : new ≡ old ++ numbers
  pub is_read : read ≡ Some (numbers, rest)
