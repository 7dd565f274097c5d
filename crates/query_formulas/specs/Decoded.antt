-- What a solution of a query's formula stands for: each word is read as a number of its cell's type.
use Rattle.std.specs.Prelude.{ℕ, Bool, List, [], ◌∷◌, map, take}
use Rattle.plc_types.specs.declared.elementary.Elementary.{Elementary}
use Rattle.meaning.specs.Values.{State}
use Rattle.scan_model.specs.InRange.{Row}
use Rattle.scan_model.specs.Pairs.{Pair}
use Rattle.queries.specs.Comparisons.{Comparison}
use Rattle.queries.specs.Questions.{QueryData, first, step, goal, deep, walk}
use Rattle.queries.specs.Meaning.{Answers}
use Rattle.queries.specs.declared.decoded.Decoded.{Decoded}
use Rattle.node_circuits.specs.NodeWords.{Words}
use Rattle.node_circuit_laws.specs.WordValues.{values_of}
use Rattle.query_formulas.specs.declared.shapes.CellShape.{CellShape}
use Rattle.query_formulas.specs.Parts.{Parts}
use Rattle.query_formulas.specs.Products.{Product, product_of}
use Rattle.query_formulas.specs.Breaks.{ScanLiterals, Breaks, breaks_of}

-- a pair, and rows from it on
pub record DecodedData : Type 0 where
  pub pair : Pair
  pub rows : List Row

abbrev pub decoded_view : Decoded → DecodedData
decoded_view d = record { pair = record { old = d.old.items; new = d.new.items }; rows = d.rows.items }

-- it is an answer to a query
abbrev pub IsAnswer : Comparison → QueryData → DecodedData → Type 0
IsAnswer c q d = Answers c q d.pair d.rows

-- ---- numbers

abbrev pub types_of : List CellShape → List Elementary
types_of cells = map (λ c. c.kind) cells

-- the numbers that the words of cells spell where the variables have these values
abbrev pub decoded_state : List CellShape → Words → (ℕ → Bool) → State
decoded_state cells words values = values_of values (types_of cells) words

-- the numbers that cells begin with
abbrev pub first_state : List CellShape → State
first_state cells = map (λ c. c.initial) cells

-- ---- by query

-- a pair and one row
abbrev pub product_decoded : Parts → Product → (ℕ → Bool) → DecodedData
product_decoded parts p values =
    let pair : Pair = record { old = decoded_state parts.old p.pair.old values; new = decoded_state parts.new p.pair.new values } in
    record { pair = pair; rows = decoded_state parts.lines p.inputs values ∷ [] }

-- the start, and the rows of so many scans
abbrev pub scans_decoded : Parts → List ScanLiterals → ℕ → (ℕ → Bool) → DecodedData
scans_decoded parts ss scans values =
    let pair : Pair = record { old = first_state parts.old; new = first_state parts.new } in
    record { pair = pair; rows = map (λ s. decoded_state parts.lines s.inputs values) (take scans ss) }

abbrev pub decoded : Parts → Product → Breaks → QueryData → (ℕ → Bool) → DecodedData
decoded parts p b first values = scans_decoded parts b.scans 1 values
decoded parts p b (step set) values = product_decoded parts p values
decoded parts p b (goal set) values = product_decoded parts p values
decoded parts p b (deep scans) values = scans_decoded parts b.scans scans values
decoded parts p b (walk rows) values = scans_decoded parts b.scans rows values

-- by the circuits of at most so many gates
abbrev pub decoded_of : Parts → ℕ → QueryData → (ℕ → Bool) → DecodedData
decoded_of parts limit q values = decoded parts (product_of parts limit) (breaks_of parts limit) q values
