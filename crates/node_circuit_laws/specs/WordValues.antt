-- What the words of nodes are in an assignment of the circuit's variables.
use Rattle.std.specs.Prelude.{◌≡◌, ℕ, Bool, List, [], ◌∷◌, length, map, slice_get, unwrap_or, All, ℤ}
use Rattle.plc_types.specs.declared.elementary.Elementary.{Elementary}
use Rattle.plc_types.specs.declared.elementary.Elementary.TheVariants as types
use Rattle.plc_types.specs.Types.{width_of, is_signed}
use Rattle.meaning.specs.Values.{State}
use Rattle.gates.specs.Netlists.{Netlist, IsExtensionOf}
use Rattle.gates.specs.Order.{IsOrdered}
use Rattle.word_laws.specs.Numbers.{value}
use Rattle.word_orders.specs.Orders.{IsWordOf}
use Rattle.node_circuits.specs.NodeWords.{Words, word_in, MadeWords}

-- each word has the width of its type
abbrev pub HaveWidths : List Elementary → Words → Type 0
HaveWidths ts words = map (λ w. length w) words ≡ map width_of ts

-- the type of the word with a number
abbrev pub type_in : List Elementary → ℕ → Elementary
type_in ts i = unwrap_or (slice_get ts i) types.Bool

-- the value of the word with a number, read as one of its type
abbrev pub value_at : (ℕ → Bool) → List Elementary → Words → ℕ → ℤ
value_at v ts words i = value (is_signed (type_in ts i)) v (word_in words i)

-- the values of words in order, each read as one of its type
abbrev pub values_of : (ℕ → Bool) → List Elementary → Words → State
values_of v [] words = []
values_of v (t ∷ ts) [] = []
values_of v (t ∷ ts) (w ∷ ws) = value (is_signed t) v w ∷ values_of v ts ws

-- the circuit begins with the gates of the one before, each gate of it stands after its operands, and all words are of it
pub record MakesWords (before : Netlist) (made : MadeWords) : Type 0 where
  pub extends : IsExtensionOf before made.net
  pub ordered : IsOrdered made.net
  pub words : All (IsWordOf made.net) made.words
