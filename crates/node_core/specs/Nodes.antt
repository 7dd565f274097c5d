-- What nodes mean. A word has a number: the start words come first, and behind them the nodes in order.
use Rattle.std.specs.Prelude.{◌≡◌, ℕ, ◌+◌, List, [], ◌∷◌, ◌++◌, not, slice_index_or, ℤ, pos, unsigned_abs, if◌then◌else◌}
use Rattle.plc_types.specs.Types.{width_of, wrap_to, in_range}
use Rattle.meaning.specs.Values.{State, number_of, is_truth, is_zero, unary_applied, applied, converted, shifted, lesser, greater}
use Rattle.node_core.specs.declared.node.Node.{Node}
use Rattle.node_core.specs.declared.node.Node.TheVariants.{Constant, Unary, Binary, Convert, Absolute, Minimum, Maximum, Shift, IsZero, Outside, Mux}

-- the value of a node, where each word has a value
abbrev pub node_value : (ℕ → ℤ) → Node → ℤ
node_value val (Constant t v) = v
node_value val (Unary o t a) = unary_applied o t (val a)
node_value val (Binary o t a b) = applied o t (val a) (val b)
node_value val (Convert s t a) = wrap_to t (converted t (val a))
node_value val (Absolute t a) = wrap_to t (pos (unsigned_abs (val a)))
node_value val (Minimum t a b) = lesser (val a) (val b)
node_value val (Maximum t a b) = greater (val a) (val b)
node_value val (Shift s n t a) = wrap_to t (pos (shifted s (width_of t) n (unsigned_abs (val a))))
node_value val (IsZero t a) = number_of (is_zero (val a))
node_value val (Outside t r a) = number_of (not (in_range (val a) r))
node_value val (Mux t c a b) = if is_truth (val c) then val a else val b

-- the words from a number on have these values
abbrev pub WordsAre : (ℕ → ℤ) → ℕ → State → Type 0
WordsAre val word [] = Unit {0}
WordsAre val word (v ∷ vs) = (val word ≡ v) × WordsAre val (word + 1) vs

-- the words from a number on are those of these nodes
abbrev pub NodesHold : (ℕ → ℤ) → ℕ → List Node → Type 0
NodesHold val word [] = Unit {0}
NodesHold val word (x ∷ xs) = (val word ≡ node_value val x) × NodesHold val (word + 1) xs

-- the value of each word, where these words have values
abbrev pub value_in : State → ℕ → ℤ
value_in vs word = slice_index_or vs word (pos 0)

-- the values of all words, given those of the start words: each node in turn takes its value
abbrev pub all_values : State → List Node → State
all_values vs [] = vs
all_values vs (x ∷ xs) = all_values (vs ++ node_value (value_in vs) x ∷ []) xs
