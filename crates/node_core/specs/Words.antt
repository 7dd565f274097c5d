-- The words of expressions. Operands are made from left to right, and then the node of what joins them. A division adds a node that tells
-- whether the divisor is 0, and one that adds this to FAULT. Nothing is made twice into one node.
use Rattle.std.specs.Prelude.{ℕ, ◌+◌, List, [], ◌∷◌, ◌++◌, length, Option, None, unwrap_or, slice_index_or, pos, if◌then◌else◌}
use Rattle.plc_types.specs.declared.elementary.Elementary.{Elementary}
use Rattle.plc_types.specs.declared.elementary.Elementary.TheVariants as types
use Rattle.plc_types.specs.declared.function.Function.{Function}
use Rattle.plc_types.specs.declared.function.Function.TheVariants as functions
use Rattle.plc_types.specs.declared.operator.Operator.{Operator}
use Rattle.plc_types.specs.declared.operator.Operator.TheVariants.{Or}
use Rattle.program_tree.specs.Tree.{Expression, number, cell, unary, chain, call_standard, call_function, Operands, no_operands, operand, Expressions, no_expressions, expression}
use Rattle.program_tree.specs.OperandTypes.{first_operand_kind, first_kind}
use Rattle.meaning.specs.Values.{divides}
use Rattle.node_core.specs.declared.node.Node.{Node}
use Rattle.node_core.specs.declared.node.Node.TheVariants.{Constant, Unary, Binary, Convert, Absolute, Minimum, Maximum, Shift, IsZero, Mux}

-- what was made so far: how many start words there are, the nodes, and the word of FAULT
pub record NodeList : Type 0 where
  pub starts : ℕ
  pub nodes : List Node
  pub fault : ℕ

-- a word, and what was made once it is there
pub record Made : Type 0 where
  pub word : ℕ
  pub list : NodeList

pub record AllMade : Type 0 where
  pub words : List ℕ
  pub list : NodeList

-- the word that each place of a cell or a scratch cell holds, where it holds one
abbrev pub Store : Type 0
Store = List (Option ℕ)

abbrev pub word_at : Store → ℕ → ℕ
word_at store place = unwrap_or (slice_index_or store place None) 0

-- a word that is there
abbrev pub taken : ℕ → NodeList → Made
taken word n = record { word = word; list = n }

-- one node more, which is one word more
unfoldable pub made : Node → NodeList → Made
made x n = record { word = n.starts + length n.nodes; list = record { starts = n.starts; nodes = n.nodes ++ x ∷ []; fault = n.fault } }

-- a word is added to FAULT
unfoldable pub faulted : Made → NodeList
faulted m =
    let f = made (Binary Or types.Bool m.list.fault m.word) m.list in
    record { starts = f.list.starts; nodes = f.list.nodes; fault = f.word }

-- an operator joins two words
unfoldable pub joined : Operator → Elementary → ℕ → ℕ → NodeList → Made
joined o t a b n =
    let m = made (Binary o t a b) n in
    if divides o then taken m.word (faulted (made (IsZero t b) m.list)) else m

-- ---- standard functions

-- two words after the other become one, from left to right
abbrev pub folded : (ℕ → ℕ → Node) → ℕ → List ℕ → NodeList → Made
folded x a [] n = taken a n
folded x a (b ∷ bs) n =
    let m = made (x a b) n in
    folded x m.word bs m.list

-- what has not as many operands as it asks for is 0
abbrev pub nothing : Elementary → NodeList → Made
nothing t n = made (Constant t (pos 0)) n

abbrev pub of_one : (ℕ → Node) → Elementary → List ℕ → NodeList → Made
of_one x t (a ∷ []) n = made (x a) n
of_one x t _ n = nothing t n

abbrev pub of_many : (ℕ → ℕ → Node) → Elementary → List ℕ → NodeList → Made
of_many x t [] n = nothing t n
of_many x t (a ∷ as') n = folded x a as' n

-- LIMIT is MIN of the upper limit and the MAX of the value and the lower limit
abbrev pub limited_word : Elementary → List ℕ → NodeList → Made
limited_word t (low ∷ a ∷ high ∷ []) n =
    let m = made (Maximum t a low) n in
    made (Minimum t m.word high) m.list
limited_word t _ n = nothing t n

-- SEL is its third operand where the first is TRUE, and else its second
abbrev pub selected_word : Elementary → List ℕ → NodeList → Made
selected_word t (g ∷ a ∷ b ∷ []) n = made (Mux t g b a) n
selected_word t _ n = nothing t n

-- a function of words
unfoldable pub called_word : Function → Elementary → List ℕ → NodeList → Made
called_word (functions.Convert from) t ws n = of_one (Convert from t) t ws n
called_word functions.Absolute t ws n = of_one (Absolute t) t ws n
called_word functions.Minimum t ws n = of_many (Minimum t) t ws n
called_word functions.Maximum t ws n = of_many (Maximum t) t ws n
called_word functions.Limit t ws n = limited_word t ws n
called_word functions.Select t ws n = selected_word t ws n
called_word (functions.Shift s k) t ws n = of_one (Shift s k t) t ws n

-- ---- expressions

-- The word of an expression whose place asks for a type. No FUNCTION is called in a flat program.
abbrev mutual
  pub word_of : Store → Elementary → Expression → NodeList → Made
  word_of store t (number v) n = made (Constant t v) n
  word_of store t (cell place) n = taken (word_at store place) n
  word_of store t (unary o k e) n =
      let m = word_of store k e n in
      made (Unary o k m.word) m.list
  word_of store t (chain e os) n =
      let m = word_of store (first_kind t os) e n in
      word_on store m.word os m.list
  word_of store t (call_standard f k es) n =
      let m = words_of store (first_operand_kind f k) k es n in
      called_word f k m.words m.list
  word_of store t (call_function f es) n = nothing t n

  -- operands are joined from left to right
  pub word_on : Store → ℕ → Operands → NodeList → Made
  word_on store a no_operands n = taken a n
  word_on store a (operand o k e os) n =
      let m = word_of store k e n in
      let j = joined o k a m.word m.list in
      word_on store j.word os j.list

  -- the first is of one type, and the others of another
  pub words_of : Store → Elementary → Elementary → Expressions → NodeList → AllMade
  words_of store first others no_expressions n = record { words = []; list = n }
  words_of store first others (expression e es) n =
      let m = word_of store first e n in
      let r = words_of store others others es m.list in
      record { words = m.word ∷ r.words; list = r.list }
