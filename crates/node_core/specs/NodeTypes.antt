-- The types of words. Each operand of a node is an earlier word, of the type that the node asks for.
use Rattle.std.specs.Prelude.{◌≡◌, ℕ, List, [], ◌∷◌, ◌++◌, Bool, true, false, map, Some, slice_get}
use Rattle.plc_types.specs.declared.elementary.Elementary.{Elementary}
use Rattle.plc_types.specs.declared.elementary.Elementary.TheVariants as types
use Rattle.plc_types.specs.Types.{range_of, is_signed, in_range}
use Rattle.program_tree.specs.OperandTypes.{is_for}
use Rattle.meaning.specs.Values.{result_type}
use Rattle.node_core.specs.declared.node.Node.{Node}
use Rattle.node_core.specs.declared.node.Node.TheVariants.{Constant, Unary, Binary, Convert, Absolute, Minimum, Maximum, Shift, IsZero, Outside, Mux}

-- the type of a node's word
abbrev pub kind_of : Node → Elementary
kind_of (Constant t v) = t
kind_of (Unary o t a) = t
kind_of (Binary o t a b) = result_type o t
kind_of (Convert s t a) = t
kind_of (Absolute t a) = t
kind_of (Minimum t a b) = t
kind_of (Maximum t a b) = t
kind_of (Shift s n t a) = t
kind_of (IsZero t a) = types.Bool
kind_of (Outside t r a) = types.Bool
kind_of (Mux t c a b) = t

-- a word is there, and is of a type
abbrev pub IsWordOf : List Elementary → Elementary → ℕ → Type 0
IsWordOf ts t word = slice_get ts word ≡ Some t

-- a node over words of these types
abbrev pub IsTypedNode : List Elementary → Node → Type 0
IsTypedNode ts (Constant t v) = in_range v (range_of t) ≡ true
IsTypedNode ts (Unary o t a) = IsWordOf ts t a
IsTypedNode ts (Binary o t a b) = (is_for o t ≡ true) × IsWordOf ts t a × IsWordOf ts t b
IsTypedNode ts (Convert s t a) = IsWordOf ts s a
IsTypedNode ts (Absolute t a) = IsWordOf ts t a
IsTypedNode ts (Minimum t a b) = IsWordOf ts t a × IsWordOf ts t b
IsTypedNode ts (Maximum t a b) = IsWordOf ts t a × IsWordOf ts t b
IsTypedNode ts (Shift s n t a) = (is_signed t ≡ false) × IsWordOf ts t a
IsTypedNode ts (IsZero t a) = IsWordOf ts t a
IsTypedNode ts (Outside t r a) = (in_range r.low (range_of t) ≡ true) × (in_range r.high (range_of t) ≡ true) × IsWordOf ts t a
IsTypedNode ts (Mux t c a b) = IsWordOf ts types.Bool c × IsWordOf ts t a × IsWordOf ts t b

-- nodes behind words of these types, each of which is one word more
abbrev pub AreTypedNodes : List Elementary → List Node → Type 0
AreTypedNodes ts [] = Unit {0}
AreTypedNodes ts (x ∷ xs) = IsTypedNode ts x × AreTypedNodes (ts ++ kind_of x ∷ []) xs

-- the types of all words, given those of the start words
abbrev pub all_kinds : List Elementary → List Node → List Elementary
all_kinds ts xs = ts ++ map kind_of xs
