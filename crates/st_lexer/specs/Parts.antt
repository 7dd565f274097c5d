-- A text as parts, all of it, and the rules that they break.
use Rattle.std.specs.Prelude.{◌≡◌, ◌<◌, ℕ, ◌+◌, ◌^◌, ◌⊎◌, nat_le, nat_lt, List, [], ◌∷◌, drop, length, slice_index, Bool, true, false, Option, Some, None, if◌then◌else◌}
use Rattle.source_tree.specs.declared.token.TokenClass.TheVariants.{Word, Number, Sign}
use Rattle.source_tree.specs.Tokens.{Lexeme, Piece, gap, token, slice_of, Begins, is_block_opening, mark_len}
use Rattle.rules.specs.declared.rule.Rule.{Rule}
use Rattle.rules.specs.declared.rule.Rule.TheVariants.{StrayByte, OpenComment, NumberForm, NumberSize, WordLength}
use Rattle.source_tree.specs.Numbers.{value_of}

-- a part of a text: a gap or a token; a byte that begins neither; or a comment that is not closed
pub data Part : Type 0 where
  proper : Piece → Part
  stray : ℕ → Part
  unclosed : List ℕ → Part

abbrev pub bytes_of : Part → List ℕ
bytes_of (proper piece) = slice_of piece
bytes_of (stray b) = b ∷ []
bytes_of (unclosed slice) = slice

abbrev pub opens_block : List ℕ → Bool
opens_block text = is_block_opening (slice_index text 0) (slice_index text 1)

-- no gap and no token stands at the front
abbrev pub IsStuck : List ℕ → Type 0
IsStuck text = (piece : Piece) (rest : List ℕ) → Begins text piece rest → ⊥

-- A text begins with a part and goes on with a rest: with a gap or a token where one fits; else with a comment to the end of the text, where one opens; else with one byte.
abbrev pub Starts : List ℕ → Part → List ℕ → Type 0
Starts text (proper piece) rest = Begins text piece rest
Starts text (stray b) rest = (text ≡ b ∷ rest) × (opens_block text ≡ false) × IsStuck text
Starts text (unclosed slice) rest = (text ≡ slice) × (rest ≡ []) × (opens_block text ≡ true) × IsStuck text

-- a text is these parts, one after the other
abbrev pub IsCut : List ℕ → List Part → Type 0
IsCut text [] = text ≡ []
IsCut text (part ∷ parts) = (rest : List ℕ) × Starts text part rest × IsCut rest parts

-- a number needs one of the forms, and a value below 2^64
abbrev pub number_rule : Option ℕ → Option Rule
number_rule None = Some NumberForm
number_rule (Some value) = if nat_lt value (2 ^ 64) then None else Some NumberSize

-- the rule that a gap or a token breaks; a word has at most 64 characters
abbrev pub piece_rule : Piece → Option Rule
piece_rule (gap slice) = None
piece_rule (token Word slice) = if nat_le (length slice) 64 then None else Some WordLength
piece_rule (token Number slice) = number_rule (value_of slice)
piece_rule (token Sign slice) = None

-- a token that breaks no rule
abbrev pub KeepsRules : Lexeme → Type 0
KeepsRules l = piece_rule (token l.class l.slice) ≡ None

-- the rule that a part breaks
abbrev pub broken_rule : Part → Option Rule
broken_rule (proper piece) = piece_rule piece
broken_rule (stray b) = Some StrayByte
broken_rule (unclosed slice) = Some OpenComment

-- among parts, of which the first stands at a place, one at another place breaks a rule
abbrev pub BreaksFrom : ℕ → List Part → Rule → ℕ → Type 0
BreaksFrom from [] rule at = ⊥
BreaksFrom from (part ∷ parts) rule at = ((from ≡ at) × (broken_rule part ≡ Some rule)) ⊎ BreaksFrom (from + length (bytes_of part)) parts rule at

-- behind a mark, a part of a text at a place breaks a rule
abbrev pub IsBroken : List ℕ → Rule → ℕ → Type 0
IsBroken text rule at = (parts : List Part) × IsCut (drop (mark_len text) text) parts × BreaksFrom (mark_len text) parts rule at

-- no part of a text breaks a rule
abbrev pub IsSoundText : List ℕ → Type 0
IsSoundText text = (rule : Rule) (at : ℕ) → IsBroken text rule at → ⊥

-- the first rule that a text breaks: each other one is broken behind it
pub record IsFirstInText (text : List ℕ) (rule : Rule) (at : ℕ) : Type 0 where
  pub broken : IsBroken text rule at
  pub others : (other : Rule) (place : ℕ) → IsBroken text other place → (at < place) ⊎ ((at ≡ place) × (rule ≡ other))
