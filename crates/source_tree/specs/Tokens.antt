-- Tokens, and which of them a text spells.
use Rattle.std.specs.Prelude.{◌≡◌, ℕ, ◌+◌, ◌≤◌, List, [], ◌∷◌, ◌++◌, drop, length, slice_index, Bool, true, false, not, ◌&&◌, ◌||◌, ◌==◌, if◌then◌else◌}
use Rattle.std.specs.List.{list_all}
use Rattle.source_tree.specs.declared.token.TokenClass.{TokenClass}
use Rattle.source_tree.specs.declared.token.TokenClass.TheVariants.{Word, Number, Sign}
use Rattle.source_tree.specs.Bytes.{is_blank, is_letter, is_digit, is_word_byte, is_number_byte, is_sign, is_sign_pair}

-- a token: its class, its slice of the text, and the slice's place there
pub record Lexeme : Type 0 where
  pub class : TokenClass
  pub slice : List ℕ
  pub at : ℕ

-- a letter or `_`, then letters, digits and `_`
abbrev pub is_word : List ℕ → Bool
is_word [] = false
is_word (b ∷ bs) = is_letter b && list_all is_word_byte bs

-- a digit, then letters, digits, `_` and `#`
abbrev pub is_number : List ℕ → Bool
is_number [] = false
is_number (b ∷ bs) = is_digit b && list_all is_number_byte bs

-- a sign of one or two characters
abbrev pub is_sign_text : List ℕ → Bool
is_sign_text [] = false
is_sign_text (b ∷ []) = is_sign b
is_sign_text (b ∷ c ∷ []) = is_sign_pair b c
is_sign_text (b ∷ c ∷ d ∷ bs) = false

-- `(*` and `//` begin a comment
abbrev pub is_block_opening : ℕ → ℕ → Bool
is_block_opening b c = b == 40 && c == 42

abbrev pub is_line_opening : ℕ → ℕ → Bool
is_line_opening b c = b == 47 && c == 47

-- `*)` closes a comment
abbrev pub is_closing : ℕ → ℕ → Bool
is_closing b c = b == 42 && c == 41

-- the first `*)` is the end
abbrev pub ends_closed : List ℕ → Bool
ends_closed [] = false
ends_closed (b ∷ bs) = if is_closing b (slice_index bs 0) then length bs == 1 else ends_closed bs

-- a byte that ends no line
abbrev pub is_in_line : ℕ → Bool
is_in_line b = not (b == 10)

-- a blank; or a comment, from `(*` to the next `*)`, or from `//` on in its line
abbrev pub is_gap : List ℕ → Bool
is_gap [] = false
is_gap (b ∷ []) = is_blank b
is_gap (b ∷ c ∷ bs) = is_block_opening b c && ends_closed bs || is_line_opening b c && list_all is_in_line bs

-- a piece of a text: a gap, or the slice of a token
pub data Piece : Type 0 where
  gap : List ℕ → Piece
  token : TokenClass → List ℕ → Piece

abbrev pub slice_of : Piece → List ℕ
slice_of (gap slice) = slice
slice_of (token class slice) = slice

-- a piece is of its own form
abbrev pub is_formed : Piece → Bool
is_formed (gap slice) = is_gap slice
is_formed (token Word slice) = is_word slice
is_formed (token Number slice) = is_number slice
is_formed (token Sign slice) = is_sign_text slice

abbrev pub is_gap_piece : Piece → Bool
is_gap_piece (gap slice) = true
is_gap_piece (token class slice) = false

abbrev pub opens_comment : List ℕ → Bool
opens_comment text = is_block_opening (slice_index text 0) (slice_index text 1) || is_line_opening (slice_index text 0) (slice_index text 1)

-- A text begins with a piece, the longest that fits, and goes on with a rest. What opens a comment begins a gap.
pub record Begins (text : List ℕ) (piece : Piece) (rest : List ℕ) : Type 0 where
  pub joined : text ≡ slice_of piece ++ rest
  pub formed : is_formed piece ≡ true
  pub longest : (other : Piece) (behind : List ℕ) → text ≡ slice_of other ++ behind → is_formed other ≡ true → length (slice_of other) ≤ length (slice_of piece)
  pub comment : opens_comment text ≡ true → is_gap_piece piece ≡ true

-- a text is these pieces, one after the other
abbrev pub AreJoined : List ℕ → List Piece → Type 0
AreJoined text [] = text ≡ []
AreJoined text (piece ∷ pieces) = (rest : List ℕ) × Begins text piece rest × AreJoined rest pieces

-- the tokens among pieces, of which the first stands at a place
abbrev pub lexemes : ℕ → List Piece → List Lexeme
lexemes at [] = []
lexemes at (gap slice ∷ pieces) = lexemes (at + length slice) pieces
lexemes at (token class slice ∷ pieces) = record { class = class; slice = slice; at = at } ∷ lexemes (at + length slice) pieces

-- how long a UTF-8 mark at the front of a text is
abbrev pub mark_len : List ℕ → ℕ
mark_len text = if slice_index text 0 == 239 && slice_index text 1 == 187 && slice_index text 2 == 191 then 3 else 0

-- a text spells these tokens: behind a mark it is gaps and their slices, one after the other
abbrev pub Spells : List ℕ → List Lexeme → Type 0
Spells text tokens = (pieces : List Piece) × AreJoined (drop (mark_len text) text) pieces × (tokens ≡ lexemes (mark_len text) pieces)
