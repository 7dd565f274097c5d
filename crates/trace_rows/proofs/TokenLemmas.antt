-- A text has at most one token more than it has bytes.
use Rattle.std.proofs.Common.{◌≡◌, ℕ, zero, suc, ◌+◌, ◌≤◌, Bool, true, false, List, [], ◌∷◌, length, refl, arith}
use Rattle.json.specs.Token.{Token, begin_object, end_object, begin_array, end_array, key, string, number, boolean, null, bad}
use Rattle.json.specs.Lex.{Lexeme, token, comma, colon, Class, quote, backslash, operator, space, other, Mode, between, in_word, in_string, in_escape, class, lex_byte, lex, Place, fresh, after_value, after_comma, after_key, begins_colon, may_begin, may_close, if_allowed, place_token, punctuate, tokens}

at_a_byte : (m : Mode) (c : Class) (x : ℕ) (xs : List ℕ) (k : Mode → List Lexeme) (n : ℕ) → ((next : Mode) → length (k next) ≤ n) → length (lex_byte m c x xs k) ≤ suc n
at_a_byte between quote x xs k n h = omega (arith, h in_string)
at_a_byte between backslash x xs k n h = omega (arith, h in_word)
at_a_byte between operator x xs k n h = omega (arith, h between)
at_a_byte between space x xs k n h = omega (arith, h between)
at_a_byte between other x xs k n h = omega (arith, h in_word)
at_a_byte in_word quote x xs k n h = omega (arith, h in_word)
at_a_byte in_word backslash x xs k n h = omega (arith, h in_word)
at_a_byte in_word operator x xs k n h = omega (arith, h between)
at_a_byte in_word space x xs k n h = omega (arith, h between)
at_a_byte in_word other x xs k n h = omega (arith, h in_word)
at_a_byte in_string quote x xs k n h = omega (arith, h between)
at_a_byte in_string backslash x xs k n h = omega (arith, h in_escape)
at_a_byte in_string operator x xs k n h = omega (arith, h in_string)
at_a_byte in_string space x xs k n h = omega (arith, h in_string)
at_a_byte in_string other x xs k n h = omega (arith, h in_string)
at_a_byte in_escape c x xs k n h = omega (arith, h in_string)

lexemes_of : (m : Mode) (xs : List ℕ) → length (lex m xs) ≤ length xs
unfolding lex
lexemes_of m [] = omega arith
lexemes_of m (x ∷ xs) = at_a_byte m (class x) x xs (λ next. lex next xs) (length xs) (λ next. lexemes_of next xs)

allowed : (b : Bool) (t : Token) (k : Place → List Token) (next : Place) (n : ℕ) → length (k next) ≤ suc n → length (if_allowed b t k next) ≤ suc (suc n)
allowed true t k next n h = omega arith
allowed false t k next n h = omega arith

at_a_token : (p : Place) (t : Token) (b : Bool) (k : Place → List Token) (n : ℕ) → ((next : Place) → length (k next) ≤ suc n) → length (place_token p t b k) ≤ suc (suc n)
at_a_token p begin_object b k n h = allowed (may_begin p) begin_object k fresh n (h fresh)
at_a_token p end_object b k n h = allowed (may_close p) end_object k after_value n (h after_value)
at_a_token p begin_array b k n h = allowed (may_begin p) begin_array k fresh n (h fresh)
at_a_token p end_array b k n h = allowed (may_close p) end_array k after_value n (h after_value)
at_a_token p (key s) b k n h = omega arith
at_a_token p (string s) true k n h = allowed (may_begin p) (key s) k after_key n (h after_key)
at_a_token p (string s) false k n h = allowed (may_begin p) (string s) k after_value n (h after_value)
at_a_token p (number s) b k n h = allowed (may_begin p) (number s) k after_value n (h after_value)
at_a_token p (boolean c) b k n h = allowed (may_begin p) (boolean c) k after_value n (h after_value)
at_a_token p null b k n h = allowed (may_begin p) null k after_value n (h after_value)
at_a_token p bad b k n h = omega arith

tokens_of : (p : Place) (ls : List Lexeme) → length (punctuate p ls) ≤ suc (length ls)
unfolding punctuate
tokens_of fresh [] = omega arith
tokens_of after_value [] = omega arith
tokens_of after_comma [] = omega arith
tokens_of after_key [] = omega arith
tokens_of fresh (token t ∷ ls) = at_a_token fresh t (begins_colon ls) (λ next. punctuate next ls) (length ls) (λ next. tokens_of next ls)
tokens_of after_value (token t ∷ ls) = at_a_token after_value t (begins_colon ls) (λ next. punctuate next ls) (length ls) (λ next. tokens_of next ls)
tokens_of after_comma (token t ∷ ls) = at_a_token after_comma t (begins_colon ls) (λ next. punctuate next ls) (length ls) (λ next. tokens_of next ls)
tokens_of after_key (token t ∷ ls) = at_a_token after_key t (begins_colon ls) (λ next. punctuate next ls) (length ls) (λ next. tokens_of next ls)
tokens_of fresh (comma ∷ ls) = omega arith
tokens_of after_value (comma ∷ ls) = omega (arith, tokens_of after_comma ls)
tokens_of after_comma (comma ∷ ls) = omega arith
tokens_of after_key (comma ∷ ls) = omega arith
tokens_of fresh (colon ∷ ls) = omega arith
tokens_of after_value (colon ∷ ls) = omega arith
tokens_of after_comma (colon ∷ ls) = omega arith
tokens_of after_key (colon ∷ ls) = omega (arith, tokens_of fresh ls)

pub few_tokens : (text : List ℕ) → length (tokens text) ≤ length text + 1
few_tokens text = omega (arith, lexemes_of between text, tokens_of fresh (lex between text))
