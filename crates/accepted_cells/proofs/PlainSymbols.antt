-- The names among the symbols of a text have no points: a word has letters, digits and `_` alone.
use Rattle.std.proofs.Common.{◌≡◌, ℕ, ◌+◌, Bool, true, false, not, ◌||◌, if◌then◌else◌, List, [], ◌∷◌, length, map, refl, sym, ap, ◌∙◌, arith, subst}
use Rattle.std.specs.Prelude.{◌==◌, All, bytes_eq, drop}
use Rattle.std.specs.List.{AllByRecursion, list_all, list_any}
use Rattle.std.specs.Char.{to_ascii_uppercase}
use Rattle.std.proofs.lemmas.Bool.{and_parts, false≢true}
use Rattle.std.proofs.lemmas.Bool.Decides.{nat_tests}
use Rattle.std.proofs.lemmas.List.Elements.{All-head, All-tail}
use Rattle.source_tree.specs.declared.token.TokenClass.{TokenClass}
use Rattle.source_tree.specs.declared.token.TokenClass.TheVariants.{Word, Number, Sign}
use Rattle.source_tree.specs.declared.token.Terminal.{Terminal}
use Rattle.source_tree.specs.declared.token.Terminal.TheVariants as terminals
use Rattle.source_tree.specs.declared.token.Tok.{Tok}
use Rattle.source_tree.specs.Bytes.{is_letter, is_word_byte}
use Rattle.source_tree.specs.Tokens.{Lexeme, is_word, Piece, gap, token, is_formed, AreJoined, lexemes, mark_len}
use Rattle.source_tree.specs.Terminals.{Entry, entry_or, signs, terminal_of, IsClassified}
use Rattle.source_tree.specs.Syntax.{Symbol, name, number, truth, elementary, negation, operator, opening, iteration, exit_word, part, mark, left_out}
use Rattle.source_tree.specs.SyntaxView.{upper, symbol_of, symbol, symbols}
use Rattle.st_lexer.specs.Lexing.{lexemes_of}
use Rattle.front_end.specs.Texts.{HasTokens}
use Rattle.found_cells.specs.Names.{HasNoPoint}

-- ---- words

letter_plain : (b : ℕ) → is_letter b ≡ true → (to_ascii_uppercase b == 46) ≡ false
letter_plain b h = grind (arith, nat_tests)

byte_plain : (b : ℕ) → is_word_byte b ≡ true → (to_ascii_uppercase b == 46) ≡ false
byte_plain b h = grind (arith, nat_tests)

plain_before : (c : ℕ) (cs : List ℕ) → (c == 46) ≡ false → HasNoPoint cs → HasNoPoint (c ∷ cs)
plain_before c cs is none = ap (λ (b : Bool). b || list_any (λ d. d == 46) cs) is ∙ none

bytes_plain : (bs : List ℕ) → list_all is_word_byte bs ≡ true → HasNoPoint (map to_ascii_uppercase bs)
bytes_plain [] all = refl
bytes_plain (b ∷ bs) all =
    let parts = and_parts (is_word_byte b) (list_all is_word_byte bs) all in
    plain_before (to_ascii_uppercase b) (map to_ascii_uppercase bs) (byte_plain b parts.0) (bytes_plain bs parts.1)

word_plain : (slice : List ℕ) → is_word slice ≡ true → HasNoPoint (upper slice)
word_plain [] word = absurd (false≢true word)
word_plain (b ∷ bs) word =
    let parts = and_parts (is_letter b) (list_all is_word_byte bs) word in
    plain_before (to_ascii_uppercase b) (map to_ascii_uppercase bs) (letter_plain b parts.0) (bytes_plain bs parts.1)

-- ---- tokens

abbrev is_name : Terminal → Bool
is_name terminals.Name = true
is_name (terminals.Number value) = false
is_name (terminals.Truth value) = false
is_name (terminals.Type kind) = false
is_name terminals.Not = false
is_name (terminals.Operator o) = false
is_name terminals.Open = false
is_name terminals.For = false
is_name terminals.Exit = false
is_name (terminals.Part w) = false
is_name (terminals.Mark m) = false
is_name terminals.LeftOut = false

not_true : (b : Bool) → not b ≡ true → b ≡ false
not_true true h = absurd (false≢true h)
not_true false h = refl

either : (b : Bool) (one other : Terminal) → is_name one ≡ false → is_name other ≡ false → is_name (if b then one else other) ≡ false
either true one other is more = is
either false one other is more = more

none_among : (es : List Entry) (text : List ℕ) → list_all (λ e. not (is_name e.1)) es ≡ true → is_name (entry_or terminals.LeftOut es text) ≡ false
none_among [] text none = refl
none_among (e ∷ es) text none =
    let parts = and_parts (not (is_name e.1)) (list_all (λ x. not (is_name x.1)) es) none in
    either (bytes_eq text e.0) e.1 (entry_or terminals.LeftOut es text) (not_true (is_name e.1) parts.0) (none_among es text parts.1)

-- no sign is a name
no_sign : (text : List ℕ) → is_name (entry_or terminals.LeftOut signs text) ≡ false
unfolding signs
no_sign text = none_among signs text refl

name_plain : (class : TokenClass) (slice : List ℕ) → is_formed (token class slice) ≡ true → terminal_of class slice ≡ terminals.Name → HasNoPoint (upper slice)
unfolding terminal_of
name_plain Word slice formed is = word_plain slice formed
name_plain Number slice formed is = absurd (false≢true (ap is_name is))
name_plain Sign slice formed is = absurd (false≢true (sym (no_sign slice) ∙ ap is_name is))

-- a symbol is no name, or one without a point
abbrev pub IsPlain : Symbol → Type 0
IsPlain (name text at) = HasNoPoint text
IsPlain (number value at) = Unit {0}
IsPlain (truth value at) = Unit {0}
IsPlain (elementary kind at) = Unit {0}
IsPlain (negation at) = Unit {0}
IsPlain (operator o at) = Unit {0}
IsPlain (opening at) = Unit {0}
IsPlain (iteration at) = Unit {0}
IsPlain (exit_word at) = Unit {0}
IsPlain (part w at) = Unit {0}
IsPlain (mark m) = Unit {0}
IsPlain (left_out at) = Unit {0}

plain_by : (k : Terminal) (slice : List ℕ) (at : ℕ) → (k ≡ terminals.Name → HasNoPoint (upper slice)) → IsPlain (symbol_of k slice at)
plain_by terminals.Name slice at named = named refl
plain_by (terminals.Number value) slice at named = tt
plain_by (terminals.Truth value) slice at named = tt
plain_by (terminals.Type kind) slice at named = tt
plain_by terminals.Not slice at named = tt
plain_by (terminals.Operator o) slice at named = tt
plain_by terminals.Open slice at named = tt
plain_by terminals.For slice at named = tt
plain_by terminals.Exit slice at named = tt
plain_by (terminals.Part w) slice at named = tt
plain_by (terminals.Mark m) slice at named = tt
plain_by terminals.LeftOut slice at named = tt

symbol_plain : (t : Tok) → is_formed (token t.class t.slice.now) ≡ true → IsClassified t → IsPlain (symbol t)
symbol_plain t formed is = plain_by t.terminal t.slice.now t.at (λ named. name_plain t.class t.slice.now formed (sym is ∙ named))

abbrev IsFormed : Lexeme → Type 0
IsFormed l = is_formed (token l.class l.slice) ≡ true

lexemes_formed : (text : List ℕ) (at : ℕ) (pieces : List Piece) → AreJoined text pieces → AllByRecursion IsFormed (lexemes at pieces)
lexemes_formed text at [] joined = tt
lexemes_formed text at (gap slice ∷ pieces) joined = lexemes_formed joined.0 (at + length slice) pieces joined.2
lexemes_formed text at (token class slice ∷ pieces) joined = (joined.1.formed, lexemes_formed joined.0 (at + length slice) pieces joined.2)

all_plain : (ts : List Tok) → AllByRecursion IsFormed (lexemes_of ts) → All IsClassified ts → AllByRecursion IsPlain (symbols ts)
all_plain [] formed classified = tt
all_plain (t ∷ ts) formed classified = (symbol_plain t formed.0 (All-head IsClassified t ts classified), all_plain ts formed.1 (All-tail IsClassified t ts classified))

pub symbols_plain : (text : List ℕ) (ts : List Tok) → HasTokens text ts → AllByRecursion IsPlain (symbols ts)
symbols_plain text ts h =
    let spelled = h.spelled in
    let formed = lexemes_formed (drop (mark_len text) text) (mark_len text) spelled.0 spelled.1 in
    all_plain ts (subst (λ (ls : List Lexeme). AllByRecursion IsFormed ls) (sym spelled.2) formed) h.classified
