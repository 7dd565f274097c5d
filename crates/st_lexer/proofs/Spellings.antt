-- How the pieces of a text go on.
use Rattle.std.proofs.Common.{◌≡◌, ℕ, ◌+◌, List, [], ◌∷◌, ◌++◌, length, take, drop, refl, sym, ap, ◌∙◌, subst, append_assoc, append-nil, arith}
use Rattle.std.proofs.lemmas.List.{length-take-le}
use Rattle.source_tree.specs.declared.token.TokenClass.{TokenClass}
use Rattle.source_tree.specs.Tokens.{Piece, gap, token, Lexeme, Begins, AreJoined, lexemes, Spells, mark_len}
use Rattle.st_lexer.specs.declared.front.Front.TheVariants.{Gap, Token}
use Rattle.st_lexer.specs.Fronts.{front_of}
use Rattle.st_lexer.proofs.Beginnings.{IsFront, begins, begins_once, no_front}

-- a text from a place on spells these tokens
abbrev pub SpellsFrom : ℕ → List ℕ → List Lexeme → Type 0
SpellsFrom at text ts = (pieces : List Piece) × AreJoined text pieces × (ts ≡ lexemes at pieces)

-- the token at the front
abbrev pub front_token : TokenClass → ℕ → List ℕ → ℕ → Lexeme
front_token class n text at = record { class = class; slice = take n text; at = at }

pub gap_on : (at n : ℕ) (text : List ℕ) (ts : List Lexeme) → IsFront text (Gap n) → SpellsFrom (at + n) (drop n text) ts → SpellsFrom at text ts
gap_on at n text ts f (ps, joined, e) =
    let size : n ≡ length (take n text) = sym (length-take-le n text f.within) in
    (gap (take n text) ∷ ps, (drop n text, begins text (Gap n) f, joined), e ∙ ap (λ k. lexemes (at + k) ps) size)

pub token_on : (at n : ℕ) (class : TokenClass) (text : List ℕ) (ts : List Lexeme) → IsFront text (Token class n) → SpellsFrom (at + n) (drop n text) ts → SpellsFrom at text (front_token class n text at ∷ ts)
token_on at n class text ts f (ps, joined, e) =
    let size : n ≡ length (take n text) = sym (length-take-le n text f.within) in
    (token class (take n text) ∷ ps, (drop n text, begins text (Token class n) f, joined), ap (λ l. front_token class n text at ∷ l) (e ∙ ap (λ k. lexemes (at + k) ps) size))

-- nothing is left
pub done_on : (at : ℕ) (text : List ℕ) → length text ≡ 0 → SpellsFrom at text []
done_on at [] h = ([], refl, refl)
done_on at (b ∷ bs) h = absurd (omega arith)

-- The tokens so far, and then those of what is left, are those of the text.
pub record IsLexed (text : List ℕ) (at : ℕ) (rest : List ℕ) (tokens : List Lexeme) : Type 0 where
  pub on : (ts : List Lexeme) → SpellsFrom at rest ts → Spells text (tokens ++ ts)

pub lexed_start : (text : List ℕ) → IsLexed text (mark_len text) (drop (mark_len text) text) []
lexed_start text = record { on = λ ts s. s }

lexed_gap : (text : List ℕ) (at n : ℕ) (rest : List ℕ) (tokens : List Lexeme) → IsFront rest (Gap n) → IsLexed text at rest tokens → IsLexed text (at + n) (drop n rest) tokens
lexed_gap text at n rest tokens f h = record {
  on = λ ts s. h.on ts (gap_on at n rest ts f s);
}

lexed_token : (text : List ℕ) (at n : ℕ) (class : TokenClass) (rest : List ℕ) (tokens : List Lexeme) → IsFront rest (Token class n) → IsLexed text at rest tokens → IsLexed text (at + n) (drop n rest) (tokens ++ front_token class n rest at ∷ [])
lexed_token text at n class rest tokens f h = record {
  on = λ ts s. subst (Spells text) (sym (append_assoc tokens (front_token class n rest at ∷ []) ts)) (h.on (front_token class n rest at ∷ ts) (token_on at n class rest ts f s));
}

pub lexed_end : (text : List ℕ) (at : ℕ) (rest : List ℕ) (tokens : List Lexeme) → length rest ≡ 0 → IsLexed text at rest tokens → Spells text tokens
lexed_end text at rest tokens z h = subst (Spells text) (append-nil tokens) (h.on [] (done_on at rest z))

-- The same, as the code's steps say it.
pub lexed_gap_at : (text : List ℕ) (at n : ℕ) (rest rest' : List ℕ) (tokens : List Lexeme) → IsFront rest (Gap n) → rest' ≡ drop n rest → IsLexed text at rest tokens → IsLexed text (at + n) rest' tokens
lexed_gap_at text at n rest rest' tokens f e h = subst (λ r. IsLexed text (at + n) r tokens) (sym e) (lexed_gap text at n rest tokens f h)

pub lexed_token_at : (text : List ℕ) (at n : ℕ) (class : TokenClass) (rest rest' slice : List ℕ) (tokens tokens' : List Lexeme) → IsFront rest (Token class n) → rest' ≡ drop n rest → slice ≡ take n rest → tokens' ≡ tokens ++ record { class = class; slice = slice; at = at } ∷ [] → IsLexed text at rest tokens → IsLexed text (at + n) rest' tokens'
lexed_token_at text at n class rest rest' slice tokens tokens' f e s t h =
    let all : tokens' ≡ tokens ++ front_token class n rest at ∷ [] = t ∙ ap (λ x. tokens ++ record { class = class; slice = x; at = at } ∷ []) s in
    subst (λ r. IsLexed text (at + n) r tokens') (sym e) (subst (IsLexed text (at + n) (drop n rest)) (sym all) (lexed_token text at n class rest tokens f h))

no_piece : (text : List ℕ) (p : Piece) (rest : List ℕ) → Begins text p rest → text ≡ [] → ⊥
no_piece text p rest b e = no_front text p rest (ap front_of e) b

-- A text is joined from one list of pieces.
joined_once : (text : List ℕ) (ps qs : List Piece) → AreJoined text ps → AreJoined text qs → ps ≡ qs
joined_once text [] [] h k = refl
joined_once text [] (q ∷ qs) h (s, c, k) = absurd (no_piece text q s c h)
joined_once text (p ∷ ps) [] (r, b, h) k = absurd (no_piece text p r b k)
joined_once text (p ∷ ps) (q ∷ qs) (r, b, h) (s, c, k) =
    let same = begins_once text p q r s b c in
    let rest : ps ≡ qs = joined_once r ps qs h (subst (λ t. AreJoined t qs) (sym same.1) k) in
    let first : p ≡ q = same.0 in
    cc

-- A text spells at most one list of tokens.
pub spells_once : (text : List ℕ) (ts us : List Lexeme) → Spells text ts → Spells text us → ts ≡ us
spells_once text ts us (ps, h, e) (qs, k, f) = e ∙ ap (lexemes (mark_len text)) (joined_once (drop (mark_len text) text) ps qs h k) ∙ sym f
