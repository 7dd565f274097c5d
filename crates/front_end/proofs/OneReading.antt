-- A text has one reading: its tokens spell the same, and it is one file or breaks one rule first.
use Rattle.std.proofs.Common.{◌≡◌, ◌⊎◌, ◌<◌, ℕ, List, [], ◌∷◌, map, refl, sym, ap, ◌∙◌, arith, inl, inr}
use Rattle.std.specs.Prelude.{All}
use Rattle.std.proofs.lemmas.List.Elements.{All-head, All-tail}
use Rattle.source_tree.specs.declared.token.Tok.{Tok}
use Rattle.rules.specs.declared.rule.Refusal.{Refusal}
use Rattle.rules.specs.Rules.{IsSame}
use Rattle.source_tree.specs.Tokens.{Lexeme}
use Rattle.source_tree.specs.Terminals.{IsClassified, terminal_of}
use Rattle.source_tree.specs.Syntax.{Symbol, FileData}
use Rattle.source_tree.specs.SyntaxView.{symbol_of}
use Rattle.st_lexer.specs.Lexing.{lexeme_of, lexemes_of}
use Rattle.st_lexer.proofs.Spellings.{spells_once}
use Rattle.grammar.specs.Same.{placed_symbol, AreSameTokens}
use Rattle.token_rules.proofs.SameTokens.{same_symbols, sound_or_broken, one_first_fault}
use Rattle.file_laws.proofs.FileWhole.{one_file}
use Rattle.front_end.specs.Texts.{HasTokens, HasNoTokens, too_long, by_token, HasTree, HasNoTree, by_tokens, by_nesting, by_grammar}

-- ---- tokens

-- what a lexeme is for the grammar, and its place
abbrev placed_lexeme : Lexeme → Symbol × ℕ
placed_lexeme l = (symbol_of (terminal_of l.class l.slice) l.slice l.at, l.at)

placed_token : (t : Tok) → IsClassified t → placed_symbol t ≡ placed_lexeme (lexeme_of t)
placed_token t h = ap (λ k. (let p : Symbol × ℕ = (symbol_of k t.slice.now t.at, t.at) in p)) h

placed_tokens : (ts : List Tok) → All IsClassified ts → map placed_symbol ts ≡ map placed_lexeme (lexemes_of ts)
placed_tokens [] h = refl
placed_tokens (t ∷ ts) h =
    let first = placed_token t (All-head IsClassified t ts h) in
    let rest = placed_tokens ts (All-tail IsClassified t ts h) in
    cc

-- the tokens of a text spell the same
pub same_tokens : (text : List ℕ) (ts us : List Tok) → HasTokens text ts → HasTokens text us → AreSameTokens ts us
same_tokens text ts us h k =
    placed_tokens ts h.classified ∙ ap (map placed_lexeme) (spells_once text (lexemes_of ts) (lexemes_of us) h.spelled k.spelled) ∙ sym (placed_tokens us k.classified)

pub no_tokens_too : (text : List ℕ) (ts : List Tok) (r : Refusal) → HasTokens text ts → HasNoTokens text r → ⊥
no_tokens_too text ts r h (too_long long e) = let short = h.short in omega arith
no_tokens_too text ts r h (by_token short first) = h.sound r.rule r.at first.broken

-- of two first rules neither is broken behind the other
first_once : (r s : Refusal) → (r.at < s.at) ⊎ ((r.at ≡ s.at) × (r.rule ≡ s.rule)) → (s.at < r.at) ⊎ ((s.at ≡ r.at) × (s.rule ≡ r.rule)) → r ≡ s
first_once r s (inl h) (inl k) = absurd (omega arith)
first_once r s (inl h) (inr k) = absurd (omega (arith, k.0))
first_once r s (inr h) k = λ j. record { rule = h.1 j; at = h.0 j }

pub one_no_tokens : (text : List ℕ) (r s : Refusal) → HasNoTokens text r → HasNoTokens text s → r ≡ s
one_no_tokens text r s (too_long long e) (too_long other f) = e ∙ sym f
one_no_tokens text r s (too_long long e) (by_token short first) = absurd (omega arith)
one_no_tokens text r s (by_token short first) (too_long long e) = absurd (omega arith)
one_no_tokens text r s (by_token short first) (by_token also other) = first_once r s (first.others s.rule s.at other.broken) (other.others r.rule r.at first.broken)

-- ---- files

pub one_tree : (text : List ℕ) (f g : FileData) → HasTree text f → HasTree text g → f ≡ g
one_tree text f g h k =
    one_file f g h.levelled k.levelled (sym h.printed ∙ same_symbols h.toks k.toks (same_tokens text h.toks k.toks h.tokens k.tokens) ∙ k.printed)

pub no_tree_too : (text : List ℕ) (f : FileData) (r : Refusal) → HasTree text f → HasNoTree text r → ⊥
no_tree_too text f r h (by_tokens none) = no_tokens_too text h.toks r h.tokens none
no_tree_too text f r h (by_nesting us k first) = sound_or_broken h.toks us r (same_tokens text h.toks us h.tokens k) h.sound first
no_tree_too text f r h (by_grammar us k sound none rule) = none f (same_symbols us h.toks (same_tokens text us h.toks k h.tokens) ∙ h.printed) h.levelled

pub one_no_tree : (text : List ℕ) (r s : Refusal) → HasNoTree text r → HasNoTree text s → IsSame r s
one_no_tree text r s (by_tokens h) (by_tokens k) = inl (one_no_tokens text r s h k)
one_no_tree text r s (by_tokens h) (by_nesting us k first) = absurd (no_tokens_too text us r k h)
one_no_tree text r s (by_tokens h) (by_grammar us k sound none rule) = absurd (no_tokens_too text us r k h)
one_no_tree text r s (by_nesting ts h first) (by_tokens k) = absurd (no_tokens_too text ts s h k)
one_no_tree text r s (by_nesting ts h first) (by_nesting us k other) = inl (one_first_fault ts us r s (same_tokens text ts us h k) first other)
one_no_tree text r s (by_nesting ts h first) (by_grammar us k sound none rule) = absurd (sound_or_broken us ts r (same_tokens text us ts k h) sound first)
one_no_tree text r s (by_grammar ts h sound none rule) (by_tokens k) = absurd (no_tokens_too text ts s h k)
one_no_tree text r s (by_grammar ts h sound none rule) (by_nesting us k first) = absurd (sound_or_broken ts us s (same_tokens text ts us h k) sound first)
one_no_tree text r s (by_grammar ts h sound none rule) (by_grammar us k also empty same) = inr (rule, same)
