-- What the tokens in memory and a fault stand for.
use Rattle.std.specs.Prelude.{ℕ, List, map}
use Rattle.source_tree.specs.declared.token.Tok.{Tok}
use Rattle.source_tree.specs.Tokens.{Lexeme}
use Rattle.rules.specs.declared.fault.Fault.{Fault}
use Rattle.rules.specs.declared.fault.Fault.TheVariants.{Refused, Memory}
use Rattle.st_lexer.specs.Parts.{IsFirstInText}

abbrev pub lexeme_of : Tok → Lexeme
lexeme_of t = record { class = t.class; slice = t.slice.now; at = t.at }

abbrev pub lexemes_of : List Tok → List Lexeme
lexemes_of ts = map lexeme_of ts

-- a refusal names the first rule that a text breaks, and its place
abbrev pub IsRightFault : List ℕ → Fault → Type 0
IsRightFault text (Refused refusal) = IsFirstInText text refusal.rule refusal.at
IsRightFault text Memory = Unit {0}
