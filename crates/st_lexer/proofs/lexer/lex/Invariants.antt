use Rattle.std.proofs.Common.{◌≡◌, ◌+◌, length, All}
use Rattle.source_tree.specs.Terminals.{IsClassified}
use Rattle.source_tree.specs.Places.{ArePlaced}
use Rattle.st_lexer.specs.Parts.{KeepsRules}
use Rattle.st_lexer.specs.Lexing.{lexemes_of}
use Rattle.st_lexer.proofs.Spellings.{IsLexed}
use Rattle.st_lexer.proofs.Breaks.{IsRead}
use Rattle.st_lexer.proofs.lexer.lex.Given as goal

abbrev pub invariant-loop-rest : goal.invariant-loop-rest
invariant-loop-rest l = record {
  place : l.at + length l.rest ≡ length l.text;
  read : IsRead l.text l.at l.rest;
  kept : All KeepsRules (lexemes_of l.tokens.items);
  classified : All IsClassified l.tokens.items;
  placed : ArePlaced 0 l.at l.tokens.items;
  lexed : IsLexed l.text l.at l.rest (lexemes_of l.tokens.items);
}

abbrev pub decreases-loop-rest : goal.decreases-loop-rest
decreases-loop-rest l = length l.rest
