use Rattle.std.proofs.Common.{◌≡◌, drop}
use Rattle.source_tree.specs.Terminals.{entry_or}
use Rattle.source_tree.specs.SyntaxView.{upper}
use Rattle.st_lexer.specs.Tables.{entries_of}
use Rattle.st_lexer.proofs.words.entry_or.Given as goal

abbrev pub invariant-loop-word : goal.invariant-loop-word
invariant-loop-word l = entry_or l.other (entries_of (drop l.word-index l.table)) (upper l.text) ≡ entry_or l.other (entries_of l.table) (upper l.text)
