use Rattle.std.proofs.Common.{◌≡◌, drop}
use Rattle.source_tree.specs.declared.token.Terminal.TheVariants.{Name}
use Rattle.source_tree.specs.Terminals.{entry_or}
use Rattle.source_tree.specs.SyntaxView.{upper}
use Rattle.st_lexer.specs.Tables.{entries_of_types}
use Rattle.st_lexer.proofs.words.type_or_name.Given as goal

abbrev pub invariant-loop-kind : goal.invariant-loop-kind
invariant-loop-kind l = entry_or Name (entries_of_types (drop l.kind-index l.types)) (upper l.text) ≡ entry_or Name (entries_of_types l.types) (upper l.text)
