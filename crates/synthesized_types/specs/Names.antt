-- Expressions that are names.
use Rattle.std.specs.Prelude.{Option, None}
use Rattle.source_tree.specs.Syntax.{Tree, literal, path, enumerator, paren, unary, chain, call}
use Rattle.typing.specs.declared.scope.Meaning.{Meaning}
use Rattle.typing.specs.Typing.{Scope, by_path, by_value}

-- what a path, or the value of an enumeration, stands for; any other expression stands for nothing
abbrev pub meant : Scope → Tree → Option Meaning
meant scope (literal l) = None
meant scope (path p) = scope.means (by_path p)
meant scope (enumerator t v) = scope.means (by_value v)
meant scope (paren at e) = None
meant scope (unary o at e) = None
meant scope (chain e ls) = None
meant scope (call n at args) = None
