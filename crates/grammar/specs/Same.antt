-- Tokens that spell the same.
use Rattle.std.specs.Prelude.{◌≡◌, ℕ, List, map}
use Rattle.source_tree.specs.declared.token.Tok.{Tok}
use Rattle.source_tree.specs.Syntax.{Symbol}
use Rattle.source_tree.specs.SyntaxView.{symbol}

-- a token as the grammar sees it, and its place
abbrev pub placed_symbol : Tok → Symbol × ℕ
placed_symbol t = (symbol t, t.at)

-- tokens with the same symbols at the same places
abbrev pub AreSameTokens : List Tok → List Tok → Type 0
AreSameTokens ts us = map placed_symbol ts ≡ map placed_symbol us
