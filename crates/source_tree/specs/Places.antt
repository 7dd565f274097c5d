-- The places of tokens.
use Rattle.std.specs.Prelude.{ℕ, ◌+◌, ◌<◌, ◌≤◌, List, [], ◌∷◌}
use Rattle.source_tree.specs.declared.token.Tok.{Tok}

-- the places of tokens rise, the first is not before a place, and the last is before an end
abbrev pub ArePlaced : ℕ → ℕ → List Tok → Type 0
ArePlaced from end [] = Unit {0}
ArePlaced from end (t ∷ ts) = (from ≤ t.at) × (t.at < end) × ArePlaced (t.at + 1) end ts
