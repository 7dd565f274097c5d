-- What is kept of the lines before a line.
use Rattle.std.specs.Prelude.{◌≡◌, ◌<◌, ℕ, List, [], ◌∷◌, false, nat_lt, slice_index_or, Option, Some, None, String, string_bytes}
use denote.Ref.{Bor}
use Rattle.indexmap.specs.IndexSet.{IndexSet, contains_text}
use Rattle.source_tree.specs.declared.syntax.Name.{Name}
use Rattle.scan_model.specs.declared.side.Side.TheVariants as sides
use Rattle.relation_lines.specs.Lines.{LineData}
use Rattle.relation_file.specs.declared.ranks.Ranks.{Ranks}
use Rattle.relation_file.specs.declared.seen.Seen.{Seen as Kept}
use Rattle.relation_file.specs.Order.{is_late, has_rank}
use Rattle.candidates.specs.ByPath.{is_among}
use Rattle.relation_file.specs.Inputs.{names_in}

-- the ranks of lines before, nearest first
pub record HasRanks (ranks : Ranks) (before : List LineData) : Type 0 where
  pub late : (rank : ℕ) → is_late rank before ≡ nat_lt rank ranks.above
  pub had : (rank : ℕ) → rank < 8 → has_rank rank before ≡ slice_index_or ranks.had rank false

-- a name's text, where there is one
abbrev pub texts : Option (Bor Name) → List (List ℕ)
texts None = []
texts (Some n) = string_bytes n.now.text ∷ []

-- a set has these names
abbrev pub Lists : {Y S : Type 0} → IndexSet (String Y) S → List (List ℕ) → Type 0
Lists set names = contains_text set ≡ is_among names

pub record Recalls (kept : Kept) (before : List LineData) : Type 0 where
  pub ranks : HasRanks kept.ranks before
  pub of_old : Lists kept.of_old (names_in sides.Old before)
  pub of_new : Lists kept.of_new (names_in sides.New before)
