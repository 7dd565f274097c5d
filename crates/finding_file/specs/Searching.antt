-- Bytes read ahead, and the line feed that is looked for in them.
use Rattle.std.specs.Prelude.{◌≡◌, ◌≢◌, ℕ, ◌<◌, ◌≤◌, List, length, take, slice_index}
use Rattle.finding_lines.specs.Reading.{LacksFeed}

-- the first line feed stands at that place
pub record IsFirstFeed (bytes : List ℕ) (place : ℕ) : Type 0 where
  pub inside : place < length bytes
  pub feed : slice_index bytes place ≡ 10
  pub before : LacksFeed (take place bytes)

-- of these bytes those before `begin` are done with, and those from there up to `searched` are no line feed
pub record IsSearched (bytes : List ℕ) (begin searched : ℕ) : Type 0 where
  pub order : begin ≤ searched
  pub inside : searched ≤ length bytes
  pub none : (k : ℕ) → begin ≤ k → k < searched → slice_index bytes k ≢ 10
