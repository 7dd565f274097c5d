-- What the code relies on where it goes on from a place.
use Rattle.std.specs.Prelude.{ℕ, ◌+◌, ◌^◌, ◌<◌, ◌≤◌, length}
use Rattle.derivation_check.specs.Checks.{held_of}
use Rattle.queries.specs.Settings.{Setting}
use Rattle.judgement.specs.Places.{Place, at_top, at_header, at_walks, in_walk, at_drops, at_kept, at_deep, at_scans, at_end, finished, in_log, in_query, Moved, goes, fails}

-- the numbers of a setting are small
pub record IsSmall (s : Setting) : Type 0 where
  pub candidates : s.candidates ≤ 4096
  pub depth : s.depth ≤ 64
  pub conflicts : s.conflicts ≤ 1000000

-- behind so many lines no more clauses are held than a checker numbers, and no more rows are spoken of than are searched
abbrev pub HasRoom : Setting → ℕ → Place → Type 0
HasRoom s lines (at_walks rows pair) = rows < s.depth
HasRoom s lines (at_deep reach set none) = none < s.depth
HasRoom s lines (at_scans reach scans more pair) = scans ≤ s.depth
HasRoom s lines (in_log d behind) = (length (held_of d) < 2 ^ 31 + lines) × HasRoom s lines behind
HasRoom s lines (in_query reach asked d left) = length (held_of d) < 2 ^ 31 + lines
HasRoom s lines (in_walk rows d left) = length (held_of d) < 2 ^ 31 + lines
HasRoom s lines at_top = Unit {0}
HasRoom s lines (at_header reach) = Unit {0}
HasRoom s lines (at_drops reach set) = Unit {0}
HasRoom s lines (at_kept reach set) = Unit {0}
HasRoom s lines (at_end reach verdict) = Unit {0}
HasRoom s lines (finished reach verdict) = Unit {0}

abbrev pub HasRoomAfter : Setting → ℕ → Moved → Type 0
HasRoomAfter s lines (goes place) = HasRoom s lines place
HasRoomAfter s lines (fails reason) = Unit {0}
