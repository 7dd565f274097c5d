-- How far the reads of files go.
use Rattle.std.specs.Prelude.{ℕ, ◌≤◌, max, List}

-- no read of a file asked for a byte further from its start, but where one had done so before
abbrev pub ReachesAtMost : ℕ → (List ℕ → ℕ) → (List ℕ → ℕ) → Type 0
ReachesAtMost count before now = (name : List ℕ) → now name ≤ max (before name) count
