-- What a line of a finding adds to the counts of what has been saved.
use Rattle.std.specs.Prelude.{ℕ, ◌+◌, ◌-◌, ◌^◌, min, Bool, ◌||◌, if◌then◌else◌, List, length, codes, nat_eq}
use Rattle.std.specs.List.{starts_with}
use Rattle.finding_progress.specs.declared.saved.Saved.{Saved}

-- so many more, where a count stands still at its type's end
abbrev pub more : ℕ → ℕ → ℕ
more count some = min (count + some) (2 ^ 64 - 1)

-- the line answers a query: a row, or the first line of a log
abbrev pub answers_query : List ℕ → Bool
answers_query line = starts_with nat_eq line (codes "SEEN") || (starts_with nat_eq line (codes "PAIR") || (starts_with nat_eq line (codes "LOG") || starts_with nat_eq line (codes "QUERY")))

-- the counts behind one more line
abbrev pub with_line : List ℕ → Saved → Saved
with_line line saved = record {
  drops = if starts_with nat_eq line (codes "DROP") then more saved.drops 1 else saved.drops;
  queries = if answers_query line then more saved.queries 1 else saved.queries;
  derivations = if starts_with nat_eq line (codes "D ") then more saved.derivations 1 else saved.derivations;
  bytes = more saved.bytes (length line);
}
