-- Clauses that stand one behind the other in one list.
use Rattle.std.specs.Prelude.{ℕ, ◌-◌, ◌≤◌, List, map, take, drop}
use Rattle.watched_propagation.specs.declared.arena.Span.{Span}

-- what stands where a span says
abbrev pub span_of : List ℕ → Span → List ℕ
span_of codes s = take (s.end - s.start) (drop s.start codes)

-- the clauses of these spans
abbrev pub clauses_of : List ℕ → List Span → List (List ℕ)
clauses_of codes spans = map (span_of codes) spans

-- the span lies in a list of `n`
pub record IsSpan (n : ℕ) (s : Span) : Type 0 where
  pub ordered : s.start ≤ s.end
  pub within : s.end ≤ n
