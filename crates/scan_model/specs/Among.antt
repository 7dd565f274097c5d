-- Candidates by their numbers, from 0.
use Rattle.std.specs.Prelude.{ℕ, List, take, drop}
use Rattle.scan_model.specs.declared.relation.Candidate.{Candidate}

-- so many candidates from a number on
abbrev pub among : ℕ → ℕ → List Candidate → List Candidate
among first count cs = take count (drop first cs)
