use Rattle.std.proofs.Common.{◌≡◌, drop}
use Rattle.std.specs.List.{list_any}
use Rattle.clause_core.specs.Deletions.{is_literal}
use Rattle.clause_core.proofs.covering.place_behind.Given as goal

abbrev pub invariant-loop-place : goal.invariant-loop-place
invariant-loop-place l = l.from ≡ 0 → list_any (is_literal l.literal) (drop l.place l.clause) ≡ list_any (is_literal l.literal) l.clause
