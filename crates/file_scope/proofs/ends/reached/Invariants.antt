use Rattle.std.proofs.Common.{◌≡◌, ◌<◌, ◌==◌, ◌||◌, ℕ, false, get_or, length, drop}
use Rattle.std.specs.List.{list_any}
use Rattle.file_scope.proofs.ends.reached.Given as goal

abbrev pub invariant-loop-end : goal.invariant-loop-end
invariant-loop-end l = record {
  marked : (t : ℕ) → t < length l.ends → (get_or l.marks.items t false || list_any (λ e. e == t) (drop l.end-index l.ends)) ≡ list_any (λ e. e == t) l.ends;
  len : length l.marks.items ≡ length l.ends;
}
