use Rattle.std.proofs.Common.{ℕ, ◌<◌, length, subst}
use Rattle.std.specs.List.{Contains}
use Rattle.watched_propagation.specs.Watching.{below_level}
use Rattle.watched_propagation.proofs.adding.may_learn.Goals as goal

pub returns-then-is_open : goal.returns-then-is_open
returns-then-is_open c = λ yes. record {
  first = c.is_open.ensures.free c.if-is_open.true;
  second = subst (λ z. (j : ℕ) → j < length c.args.trail.now.starts → Contains (below_level c.args.trail.now j) z → ⊥) c.negated.ensures (c.is_of_last_level.ensures.level yes);
  rising = c.is_of_last_level.ensures.rising;
}
