use Rattle.std.proofs.Common.{◌≡◌}
use Rattle.reach_search.proofs.trying.find_row.Given as goal

abbrev pub invariant-loop-turn : goal.invariant-loop-turn
invariant-loop-turn l = l.trial ≡ l.initial.trial
