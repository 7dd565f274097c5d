-- Steps that choose between words, and what they leave in each lane.
use Rattle.std.specs.Prelude.{ℕ, ◌<◌, ◌/◌, ◌%◌, Bool, List, [], ◌∷◌, nat_eq, if◌then◌else◌}
use Rattle.clause_core.specs.Satisfaction.{signed}
use Rattle.gates.specs.Models.{put}
use Rattle.lane_sim.specs.declared.step.Step.{Step}

-- the place that a step writes
abbrev pub target_of : Step → ℕ
target_of s = s.code / 2

-- whether its `yes` is turned
abbrev pub is_turned : Step → Bool
is_turned s = nat_eq (s.code % 2) 1

-- what a step writes, from the values at places
abbrev pub step_true : (ℕ → Bool) → Step → Bool
step_true w s = if w s.condition then signed (is_turned s) (w s.yes) else w s.no

-- the values after steps, each in its turn
abbrev pub stepped : List Step → (ℕ → Bool) → ℕ → Bool
stepped [] w = w
stepped (s ∷ ss) w = stepped ss (put w (target_of s) (step_true w s))

-- the places of a step are among the first `words`
pub record IsStepWithin (words : ℕ) (s : Step) : Type 0 where
  pub condition : s.condition < words
  pub yes : s.yes < words
  pub no : s.no < words
  pub target : target_of s < words
