-- One part judged behind others, where judging it may want memory.
use Rattle.std.proofs.Common.{◌≡◌, ap, ◌∙◌}
use Rattle.rules.specs.declared.outcome.Outcome.{Outcome}
use Rattle.rules.specs.Judgements.{Judgement, and}
use Rattle.rules.specs.Outcomes.{outcome_of, both}
use Rattle.rules.proofs.Outcomes.{both_on}

-- what was judged so far and a further part, by what was judged before both
pub behind : (a b : Outcome) (j k : Judgement) → b ≡ both a (outcome_of j) → both b (outcome_of k) ≡ both a (outcome_of (and j k))
behind a b j k before = ap (λ o. both o (outcome_of k)) before ∙ both_on a j k
