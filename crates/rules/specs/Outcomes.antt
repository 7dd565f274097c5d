-- What judging a construct tells: whether it is whole, and the first of what is broken in it.
use Rattle.std.specs.Prelude.{ℕ, Bool, false, not, ◌&&◌, Option, Some, None, if◌then◌else◌}
use Rattle.rules.specs.declared.rule.Rule.{Rule}
use Rattle.rules.specs.Rules.{earlier, first_in}
use Rattle.rules.specs.declared.outcome.Outcome.{Outcome}
use Rattle.rules.specs.Judgements.{Judgement, breaks}

unfoldable pub outcome_of : Judgement → Outcome
outcome_of j = record { whole = j.whole; first = first_in j.broken }

-- of two parts
unfoldable pub both : Outcome → Outcome → Outcome
both o p = record { whole = o.whole && p.whole; first = earlier o.first p.first }

-- of a construct with whole parts that breaks a rule where its test fails
unfoldable pub tried : Outcome → Bool → Rule → ℕ → Outcome
tried parts holds rule at = if parts.whole && not holds then both parts (outcome_of (breaks rule at)) else parts

-- of a construct with whole parts that breaks a rule where there is one
abbrev pub ruled : Outcome → Option Rule → ℕ → Outcome
ruled parts None at = parts
ruled parts (Some rule) at = tried parts false rule at
