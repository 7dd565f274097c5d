-- What judging a construct by the rules finds. A construct one of whose parts breaks a rule, or which uses a name whose declaration
-- does, breaks none itself.
use Rattle.std.specs.Prelude.{ℕ, List, [], ◌∷◌, ◌++◌, Bool, true, false, ◌&&◌, if◌then◌else◌}
use Rattle.rules.specs.declared.rule.Rule.{Rule}
use Rattle.rules.specs.declared.rule.Refusal.{Refusal}

-- what is broken in a construct, and whether it is whole
pub record Judgement : Type 0 where
  pub whole : Bool
  pub broken : List Refusal

-- a construct that breaks nothing, and is whole or uses a name whose declaration is broken
abbrev pub whole_if : Bool → Judgement
whole_if whole = record { whole = whole; broken = [] }

abbrev pub ok : Judgement
ok = whole_if true

abbrev pub suppressed : Judgement
suppressed = whole_if false

abbrev pub and : Judgement → Judgement → Judgement
and j k = record { whole = j.whole && k.whole; broken = j.broken ++ k.broken }

abbrev pub breaks : Rule → ℕ → Judgement
breaks rule at = record { whole = false; broken = record { rule = rule; at = at } ∷ [] }

-- a construct with whole parts breaks a rule where its test fails; one with a broken part breaks none
abbrev pub require : Judgement → Bool → Rule → ℕ → Judgement
require parts holds rule at = if parts.whole then (if holds then parts else and parts (breaks rule at)) else parts
