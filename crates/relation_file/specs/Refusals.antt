-- What constructs break.
use Rattle.std.specs.Prelude.{ℕ, List, [], ◌∷◌, Bool, if◌then◌else◌}
use Rattle.rules.specs.declared.rule.Rule.{Rule}
use Rattle.rules.specs.declared.rule.Refusal.{Refusal}

abbrev pub breaks : Rule → ℕ → List Refusal
breaks rule at = record { rule = rule; at = at } ∷ []

-- a rule that is broken unless a test holds
abbrev pub unless : Bool → Rule → ℕ → List Refusal
unless holds rule at = if holds then [] else breaks rule at

-- what its parts break, or where they break nothing what a construct itself does
abbrev pub or_own : List Refusal → List Refusal → List Refusal
or_own [] own = own
or_own (r ∷ rs) own = r ∷ rs
