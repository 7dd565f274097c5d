-- The first of what is broken, where anything is.
use Rattle.std.specs.Prelude.{Option, Some, None}
use Rattle.rules.specs.declared.rule.Refusal.{Refusal}
use Rattle.rules.specs.Rules.{IsFirst}

abbrev pub IsFirstOf : (Refusal → Type 0) → Option Refusal → Type 0
IsFirstOf broken None = (r : Refusal) → ¬ (broken r)
IsFirstOf broken (Some r) = IsFirst broken r
