-- When two reports are alike.
use Rattle.std.specs.Prelude.{◌≡◌, ℕ}
use Rattle.rules.specs.declared.rule.Rule.TheVariants.{NoTree}
use Rattle.command_answers.specs.declared.source.Source.{Source}
use Rattle.command_answers.specs.Reports.{Report, refusal_report}

-- two reports that are the same, but for the place of G1, which no definition fixes
pub data AreAlike (r s : Report) : Type 0 where
  same : r ≡ s → AreAlike r s
  no_tree : (file : Source) (at place : ℕ) → r ≡ refusal_report file (record { rule = NoTree; at = at }) → s ≡ refusal_report file (record { rule = NoTree; at = place }) → AreAlike r s
