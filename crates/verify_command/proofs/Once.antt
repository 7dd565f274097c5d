-- There is one report of `verify` on texts that are refused, the place of G1 apart.
use Rattle.std.proofs.Common.{◌≡◌, ℕ, List, refl, ap₂, ◌∙◌}
use Rattle.outside.specs.States.{Change}
use Rattle.rules.specs.declared.rule.Refusal.{Refusal}
use Rattle.rules.specs.declared.rule.Rule.{Rule}
use Rattle.command_answers.specs.declared.source.Source.{Source}
use Rattle.command_answers.specs.Alike.{AreAlike}
use Rattle.command_answers.specs.Reports.{Report, refusal_report, limit_report}
use Rattle.comparison_files.specs.Texts.{Texts}
use Rattle.comparison_files.specs.Accepting.{IsRefused, IsTooLarge}
use Rattle.comparison_files.proofs.Once.{refused_too, too_large_too, never_both, too_large_once}
use Rattle.comparison_files.specs.Refusals.{ReportsRefusal, refused, too_large}
use Rattle.comparison_files.proofs.RefusalLemmas.{refusals_alike}
use Rattle.verify_command.specs.Reports.{VerifyReports, not_compared, on_pair}

pub refusal_once : (t : Texts) (change : Change) (name : List ℕ) (file : Source) (refusal : Refusal) (r : Report) → IsRefused t file refusal → VerifyReports t change name r → AreAlike r (refusal_report file refusal)
refusal_once t change name g y r k (not_compared h same) = refusals_alike t r (refusal_report g y) h (refused g y k refl)
refusal_once t change name g y r k (on_pair c h e) = absurd (refused_too t c g y h.stated k)

limit_alone : (t : Texts) (file : Source) (limit : Rule) (r : Report) → IsTooLarge t file limit → ReportsRefusal t r → r ≡ limit_report file limit
limit_alone t g l r k (refused f x h e) = absurd (never_both t f g x l h k)
limit_alone t g l r k (too_large f m h e) = let one = too_large_once t f g m l h k in e ∙ ap₂ limit_report one.0 one.1

pub limit_once : (t : Texts) (change : Change) (name : List ℕ) (file : Source) (limit : Rule) (r : Report) → IsTooLarge t file limit → VerifyReports t change name r → r ≡ limit_report file limit
limit_once t change name g l r k (not_compared h same) = limit_alone t g l r k h
limit_once t change name g l r k (on_pair c h e) = absurd (too_large_too t c g l h k)
