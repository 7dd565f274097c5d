-- Texts that are not compared: their report, and that there is one.
use Rattle.std.proofs.Common.{◌≡◌, ◌≤◌, ℕ, sym, ap, ap₂, ◌∙◌, arith}
use Rattle.outside.specs.Causes.{Rose}
use Rattle.queries.specs.Comparisons.{Comparison}
use Rattle.command_answers.specs.declared.status.Status.TheVariants.{Refused}
use Rattle.command_answers.specs.Reports.{Report, limit_report}
use Rattle.command_answers.specs.Alike.{AreAlike, same}
use Rattle.command_answers.proofs.AlikeLemmas.{alike}
use Rattle.command_files.specs.Texts.{Texts}
use Rattle.comparison_files.specs.Accepting.{AreAccepted}
use Rattle.comparison_files.proofs.Once.{refused_too, too_large_too, never_both, refused_once, too_large_once}
use Rattle.comparison_files.specs.Refusals.{ReportsRefusal, refused, too_large}

-- a count that rose rose from any that it had before
pub rose_since : (first before now : ℕ) → first ≤ before → Rose before now → Rose first now
rose_since first before now h r = omega (arith, h, r)

-- its status
pub refusal_status : (t : Texts) (r : Report) → ReportsRefusal t r → r.status ≡ Refused
refusal_status t r (refused file refusal h e) = ap (λ x. x.status) e
refusal_status t r (too_large file limit h e) = ap (λ x. x.status) e

-- it is one, the place of G1 apart
pub refusals_alike : (t : Texts) (r s : Report) → ReportsRefusal t r → ReportsRefusal t s → AreAlike r s
refusals_alike t r s (refused f x h e) (refused g y k d) = let one = refused_once t f g x y h k in alike r s f g x y e d one.0 one.1
refusals_alike t r s (refused f x h e) (too_large g l k d) = absurd (never_both t f g x l h k)
refusals_alike t r s (too_large f l h e) (refused g y k d) = absurd (never_both t g f y l k h)
refusals_alike t r s (too_large f l h e) (too_large g m k d) = let one = too_large_once t f g l m h k in same (e ∙ ap₂ limit_report one.0 one.1 ∙ sym d)

-- texts that are accepted are not refused
pub accepted_too : (t : Texts) (c : Comparison) (r : Report) → AreAccepted t c → ReportsRefusal t r → ⊥
accepted_too t c r h (refused file refusal k e) = refused_too t c file refusal h.stated k
accepted_too t c r h (too_large file limit k e) = too_large_too t c file limit h k
