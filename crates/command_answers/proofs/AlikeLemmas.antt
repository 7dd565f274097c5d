-- Reports on refusals that are the same.
use Rattle.std.proofs.Common.{◌≡◌, ap, ◌∙◌, sym, inl, inr}
use Rattle.rules.specs.declared.rule.Rule.{Rule}
use Rattle.rules.specs.declared.rule.Refusal.{Refusal}
use Rattle.rules.specs.Rules.{IsSame}
use Rattle.command_answers.specs.declared.source.Source.{Source}
use Rattle.command_answers.specs.Reports.{Report, refusal_report}
use Rattle.command_answers.specs.Alike.{AreAlike, same, no_tree}

-- two reports on one refusal
pub alike : (r s : Report) (f g : Source) (x y : Refusal) → r ≡ refusal_report f x → s ≡ refusal_report g y → f ≡ g → IsSame x y → AreAlike r s
alike r s f g x y e d file (inl h) = same (e ∙ ap (λ a. refusal_report a x) file ∙ ap (refusal_report g) h ∙ sym d)
alike r s f g x y e d file (inr h) =
    no_tree g x.at y.at
    (e ∙ ap (λ a. refusal_report a x) file ∙ ap (λ (k : Rule). refusal_report g (record { rule = k; at = x.at })) h.0)
    (d ∙ ap (λ (k : Rule). refusal_report g (record { rule = k; at = y.at })) h.1)
