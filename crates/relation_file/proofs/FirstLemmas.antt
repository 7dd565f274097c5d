-- The first of what constructs break.
use Rattle.std.proofs.Common.{◌≡◌, List, [], ◌∷◌, ◌++◌, Option, Some, None, refl, sym, ap, ◌∙◌}
use Rattle.std.specs.Option.{option_or}
use Rattle.rules.specs.declared.rule.Refusal.{Refusal}
use Rattle.rules.specs.Rules.{earlier, first_in}
use Rattle.rules.proofs.Refusals.{first_in-append}
use Rattle.relation_file.specs.Refusals.{or_own}

or_some : (r : Refusal) (o own : Option Refusal) → earlier (Some r) o ≡ option_or (earlier (Some r) o) own
or_some r None own = refl
or_some r (Some s) own = refl

or_own-first : (xs ys : List Refusal) → first_in (or_own xs ys) ≡ option_or (first_in xs) (first_in ys)
or_own-first [] ys = refl
or_own-first (x ∷ xs) ys = or_some x (first_in xs) (first_in ys)

-- what a construct breaks, where it is known what its parts and what it itself breaks
pub own_behind : (r parts own : Option Refusal) (xs ys : List Refusal) → r ≡ option_or parts own → parts ≡ first_in xs → own ≡ first_in ys → r ≡ first_in (or_own xs ys)
own_behind r parts own xs ys h p q = h ∙ ap (λ o. option_or o own) p ∙ ap (option_or (first_in xs)) q ∙ sym (or_own-first xs ys)

-- what two lists break
pub both_first : (r a b : Option Refusal) (xs ys : List Refusal) → r ≡ earlier a b → a ≡ first_in xs → b ≡ first_in ys → r ≡ first_in (xs ++ ys)
both_first r a b xs ys h p q = h ∙ ap (λ o. earlier o b) p ∙ ap (earlier (first_in xs)) q ∙ sym (first_in-append xs ys)
