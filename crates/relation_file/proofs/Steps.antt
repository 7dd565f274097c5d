-- The first of what is broken so far, and what further lists have before it.
use Rattle.std.proofs.Common.{◌≡◌, List, ◌++◌, Option, sym, ap, ◌∙◌}
use Rattle.rules.specs.declared.rule.Refusal.{Refusal}
use Rattle.rules.specs.Rules.{earlier, first_in}
use Rattle.rules.proofs.Refusals.{earlier-assoc, first_in-append}

-- the first so far, and what a further list has before it
earlier_on : (a : Option Refusal) (xs ys : List Refusal) → earlier (earlier a (first_in xs)) (first_in ys) ≡ earlier a (first_in (xs ++ ys))
earlier_on a xs ys = earlier-assoc a (first_in xs) (first_in ys) ∙ ap (earlier a) (sym (first_in-append xs ys))

-- the first so far, then what one list has before it, then what another has
pub then_on : (a b d : Option Refusal) (xs ys : List Refusal) → b ≡ earlier a (first_in xs) → d ≡ earlier b (first_in ys) → d ≡ earlier a (first_in (xs ++ ys))
then_on a b d xs ys before behind = behind ∙ ap (λ o. earlier o (first_in ys)) before ∙ earlier_on a xs ys

-- the first so far, before what is left
pub before_rest : (a b o : Option Refusal) (xs ys : List Refusal) → b ≡ earlier a (first_in xs) → earlier a (first_in (xs ++ ys)) ≡ o → earlier b (first_in ys) ≡ o
before_rest a b o xs ys step all = ap (λ p. earlier p (first_in ys)) step ∙ earlier_on a xs ys ∙ all
