-- One more list of refusals, and one more judgement.
use Rattle.std.proofs.Common.{◌≡◌, List, ◌++◌, ◌&&◌, Option, Some, None, refl, sym, ap, ◌∙◌}
use Rattle.std.proofs.Math.Bool.{and_assoc, and-true}
use Rattle.rules.specs.declared.rule.Refusal.{Refusal}
use Rattle.rules.specs.Rules.{earlier, first_in}
use Rattle.rules.proofs.Refusals.{earlier-assoc, first_in-append}
use Rattle.rules.specs.declared.outcome.Outcome.{Outcome}
use Rattle.rules.specs.Judgements.{Judgement, ok, and}
use Rattle.rules.specs.Outcomes.{outcome_of, both}

-- the first so far, and what a further list has before it
pub earlier_on : (a : Option Refusal) (xs ys : List Refusal) → earlier (earlier a (first_in xs)) (first_in ys) ≡ earlier a (first_in (xs ++ ys))
earlier_on a xs ys = earlier-assoc a (first_in xs) (first_in ys) ∙ ap (earlier a) (sym (first_in-append xs ys))

-- the first so far, then what one list has before it, then what another has
pub first_then : (a b d : Option Refusal) (xs ys : List Refusal) → b ≡ earlier a (first_in xs) → d ≡ earlier b (first_in ys) → d ≡ earlier a (first_in (xs ++ ys))
first_then a b d xs ys before behind = behind ∙ ap (λ o. earlier o (first_in ys)) before ∙ earlier_on a xs ys

-- the first so far, before what is left
pub first_before : (a b o : Option Refusal) (xs ys : List Refusal) → b ≡ earlier a (first_in xs) → earlier a (first_in (xs ++ ys)) ≡ o → earlier b (first_in ys) ≡ o
first_before a b o xs ys step all = ap (λ p. earlier p (first_in ys)) step ∙ earlier_on a xs ys ∙ all

-- two parts, of which each was judged
pub outcome_and : (j k : Judgement) → both (outcome_of j) (outcome_of k) ≡ outcome_of (and j k)
unfolding outcome_of both
outcome_and j k = ap (λ o. record { whole = j.whole && k.whole; first = o }) (sym (first_in-append j.broken k.broken))

earlier_none : (o : Option Refusal) → earlier o None ≡ o
earlier_none None = refl
earlier_none (Some r) = refl

-- what was judged so far, and two further parts
pub both_on : (o : Outcome) (j k : Judgement) → both (both o (outcome_of j)) (outcome_of k) ≡ both o (outcome_of (and j k))
unfolding outcome_of both
both_on o j k = rw (and_assoc o.whole j.whole k.whole, earlier_on o.first j.broken k.broken) refl

-- what was judged so far, and a part that breaks nothing
pub both_ok : (o : Outcome) → both o (outcome_of ok) ≡ o
unfolding outcome_of both
both_ok o = rw (and-true o.whole, earlier_none o.first) refl

-- what was judged so far, then one part, then another
pub then_on : (a b d : Outcome) (j k : Judgement) → b ≡ both a (outcome_of j) → d ≡ both b (outcome_of k) → d ≡ both a (outcome_of (and j k))
then_on a b d j k before behind = behind ∙ ap (λ o. both o (outcome_of k)) before ∙ both_on a j k

-- what was judged so far, before what is left
pub before_rest : (a b o : Outcome) (j k : Judgement) → b ≡ both a (outcome_of j) → both a (outcome_of (and j k)) ≡ o → both b (outcome_of k) ≡ o
before_rest a b o j k step all = ap (λ p. both p (outcome_of k)) step ∙ both_on a j k ∙ all

-- a part behind nothing
pub ok_both : (o : Outcome) → both (outcome_of ok) o ≡ o
unfolding outcome_of both
ok_both o = refl

-- what was judged so far, once nothing is left
pub loop_done : (a b : Outcome) (j k : Judgement) → both a (outcome_of j) ≡ both b (outcome_of k) → j ≡ ok → a ≡ both b (outcome_of k)
loop_done a b j k all none = sym (both_ok a) ∙ ap (λ x. both a (outcome_of x)) (sym none) ∙ all

-- the first that an outcome tells of
pub outcome_first : (j : Judgement) (o : Outcome) → o ≡ outcome_of j → o.first ≡ first_in j.broken
unfolding outcome_of
outcome_first j o is = ap (λ x. x.first) is

pub outcome_whole : (j : Judgement) (o : Outcome) → o ≡ outcome_of j → o.whole ≡ j.whole
unfolding outcome_of
outcome_whole j o is = ap (λ x. x.whole) is
