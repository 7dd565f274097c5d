-- What is judged of charts, by what the code sees of them.
use Rattle.std.proofs.Common.{◌≡◌, ℕ, List, [], ◌∷◌, ◌++◌, map, Bool, true, false, ◌&&◌, not, ◌==◌, count_by, refl, sym, ap, ◌∙◌, if◌then◌else◌}
use Rattle.std.proofs.lemmas.List.{map-append}
use Rattle.std.proofs.lemmas.Bool.{eq-eqb, ne_eqb}
use Rattle.rules.specs.declared.rule.Rule.TheVariants.{NotOneInitialStep, StepTwice}
use Rattle.source_tree.specs.Syntax.{Named, PartData, FileData}
use Rattle.rules.specs.declared.outcome.Outcome.{Outcome}
use Rattle.naming.specs.Broken.{listed_by, is_initial_part, place_of_chart, in_chart_parts, in_chart}
use Rattle.rules.specs.Judgements.{Judgement, ok, and, breaks}
use Rattle.rules.specs.Outcomes.{outcome_of, both}
use Rattle.naming.specs.Scopes.{PouScope}
use Rattle.rules.proofs.Outcomes.{outcome_whole, both_on, both_ok}

-- ---- a name of a list of steps

abbrev pub texts_of : List Named → List (List ℕ)
texts_of ns = map (λ n. n.text) ns

pub texts_push : (first : List ℕ) (ns : List Named) (n : Named) → first ∷ texts_of (ns ++ n ∷ []) ≡ (first ∷ texts_of ns) ++ n.text ∷ []
texts_push first ns n = ap (λ ts. first ∷ ts) (map-append (λ (x : Named). x.text) ns (n ∷ []))

-- a list of one name
pub one_listed : (o : Outcome) (j : Judgement) → both o (outcome_of j) ≡ both o (outcome_of (and j ok))
one_listed o j = sym (both_ok (both o (outcome_of j))) ∙ both_on o j ok

module _ (j : Judgement) (o : Outcome) (is : o ≡ outcome_of j) where
  whole_is : (b : Bool) → o.whole ≡ b → j.whole ≡ b
  whole_is b h = sym (outcome_whole j o is) ∙ h

  abbrev step_listed : Named → Bool → Outcome
  step_listed n b = outcome_of (if b then breaks StepTwice n.at else j)

  pub listed_twice : (n : Named) (met : Bool) → o.whole ≡ true → met ≡ true → outcome_of (breaks StepTwice n.at) ≡ outcome_of (listed_by j met n)
  listed_twice n met whole is_met = ap (step_listed n) (sym (let w : j.whole ≡ true = whole_is true whole in let both_are : (j.whole && met) ≡ true = rw (w, is_met) refl in both_are))

  pub listed_new : (n : Named) (met : Bool) → o.whole ≡ true → met ≡ false → o ≡ outcome_of (listed_by j met n)
  listed_new n met whole new = is ∙ ap (step_listed n) (sym (let w : j.whole ≡ true = whole_is true whole in let neither : (j.whole && met) ≡ false = rw (w, new) refl in neither))

  pub listed_broken : (n : Named) (met : Bool) → o.whole ≡ false → o ≡ outcome_of (listed_by j met n)
  listed_broken n met broken = is ∙ ap (step_listed n) (sym (let w : j.whole ≡ false = whole_is false broken in let neither : (j.whole && met) ≡ false = rw w refl in neither))

-- ---- the initial step of a chart

module _ (f : FileData) (p : PouScope) (qs : List PartData) (o : Outcome) (is : o ≡ outcome_of (in_chart_parts f p qs)) where
  abbrev one_initial : Bool → Bool → Outcome
  one_initial whole one = outcome_of (if whole && not one then breaks NotOneInitialStep (place_of_chart qs) else in_chart_parts f p qs)

  parts_whole : (b : Bool) → o.whole ≡ b → (in_chart_parts f p qs).whole ≡ b
  parts_whole b h = sym (outcome_whole (in_chart_parts f p qs) o is) ∙ h

  pub chart_wrong : o.whole ≡ true → (count_by is_initial_part qs ≡ 1 → ⊥) → outcome_of (breaks NotOneInitialStep (place_of_chart qs)) ≡ outcome_of (in_chart f p qs)
  chart_wrong whole wrong = ap (one_initial true) (sym (ne_eqb (count_by is_initial_part qs) 1 wrong)) ∙ ap (λ w. one_initial w (count_by is_initial_part qs == 1)) (sym (parts_whole true whole))

  pub chart_right : o.whole ≡ true → count_by is_initial_part qs ≡ 1 → o ≡ outcome_of (in_chart f p qs)
  chart_right whole one =
      is ∙ ap (one_initial true) (sym (eq-eqb (count_by is_initial_part qs) 1 one)) ∙ ap (λ w. one_initial w (count_by is_initial_part qs == 1)) (sym (parts_whole true whole))

  pub chart_broken : o.whole ≡ false → o ≡ outcome_of (in_chart f p qs)
  chart_broken broken = is ∙ ap (λ w. one_initial w (count_by is_initial_part qs == 1)) (sym (parts_whole false broken))
