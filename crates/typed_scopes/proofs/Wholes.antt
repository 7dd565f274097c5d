-- A whole construct has whole parts, and its test holds.
use Rattle.std.proofs.Common.{◌≡◌, ℕ, Bool, true, false, if◌then◌else◌, refl}
use Rattle.std.proofs.lemmas.Bool.{and_parts, false≢true}
use Rattle.rules.specs.declared.rule.Rule.{Rule}
use Rattle.rules.specs.Judgements.{Judgement, ok, suppressed, and, breaks, require}

tested_by : (j : Judgement) (w h : Bool) (rule : Rule) (at : ℕ) → j.whole ≡ w → (require j h rule at).whole ≡ true → (j.whole ≡ true) × (h ≡ true)
tested_by j true true rule at e whole = (e, refl)
tested_by j true false rule at e whole = absurd (let k : false ≡ true = rw e at whole in false≢true k)
tested_by j false h rule at e whole = absurd (let k : false ≡ true = rw e at whole in false≢true k)

pub whole_require : (j : Judgement) (h : Bool) (rule : Rule) (at : ℕ) → (require j h rule at).whole ≡ true → (j.whole ≡ true) × (h ≡ true)
whole_require j h rule at whole = tested_by j j.whole h rule at refl whole

pub whole_and : (j k : Judgement) → (and j k).whole ≡ true → (j.whole ≡ true) × (k.whole ≡ true)
whole_and j k whole = and_parts j.whole k.whole whole

-- what is whole where a test holds, or breaks a rule where it does not
pub whole_test : (h : Bool) (rule : Rule) (at : ℕ) → (if h then ok else breaks rule at).whole ≡ true → h ≡ true
whole_test true rule at whole = refl
whole_test false rule at whole = absurd (false≢true whole)

-- or says nothing
pub whole_said : (h : Bool) → (if h then ok else suppressed).whole ≡ true → h ≡ true
whole_said true whole = refl
whole_said false whole = absurd (false≢true whole)
