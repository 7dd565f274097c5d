-- The tests of charts: their values are those of the definition, and they meet no fault.
use Rattle.std.proofs.Common.{◌≡◌, ℕ, ◌+◌, ◌<◌, Bool, true, false, not, ◌&&◌, ◌||◌, List, [], ◌∷◌, ◌++◌, length, map, refl, sym, ap, ◌∙◌, zero-add}
use Rattle.std.proofs.Math.Bool.{and-true, or-false, and_assoc, or_assoc}
use Rattle.std.specs.Prelude.{if◌then◌else◌, Option, Some}
use Rattle.std.specs.List.{list_any, list_all}
use Rattle.plc_types.specs.declared.elementary.Elementary.TheVariants.{Bool as Bit}
use Rattle.plc_types.specs.declared.operator.UnaryOperator.TheVariants.{Not}
use Rattle.plc_types.specs.declared.operator.Operator.TheVariants.{Or, And}
use Rattle.program_tree.specs.declared.typed.StepCells.{StepCells}
use Rattle.program_tree.specs.declared.typed.Association.{Association}
use Rattle.program_tree.specs.declared.typed.Qualifier.{Qualifier}
use Rattle.program_tree.specs.declared.typed.Qualifier.TheVariants.{NonStored, Set, Reset, Pulse, FallingPulse}
use Rattle.program_tree.specs.Tree.{Expression, cell, chain, no_operands, operand}
use Rattle.program_tree.specs.ChartPlaces.{AreSteps, NameSteps}
use Rattle.meaning.specs.Values.{State, no_callees, number_of, value_of, value_on, faults, any_faults, unary_applied, applied}
use Rattle.meaning.specs.Charts.{Marking, is_on, is_set, is_reset, sets, resets, is_asked_for, asks, latch_is_on, next_latch, runs}
use Rattle.meaning.specs.Flags.{may_leave}
use Rattle.flat_form.specs.Owners.{OwnerData}
use Rattle.flat_form.specs.FlatCharts.{negated, both, operands_by, joined_by, active_at, before_at, steps_that, unless_reset, latch_test, asking, terms, latch_start, runs_test, exited_flag, ready_term, ready_test}
use Rattle.flat_laws.proofs.Shown.{held}
use Rattle.flat_laws.proofs.LabelLemmas.{and_bits, or_bits}

-- ---- truth values

not_bit : (a : Bool) → unary_applied Not Bit (number_of a) ≡ number_of (not a)
not_bit true = refl
not_bit false = refl

abbrev any_of : List Bool → Bool
any_of bs = list_any (λ b. b) bs

abbrev all_of : List Bool → Bool
all_of bs = list_all (λ b. b) bs

-- ---- tests

-- an expression without calls says in a store whether something holds, and meets no fault
pub record IsTest (x : State) (e : Expression) (b : Bool) : Type 0 where
  pub value : value_of no_callees 0 e x ≡ number_of b
  pub fault : faults no_callees 0 e x ≡ false

abbrev pub AreTests : State → List Expression → List Bool → Type 0
AreTests x [] [] = Unit {0}
AreTests x [] (b ∷ bs) = ⊥
AreTests x (e ∷ es) [] = ⊥
AreTests x (e ∷ es) (b ∷ bs) = IsTest x e b × AreTests x es bs

module _ (x : State) where
  pub IsTest-cell : (p : ℕ) (b : Bool) → held x p ≡ number_of b → IsTest x (cell p) b
  IsTest-cell p b h = record { value = rw (zero-add p) h; fault = refl }

  pub IsTest-not : (e : Expression) (b : Bool) → IsTest x e b → IsTest x (negated e) (not b)
  IsTest-not e b t = record { value = rw (t.value) (not_bit b); fault = t.fault }

  pub IsTest-and : (e f : Expression) (a b : Bool) → IsTest x e a → IsTest x f b → IsTest x (both e f) (a && b)
  IsTest-and e f a b s t = record { value = rw (s.value, t.value) (and_bits a b); fault = rw (s.fault, t.fault) refl }

  pub IsTest-or : (e f : Expression) (a b : Bool) → IsTest x e a → IsTest x f b → IsTest x (chain e (operand Or Bit f no_operands)) (a || b)
  IsTest-or e f a b s t = record { value = rw (s.value, t.value) (or_bits a b); fault = rw (s.fault, t.fault) refl }

  or_value : (a : Bool) (es : List Expression) (bs : List Bool) → AreTests x es bs → value_on no_callees 0 (number_of a) (operands_by Or es) x ≡ number_of (a || any_of bs)
  or_value a [] [] t = ap number_of (sym (or-false a))
  or_value a [] (b ∷ bs) t = absurd t
  or_value a (e ∷ es) [] t = absurd t
  or_value a (e ∷ es) (b ∷ bs) t =
      ap (λ v. value_on no_callees 0 (applied Or Bit (number_of a) v) (operands_by Or es) x) t.0.value
      ∙ ap (λ v. value_on no_callees 0 v (operands_by Or es) x) (or_bits a b) ∙ or_value (a || b) es bs t.1 ∙ ap number_of (or_assoc a b (any_of bs))

  or_fault : (es : List Expression) (bs : List Bool) → AreTests x es bs → any_faults no_callees 0 (operands_by Or es) x ≡ false
  or_fault [] [] t = refl
  or_fault [] (b ∷ bs) t = absurd t
  or_fault (e ∷ es) [] t = absurd t
  or_fault (e ∷ es) (b ∷ bs) t = rw (t.0.fault) (or_fault es bs t.1)

  and_value : (a : Bool) (es : List Expression) (bs : List Bool) → AreTests x es bs → value_on no_callees 0 (number_of a) (operands_by And es) x ≡ number_of (a && all_of bs)
  and_value a [] [] t = ap number_of (sym (and-true a))
  and_value a [] (b ∷ bs) t = absurd t
  and_value a (e ∷ es) [] t = absurd t
  and_value a (e ∷ es) (b ∷ bs) t =
      ap (λ v. value_on no_callees 0 (applied And Bit (number_of a) v) (operands_by And es) x) t.0.value
      ∙ ap (λ v. value_on no_callees 0 v (operands_by And es) x) (and_bits a b) ∙ and_value (a && b) es bs t.1 ∙ ap number_of (and_assoc a b (all_of bs))

  and_fault : (es : List Expression) (bs : List Bool) → AreTests x es bs → any_faults no_callees 0 (operands_by And es) x ≡ false
  and_fault [] [] t = refl
  and_fault [] (b ∷ bs) t = absurd t
  and_fault (e ∷ es) [] t = absurd t
  and_fault (e ∷ es) (b ∷ bs) t = rw (t.0.fault) (and_fault es bs t.1)

  pub IsTest-any : (e : Expression) (a : Bool) (es : List Expression) (bs : List Bool) → IsTest x e a → AreTests x es bs → IsTest x (joined_by Or e es) (a || any_of bs)
  IsTest-any e a [] [] s t = record { value = s.value ∙ ap number_of (sym (or-false a)); fault = s.fault }
  IsTest-any e a [] (b ∷ bs) s t = absurd t
  IsTest-any e a (f ∷ fs) bs s t = record {
    value = ap (λ v. value_on no_callees 0 v (operands_by Or (f ∷ fs)) x) s.value ∙ or_value a (f ∷ fs) bs t;
    fault = rw (s.fault) (or_fault (f ∷ fs) bs t);
  }

  pub IsTest-all : (e : Expression) (a : Bool) (es : List Expression) (bs : List Bool) → IsTest x e a → AreTests x es bs → IsTest x (joined_by And e es) (a && all_of bs)
  IsTest-all e a [] [] s t = record { value = s.value ∙ ap number_of (sym (and-true a)); fault = s.fault }
  IsTest-all e a [] (b ∷ bs) s t = absurd t
  IsTest-all e a (f ∷ fs) bs s t = record {
    value = ap (λ v. value_on no_callees 0 v (operands_by And (f ∷ fs)) x) s.value ∙ and_value a (f ∷ fs) bs t;
    fault = rw (s.fault) (and_fault (f ∷ fs) bs t);
  }

  IsTest-unless : (e : Expression) (a : Bool) (rs : List Expression) (bs : List Bool) → IsTest x e a → AreTests x rs bs → IsTest x (unless_reset e rs) (a && not (any_of bs))
  IsTest-unless e a [] [] s t = record { value = s.value ∙ ap number_of (sym (and-true a)); fault = s.fault }
  IsTest-unless e a [] (b ∷ bs) s t = absurd t
  IsTest-unless e a (r ∷ rs) [] s t = absurd t
  IsTest-unless e a (r ∷ rs) (b ∷ bs) s t = IsTest-and e (negated (joined_by Or r rs)) a (not (b || any_of bs)) s (IsTest-not (joined_by Or r rs) (b || any_of bs) (IsTest-any r b rs bs t.0 t.1))

  pub AreTests-append : (a b : List Expression) (c d : List Bool) → AreTests x a c → AreTests x b d → AreTests x (a ++ b) (c ++ d)
  AreTests-append [] b [] d s t = t
  AreTests-append [] b (c ∷ cs) d s t = absurd s
  AreTests-append (e ∷ a) b [] d s t = absurd s
  AreTests-append (e ∷ a) b (c ∷ cs) d s t = (s.0, AreTests-append a b cs d s.1 t)

any_of-map : {A : Type 0} (g : A → Bool) (is : List A) → any_of (map g is) ≡ list_any g is
any_of-map g [] = refl
any_of-map g (i ∷ is) = ap (λ b. g i || b) (any_of-map g is)

all_of-map : {A : Type 0} (g : A → Bool) (is : List A) → all_of (map g is) ≡ list_all g is
all_of-map g [] = refl
all_of-map g (i ∷ is) = ap (λ b. g i && b) (all_of-map g is)

-- ---- associations

one_more : (xm : Marking) (t : Bool) (i : ℕ) (l : List ℕ) (b : Bool) → any_of (map (is_on xm) l) ≡ b → any_of (map (is_on xm) (if t then i ∷ l else l)) ≡ ((t && is_on xm i) || b)
one_more xm true i l b e = ap (λ c. is_on xm i || c) e
one_more xm false i l b e = e

any_that : (xm : Marking) (test : Qualifier → Bool) (links : List Association) → any_of (map (is_on xm) (steps_that test links)) ≡ list_any (λ (a : Association). test a.qualifier && is_on xm a.step) links
any_that xm test [] = refl
any_that xm test (a ∷ more) = one_more xm (test a.qualifier) a.step (steps_that test more) _ (any_that xm test more)

-- what an association asks by, as truth values
abbrev asking_bits : Qualifier → Bool → Bool → List Bool
asking_bits NonStored now before = now ∷ []
asking_bits Set now before = []
asking_bits Reset now before = []
asking_bits Pulse now before = (now && not before) ∷ []
asking_bits FallingPulse now before = (before && not now) ∷ []

abbrev bits : Marking → Marking → List Association → List Bool
bits xm lm [] = []
bits xm lm (a ∷ more) = asking_bits a.qualifier (is_on xm a.step) (is_on lm a.step) ++ bits xm lm more

asking_more : (q : Qualifier) (now before : Bool) (l : List Bool) (b : Bool) → any_of l ≡ b → any_of (asking_bits q now before ++ l) ≡ (is_asked_for q now before || b)
asking_more NonStored now before l b e = ap (λ c. now || c) e
asking_more Set now before l b e = e
asking_more Reset now before l b e = e
asking_more Pulse now before l b e = ap (λ c. (now && not before) || c) e
asking_more FallingPulse now before l b e = ap (λ c. (before && not now) || c) e

any_asks : (xm lm : Marking) (links : List Association) → any_of (bits xm lm links) ≡ list_any (asks xm lm) links
any_asks xm lm [] = refl
any_asks xm lm (a ∷ more) = asking_more a.qualifier (is_on xm a.step) (is_on lm a.step) (bits xm lm more) _ (any_asks xm lm more)

-- ---- tests of steps

module _ (owner : OwnerData) (base : ℕ) (steps : List StepCells) (x : State) (xm : Marking) (here : (i : ℕ) → i < length steps → IsTest x (active_at owner base steps i) (is_on xm i)) where
  -- where flags say which steps were left
  module _ (k : ℕ) (exited : Marking) (flag : (i : ℕ) → i < length steps → held x (exited_flag k i) ≡ number_of (is_on exited i)) where
    abbrev is_ready : ℕ → Bool
    is_ready i = is_on xm i && not (is_on exited i)

    IsTest-ready_term : (i : ℕ) → i < length steps → IsTest x (ready_term owner base steps k i) (is_ready i)
    IsTest-ready_term i h = IsTest-and x (active_at owner base steps i) (negated (cell (exited_flag k i))) (is_on xm i) (not (is_on exited i)) (here i h) (IsTest-not x (cell (exited_flag k i)) (is_on exited i) (IsTest-cell x (exited_flag k i) (is_on exited i) (flag i h)))

    AreTests-ready : (fs : List ℕ) → AreSteps (length steps) fs → AreTests x (map (ready_term owner base steps k) fs) (map is_ready fs)
    AreTests-ready [] h = tt
    AreTests-ready (f ∷ fs) h = (IsTest-ready_term f h.0, AreTests-ready fs h.1)

    pub IsTest-ready : (fs : List ℕ) → AreSteps (length steps) fs → IsTest x (ready_test owner base steps k fs) (may_leave xm exited fs)
    IsTest-ready [] h = record { value = refl; fault = refl }
    IsTest-ready (f ∷ fs) h =
        let all = IsTest-all x (ready_term owner base steps k f) (is_ready f) (map (ready_term owner base steps k) fs) (map is_ready fs) (IsTest-ready_term f h.0) (AreTests-ready fs h.1) in
        record { value = all.value ∙ ap (λ b. number_of (is_ready f && b)) (all_of-map is_ready fs); fault = all.fault }

  one_that : (t : Bool) (i : ℕ) (l : List ℕ) → IsTest x (active_at owner base steps i) (is_on xm i) → AreTests x (map (active_at owner base steps) l) (map (is_on xm) l)
      → AreTests x (map (active_at owner base steps) (if t then i ∷ l else l)) (map (is_on xm) (if t then i ∷ l else l))
  one_that true i l s t = (s, t)
  one_that false i l s t = t

  AreTests-that : (test : Qualifier → Bool) (links : List Association) → NameSteps (length steps) links → AreTests x (map (active_at owner base steps) (steps_that test links)) (map (is_on xm) (steps_that test links))
  AreTests-that test [] h = tt
  AreTests-that test (a ∷ more) h = one_that (test a.qualifier) a.step (steps_that test more) (here a.step h.0) (AreTests-that test more h.1)

  pub IsTest-latch : (place : ℕ) (s : State) (links : List Association) → NameSteps (length steps) links → IsTest x (cell (owner (base + place))) (is_on s (base + place))
      → IsTest x (latch_test owner base steps place links) (next_latch base xm (Some place) links s)
  IsTest-latch place s links h own =
      let on = is_on s (base + place) in
      let set_bits = map (is_on xm) (steps_that is_set links) in
      let reset_bits = map (is_on xm) (steps_that is_reset links) in
      let first = joined_by Or (cell (owner (base + place))) (map (active_at owner base steps) (steps_that is_set links)) in
      let any = IsTest-any x (cell (owner (base + place))) on (map (active_at owner base steps) (steps_that is_set links)) set_bits own (AreTests-that is_set links h) in
      let whole = IsTest-unless x first (on || any_of set_bits) (map (active_at owner base steps) (steps_that is_reset links)) reset_bits any (AreTests-that is_reset links h) in
      let same_sets : any_of set_bits ≡ list_any (sets xm) links = any_that xm is_set links in
      let same_resets : any_of reset_bits ≡ list_any (resets xm) links = any_that xm is_reset links in
      record { value = whole.value ∙ ap (λ b. number_of ((on || b) && not (any_of reset_bits))) same_sets ∙ ap (λ b. number_of ((on || list_any (sets xm) links) && not b)) same_resets; fault = whole.fault }

  -- where it is also known which steps were active before
  module _ (lm : Marking) (was : (i : ℕ) → i < length steps → IsTest x (before_at owner base steps i) (is_on lm i)) where
    AreTests-asking : (q : Qualifier) (a b : Expression) (now before : Bool) → IsTest x a now → IsTest x b before → AreTests x (asking q a b) (asking_bits q now before)
    AreTests-asking NonStored a b now before s t = (s, tt)
    AreTests-asking Set a b now before s t = tt
    AreTests-asking Reset a b now before s t = tt
    AreTests-asking Pulse a b now before s t = (IsTest-and x a (negated b) now (not before) s (IsTest-not x b before t), tt)
    AreTests-asking FallingPulse a b now before s t = (IsTest-and x b (negated a) before (not now) t (IsTest-not x a now s), tt)

    AreTests-terms : (links : List Association) → NameSteps (length steps) links → AreTests x (terms owner base steps links) (bits xm lm links)
    AreTests-terms [] h = tt
    AreTests-terms (a ∷ more) h =
        AreTests-append x (asking a.qualifier (active_at owner base steps a.step) (before_at owner base steps a.step)) (terms owner base steps more) (asking_bits a.qualifier (is_on xm a.step) (is_on lm a.step)) (bits xm lm more)
        (AreTests-asking a.qualifier (active_at owner base steps a.step) (before_at owner base steps a.step) (is_on xm a.step) (is_on lm a.step) (here a.step h.0) (was a.step h.0)) (AreTests-terms more h.1)

    pub IsTest-runs : (latch : Option ℕ) (s : State) (links : List Association) → NameSteps (length steps) links → IsTest x (latch_start owner base latch) (latch_is_on base latch s)
        → IsTest x (runs_test owner base steps latch links) (runs base xm lm latch links s)
    IsTest-runs latch s links h own =
        let on = latch_is_on base latch s in
        let asked = bits xm lm links in
        let reset_bits = map (is_on xm) (steps_that is_reset links) in
        let first = joined_by Or (latch_start owner base latch) (terms owner base steps links) in
        let any = IsTest-any x (latch_start owner base latch) on (terms owner base steps links) asked own (AreTests-terms links h) in
        let whole = IsTest-unless x first (on || any_of asked) (map (active_at owner base steps) (steps_that is_reset links)) reset_bits any (AreTests-that is_reset links h) in
        let same_asks : any_of asked ≡ list_any (asks xm lm) links = any_asks xm lm links in
        let same_resets : any_of reset_bits ≡ list_any (resets xm) links = any_that xm is_reset links in
        record { value = whole.value ∙ ap (λ b. number_of ((on || b) && not (any_of reset_bits))) same_asks ∙ ap (λ b. number_of ((on || list_any (asks xm lm) links) && not b)) same_resets; fault = whole.fault }
