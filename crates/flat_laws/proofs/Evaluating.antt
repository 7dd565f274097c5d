-- Expressions and calls of FUNCTIONs: what the types say holds of values, and the statements that calls become leave an expression of the
-- same value.
use Rattle.std.proofs.Common.{◌≡◌, ℕ, suc, ◌+◌, ◌-◌, ◌<◌, ◌≤◌, Bool, true, false, not, ◌&&◌, ◌||◌, List, [], ◌∷◌, ◌++◌, length, ℤ, pos, refl, sym, ap, subst, ◌∙◌, arith, length-append, zero-add}
use Rattle.std.proofs.Math.Bool.{or-false}
use Rattle.std.specs.Prelude.{if◌then◌else◌}
use Rattle.std.proofs.lemmas.Int.{ints}
use Rattle.plc_types.specs.declared.elementary.Elementary.{Elementary}
use Rattle.plc_types.specs.declared.function.Function.{Function}
use Rattle.plc_types.specs.declared.function.Function.TheVariants as functions
use Rattle.plc_types.specs.declared.range.Range.{Range}
use Rattle.plc_types.specs.declared.operator.Operator.{Operator}
use Rattle.plc_types.specs.Types.{range_of, in_range}
use Rattle.plc_types.proofs.InRange.{in_range_from, covers_in}
use Rattle.plc_types.proofs.TypeRanges.{wrapped_in, wrapped_same}
use Rattle.program_tree.specs.Tree.{Expression, number, cell, unary, chain, call_standard, call_function, Operands, no_operands, operand, Expressions, no_expressions, expression}
use Rattle.program_tree.specs.declared.scratch.Scratch.{Scratch}
use Rattle.program_tree.specs.OperandTypes.{arity}
use Rattle.meaning.specs.Values.{State, Callees, no_callees, fault_in, answer_in, is_truth, value_of, value_on, values_of, faults, any_faults, one_faults, divides_by_zero, applied, unary_applied, result_type, called, function_result, selected}
use Rattle.meaning.specs.Effects.{range_at, stored}
use Rattle.meaning.specs.Calls.{given}
use Rattle.meaning.specs.Frames.{FrameData, type_at, scratch_at, initial_at}
use Rattle.meaning.specs.StaysIn.{covers, last_stays, chosen_stay}
use Rattle.scan_model.specs.InRange.{IsInRange}
use Rattle.flat_core.specs.FlatTree.{set}
use Rattle.flat_core.specs.FlatView.{flats_of}
use Rattle.flat_core.specs.FlatScans.{takes, placed, run_of, run_of_all}
use Rattle.flat_form.specs.Frames.{input_start, others_behind, other_scratch, other_starts, places_of}
use Rattle.flat_form.specs.Owners.{OwnerData, call_owner}
use Rattle.flat_form.specs.Bodies.{Bodies}
use Rattle.flat_form.specs.Calls.{rest_scratch, rest_list, scratch_in, operand_scratch, all_scratch, input_scratch, input_places, moved, moved_operands, all_moved, before, operands_before, all_before, inputs_before}
use Rattle.flat_form.specs.WellTyped.{FrameFits, stays_in, each_stays, IsTypedValue, AreTypedOperands, AreTypedValues, AreTypedInputs}
use Rattle.scan_model.proofs.Keeping.{IsInRange-length, IsInRange-set, either}
use Rattle.flat_laws.proofs.Shown.{held, Owns, Shows, Done, SameUpTo, Evaluated, Stands, CallRuns, Owns-later}
use Rattle.flat_laws.proofs.Calling.{either_fault, Reached, Reached-none, Reached-both, Reached-same, in_range-at, unfit, given-long, given-before, given-behind, given-fault, Seated, Seated-order, Filled, input_set, CallBegun, begins, call_begun, length-stored, stored-same, stored-other, length-other}
use Rattle.flat_laws.proofs.Sequences.{run-append, Stands-front, Stands-back}
use Rattle.flat_laws.proofs.TurnValues.{tested_fits}

-- ---- what the types say of values

-- each value lies in a range where its test holds
abbrev AllIn : Range → List Bool → List ℤ → Type 0
AllIn r [] [] = Unit {0}
AllIn r [] (v ∷ vs) = ⊥
AllIn r (b ∷ bs) [] = ⊥
AllIn r (b ∷ bs) (v ∷ vs) = (b ≡ true → in_range v r ≡ true) × AllIn r bs vs

chosen : (r : Range) (g v w : ℤ) (b c : Bool) → (b ≡ true → in_range v r ≡ true) → (c ≡ true → in_range w r ≡ true) → (b && c) ≡ true → in_range (selected g v w) r ≡ true
chosen r g v w true true p q h = by_test (is_truth g)
  where
    by_test : (test : Bool) → in_range (if test then w else v) r ≡ true
    by_test true = q refl
    by_test false = p refl
chosen r g v w true false p q h = cc
chosen r g v w false c p q h = cc

chosen-in : (r : Range) (f : Function) (t : Elementary) (bs : List Bool) (vs : List ℤ) → AllIn r bs vs → chosen_stay f bs ≡ true → in_range (function_result f t vs) r ≡ true
chosen-in r (functions.Convert from) t bs vs a h = cc
chosen-in r functions.Absolute t bs vs a h = cc
chosen-in r functions.Minimum t bs vs a h = cc
chosen-in r functions.Maximum t bs vs a h = cc
chosen-in r functions.Limit t bs vs a h = cc
chosen-in r (functions.Shift s n) t bs vs a h = cc
chosen-in r functions.Select t [] vs a h = cc
chosen-in r functions.Select t (b ∷ []) vs a h = cc
chosen-in r functions.Select t (b ∷ c ∷ []) vs a h = cc
chosen-in r functions.Select t (b ∷ c ∷ d ∷ []) [] a h = absurd a
chosen-in r functions.Select t (b ∷ c ∷ d ∷ []) (u ∷ []) a h = absurd a.1
chosen-in r functions.Select t (b ∷ c ∷ d ∷ []) (u ∷ v ∷ []) a h = absurd a.1.1
chosen-in r functions.Select t (b ∷ c ∷ d ∷ []) (u ∷ v ∷ w ∷ []) a h = chosen r u v w c d a.1.0 a.1.1.0 h
chosen-in r functions.Select t (b ∷ c ∷ d ∷ []) (u ∷ v ∷ w ∷ x ∷ vs) a h = absurd a.1.1.1
chosen-in r functions.Select t (b ∷ c ∷ d ∷ e ∷ bs) vs a h = cc

by_either : {P : Type 0} (a b c : Bool) → (a || (b && c)) ≡ true → (a ≡ true → P) → (b ≡ true → c ≡ true → P) → P
by_either true b c h p q = p refl
by_either false true true h p q = q refl refl
by_either false true false h p q = cc
by_either false false c h p q = cc

module _ (frames : ℕ → FrameData) (callees : Callees) (MayCall : ℕ → ℕ → Type 0) (own : List Range) (base : ℕ) (s : State) (range : IsInRange own s)
    (answers : (f inputs : ℕ) (vs : List ℤ) → MayCall f inputs → in_range (answer_in (callees.ends f vs)) (range_at (frames f).ranges 1) ≡ true) where
  last-in : (first : Bool) (v : ℤ) (os : Operands) (r : Range) → (first ≡ true → in_range v r ≡ true) → last_stays first os r ≡ true → in_range (value_on callees base v os s) r ≡ true
  last-in first v no_operands r is h = is h
  last-in first v (operand o t e os) r is h =
      last-in (covers r (range_of (result_type o t))) (applied o t v (value_of callees base e s)) os r (λ c. covers_in r (range_of (result_type o t)) (applied o t v (value_of callees base e s)) c (wrapped_in (result_type o t) _)) h

  mutual
    pub stays : (e : Expression) (r : Range) → stays_in frames own base e r ≡ true → IsTypedValue frames MayCall own base e → in_range (value_of callees base e s) r ≡ true
    stays (number v) r h b = h
    stays (cell place) r h b = covers_in r (range_at own (base + place)) _ h (in_range-at own s (base + place) range b.1)
    stays (unary o t e) r h b = covers_in r (range_of t) (unary_applied o t (value_of callees base e s)) h (wrapped_in t _)
    stays (chain e os) r h b = last-in (stays_in frames own base e r) (value_of callees base e s) os r (λ c. stays e r c b.0) h
    stays (call_standard f t es) r h b =
        let vs = values_of callees base es s in
        let all = stays_each es r b in
        by_either (covers r (range_of t)) (covers (range_of t) r) (chosen_stay f (each_stays frames own base es r)) h
        (λ c. covers_in r (range_of t) (called f t vs) c (wrapped_in t _))
        (λ c d. let is = chosen-in r f t (each_stays frames own base es r) vs all d in subst (λ v. in_range v r ≡ true) (sym (wrapped_same t (function_result f t vs) (covers_in (range_of t) r (function_result f t vs) c is))) is)
    stays (call_function f es) r h b = covers_in r (range_at (frames f).ranges 1) _ h (answers f (arity es) (values_of callees base es s) b.0)

    stays_each : (es : Expressions) (r : Range) → AreTypedValues frames MayCall own base es → AllIn r (each_stays frames own base es r) (values_of callees base es s)
    stays_each no_expressions r b = tt
    stays_each (expression e es) r b = (λ h. stays e r h b.0, stays_each es r b.1)

-- ---- tests joined by OR

or_pairs : (a b c d : Bool) → ((a || b) || (c || d)) ≡ ((a || c) || (b || d))
or_pairs true b c d = refl
or_pairs false true true d = refl
or_pairs false true false d = refl
or_pairs false false true d = refl
or_pairs false false false d = refl

or_triples : (a b c m d : Bool) → ((a || b) || (c || m || d)) ≡ ((a || c) || m || (b || d))
or_triples true b c m d = refl
or_triples false true true m d = refl
or_triples false true false true d = refl
or_triples false true false false d = refl
or_triples false false true m d = refl
or_triples false false false true d = refl
or_triples false false false false d = refl

or_inputs : (a f n r u : Bool) → ((a || (f || n)) || (r || u)) ≡ (((a || f) || r) || (n || u))
or_inputs true f n r u = refl
or_inputs false true n r u = refl
or_inputs false false true true u = refl
or_inputs false false true false u = refl
or_inputs false false false r u = refl

split_fault : (a b : Bool) (u v : ℤ) → v ≡ (if a || b then pos 1 else u) → v ≡ (if b then pos 1 else (if a then pos 1 else u))
split_fault true true u v e = e
split_fault true false u v e = e
split_fault false true u v e = e
split_fault false false u v e = e

-- ---- operands, expressions and inputs, as `Evaluated` says it of an expression

pub record OperandsEvaluated (callees : Callees) (base : ℕ) (os left : Operands) (s : State) (k j : ℕ) (x y : State) : Type 0 where
  pub faulted : Bool
  pub reached : Reached k faulted x y
  pub value : (v : ℤ) (z : State) → SameUpTo j y z → value_on no_callees 0 v left z ≡ value_on callees base v os s
  pub faults : (z : State) → SameUpTo j y z → (faulted || any_faults no_callees 0 left z) ≡ any_faults callees base os s

pub record AllEvaluated (callees : Callees) (base : ℕ) (es left : Expressions) (s : State) (k j : ℕ) (x y : State) : Type 0 where
  pub faulted : Bool
  pub reached : Reached k faulted x y
  pub values : (z : State) → SameUpTo j y z → values_of no_callees 0 left z ≡ values_of callees base es s
  pub faults : (z : State) → SameUpTo j y z → (faulted || one_faults no_callees 0 left z) ≡ one_faults callees base es s

pub record InputsGiven (rs : List Range) (cs : List Scratch) (bodies : Bodies) (callees : Callees) (base : ℕ) (s : State) (frame : FrameData) (place : ℕ) (es : Expressions) (k : ℕ) (u x y : State) : Type 0 where
  pub reached : Reached k (one_faults callees base es s || unfit frame.ranges place (values_of callees base es s)) x y
  pub seated : Seated rs cs frame k (k + length (input_scratch bodies frame place es)) place (input_places bodies es k)
  pub filled : Filled y (given frame.ranges place (values_of callees base es s) u) place (input_places bodies es k)

module _ (callees : Callees) (base : ℕ) (s : State) where
  reached_by : (e left : Expression) (k j : ℕ) (x y : State) → (ev : Evaluated callees base e left s k j x y) → Reached k ev.faulted x y
  reached_by e left k j x y ev = record { long = ev.long; kept = ev.kept; fault = ev.fault }

  still : (k j : ℕ) (b : Bool) (x y z : State) → k ≤ j → Reached k b x y → SameUpTo j y z → SameUpTo k x z
  still k j b x y z h r same = λ p low high. same p low (omega arith) ∙ r.kept p low high

  chain_evaluated : (e left : Expression) (os lefts : Operands) (k j1 j j2 : ℕ) (x x1 y : State) → k ≤ j1 → j1 ≤ j → j2 ≡ j → Evaluated callees base e left s k j1 x x1 → OperandsEvaluated callees base os lefts s j1 j x1 y
      → Evaluated callees base (chain e os) (chain left lefts) s k j2 x y
  chain_evaluated e left os lefts k j1 j j2 x x1 y low high same ev more =
      let all = Reached-both k j1 ev.faulted more.faulted x x1 y low (reached_by e left k j1 x x1 ev) more.reached in
      record {
        long = all.long;
        kept = all.kept;
        faulted = ev.faulted || more.faulted;
        fault = all.fault;
        value = λ z h. let h2 : SameUpTo j y z = λ p a b. h p a (omega arith) in
            ap (λ v. value_on no_callees 0 v lefts z) (ev.value z (still j1 j more.faulted x1 y z high more.reached h2)) ∙ more.value (value_of callees base e s) z h2;
        faults = λ z h. let h2 : SameUpTo j y z = λ p a b. h p a (omega arith) in
            let one = ev.faults z (still j1 j more.faulted x1 y z high more.reached h2) in
            let two = more.faults z h2 in
            or_pairs ev.faulted more.faulted (faults no_callees 0 left z) (any_faults no_callees 0 lefts z) ∙ ap (λ b. b || (more.faulted || any_faults no_callees 0 lefts z)) one ∙ ap (λ b. faults callees base e s || b) two;
      }

  operand_evaluated : (o : Operator) (t : Elementary) (e left : Expression) (os lefts : Operands) (k j1 j j2 : ℕ) (x x1 y : State) → k ≤ j1 → j1 ≤ j → j2 ≡ j → Evaluated callees base e left s k j1 x x1 → OperandsEvaluated callees base os lefts s j1 j x1 y
      → OperandsEvaluated callees base (operand o t e os) (operand o t left lefts) s k j2 x y
  operand_evaluated o t e left os lefts k j1 j j2 x x1 y low high same ev more = record {
    faulted = ev.faulted || more.faulted;
    reached = Reached-both k j1 ev.faulted more.faulted x x1 y low (reached_by e left k j1 x x1 ev) more.reached;
    value = λ v z h. let h2 : SameUpTo j y z = λ p a b. h p a (omega arith) in
        ap (λ w. value_on no_callees 0 (applied o t v w) lefts z) (ev.value z (still j1 j more.faulted x1 y z high more.reached h2)) ∙ more.value (applied o t v (value_of callees base e s)) z h2;
    faults = λ z h. let h2 : SameUpTo j y z = λ p a b. h p a (omega arith) in
        let h1 = still j1 j more.faulted x1 y z high more.reached h2 in
        or_triples ev.faulted more.faulted (faults no_callees 0 left z) (divides_by_zero o (value_of no_callees 0 left z)) (any_faults no_callees 0 lefts z)
        ∙ ap (λ b. b || divides_by_zero o (value_of no_callees 0 left z) || (more.faulted || any_faults no_callees 0 lefts z)) (ev.faults z h1)
        ∙ ap (λ v. faults callees base e s || divides_by_zero o v || (more.faulted || any_faults no_callees 0 lefts z)) (ev.value z h1)
        ∙ ap (λ b. faults callees base e s || divides_by_zero o (value_of callees base e s) || b) (more.faults z h2);
  }

  expression_evaluated : (e left : Expression) (es lefts : Expressions) (k j1 j j2 : ℕ) (x x1 y : State) → k ≤ j1 → j1 ≤ j → j2 ≡ j → Evaluated callees base e left s k j1 x x1 → AllEvaluated callees base es lefts s j1 j x1 y
      → AllEvaluated callees base (expression e es) (expression left lefts) s k j2 x y
  expression_evaluated e left es lefts k j1 j j2 x x1 y low high same ev more = record {
    faulted = ev.faulted || more.faulted;
    reached = Reached-both k j1 ev.faulted more.faulted x x1 y low (reached_by e left k j1 x x1 ev) more.reached;
    values = λ z h. let h2 : SameUpTo j y z = λ p a b. h p a (omega arith) in
        ap (λ v. v ∷ values_of no_callees 0 lefts z) (ev.value z (still j1 j more.faulted x1 y z high more.reached h2)) ∙ ap (λ vs. value_of callees base e s ∷ vs) (more.values z h2);
    faults = λ z h. let h2 : SameUpTo j y z = λ p a b. h p a (omega arith) in
        or_pairs ev.faulted more.faulted (faults no_callees 0 left z) (one_faults no_callees 0 lefts z)
        ∙ ap (λ b. b || (more.faulted || one_faults no_callees 0 lefts z)) (ev.faults z (still j1 j more.faulted x1 y z high more.reached h2))
        ∙ ap (λ b. faults callees base e s || b) (more.faults z h2);
  }

-- one input more
module _ (rs : List Range) (cs : List Scratch) (cells : 0 < length rs) (bodies : Bodies) (callees : Callees) (base : ℕ) (s : State) (frame : FrameData) where
  input_given : (place : ℕ) (e left : Expression) (es : Expressions) (k j : ℕ) (u x x1 w y : State) → 0 < place → place < length frame.ranges → length u ≡ length frame.ranges → held u place ≡ initial_at frame place
      → 0 < k → j ≡ k + length (scratch_in bodies e) → (ev : Evaluated callees base e left s k j x x1)
      → ((v : ℤ) → takes cs (j - length rs) v ≡ (not (type_at frame.types place).is_subrange || in_range v (range_at frame.ranges place)))
      → ((b : Bool) × ((ev.faulted || b) ≡ faults callees base e s) × Reached j (b || not (in_range (value_of callees base e s) (range_at frame.ranges place))) x1 w × (held w j ≡ (if in_range (value_of callees base e s) (range_at frame.ranges place) then value_of callees base e s else initial_at frame place)))
      → InputsGiven rs cs bodies callees base s frame (place + 1) es (j + 1) (stored frame.ranges place (value_of callees base e s) u) w y
      → InputsGiven rs cs bodies callees base s frame place (expression e es) k u x y
  input_given place e left es k j u x x1 w y some less long is low same ev fits put more =
      let v = value_of callees base e s in
      let r = range_at frame.ranges place in
      let vs = values_of callees base es s in
      let parts = length-append (scratch_in bodies e) (scratch_at frame place ∷ input_scratch bodies frame (place + 1) es) in
      let first = Reached-both k j ev.faulted (put.0 || not (in_range v r)) x x1 w (omega arith) (reached_by callees base s e left k j x x1 ev) put.2 in
      let all = Reached-both k (j + 1) (ev.faulted || (put.0 || not (in_range v r))) (one_faults callees base es s || unfit frame.ranges (place + 1) vs) x w y (omega arith) first more.reached in
      let tests : ((ev.faulted || (put.0 || not (in_range v r))) || (one_faults callees base es s || unfit frame.ranges (place + 1) vs)) ≡ ((faults callees base e s || one_faults callees base es s) || (not (in_range v r) || unfit frame.ranges (place + 1) vs))
      = or_inputs ev.faulted put.0 (not (in_range v r)) (one_faults callees base es s) (unfit frame.ranges (place + 1) vs) ∙ ap (λ b. (b || one_faults callees base es s) || (not (in_range v r) || unfit frame.ranges (place + 1) vs)) put.1 in
      let held_now : held y j ≡ held (given frame.ranges (place + 1) vs (stored frame.ranges place v u)) place
      = more.reached.kept j (omega arith) (omega arith) ∙ put.3 ∙ ap (λ (d : ℤ). if in_range v r then v else d) (sym is) ∙ sym (given-before frame.ranges (place + 1) place vs (stored frame.ranges place v u) some (omega arith) ∙ stored-same frame.ranges place v u some (omega arith)) in
      record {
        reached = Reached-same k _ _ x y tests all;
        seated = subst (λ i. Seated rs cs frame k (k + length (input_scratch bodies frame place (expression e es))) place (i ∷ input_places bodies es (i + 1))) same
            (omega arith, fits, subst (λ n. Seated rs cs frame (j + 1) n (place + 1) (input_places bodies es (j + 1))) (let end : j + 1 + length (input_scratch bodies frame (place + 1) es) ≡ k + length (input_scratch bodies frame place (expression e es)) = omega arith in end) more.seated);
        filled = subst (λ i. Filled y (given frame.ranges place (values_of callees base (expression e es) s) u) place (i ∷ input_places bodies es (i + 1))) same (held_now, more.filled);
      }

-- ---- a call

given-kept : (rs : List Range) → in_range (pos 1) (range_at rs 0) ≡ true → (place : ℕ) (vs : List ℤ) (u : State) → IsInRange rs u → IsInRange rs (given rs place vs u)
given-kept rs fault place [] u range = range
given-kept rs fault place (v ∷ vs) u range =
    given-kept rs fault (place + 1) vs (stored rs place v u) (either rs (in_range v (range_at rs place)) _ _ (λ h. IsInRange-set rs u place v range h) (λ _. IsInRange-set rs u 0 (pos 1) range fault))

given-in_range : (frame : FrameData) (inputs : ℕ) (vs : List ℤ) → FrameFits frame inputs → IsInRange frame.ranges (given frame.ranges 2 vs frame.start)
given-in_range frame inputs vs fits =
    let low = fits.fault_low in
    let high = fits.fault_high in
    given-kept frame.ranges (in_range_from (pos 1) (range_at frame.ranges 0) (omega (arith, ints)) (omega (arith, ints))) 2 vs frame.start fits.start_in_range

length-places : (bodies : Bodies) (es : Expressions) (k : ℕ) → length (input_places bodies es k) ≡ arity es
length-places bodies no_expressions k = refl
length-places bodies (expression e es) k = ap suc (length-places bodies es (k + length (scratch_in bodies e) + 1)) ∙ (let more : suc (arity es) ≡ arity es + 1 = omega arith in more)

length-values : (callees : Callees) (base : ℕ) (s : State) (es : Expressions) → length (values_of callees base es s) ≡ arity es
length-values callees base s no_expressions = refl
length-values callees base s (expression e es) = ap suc (length-values callees base s es) ∙ (let more : suc (arity es) ≡ arity es + 1 = omega arith in more)

no_fault_at_start : (u : State) → held u 0 ≡ pos 0 → fault_in u ≡ false
no_fault_at_start u h = rw h

module _ (rs : List Range) (cs : List Scratch) (cells : 0 < length rs) (bodies : Bodies) (callees : Callees) (base : ℕ) (s : State) (f : ℕ) (es : Expressions) (c : CallRuns rs cs bodies callees f (arity es)) where
  call_evaluated : (k : ℕ) (x x1 : State) → length rs ≤ k → InputsGiven rs cs bodies callees base s (bodies.frame f) 2 es k (bodies.frame f).start x x1
      → Stands rs cs (k + length (input_scratch bodies (bodies.frame f) 2 es)) (rest_scratch bodies (bodies.frame f) f (arity es))
      → k + length (input_scratch bodies (bodies.frame f) 2 es ++ rest_scratch bodies (bodies.frame f) f (arity es)) ≤ length x
      → Evaluated callees base (call_function f es) (cell (k + length (input_scratch bodies (bodies.frame f) 2 es) + others_behind (bodies.frame f) (arity es))) s k
      (k + length (input_scratch bodies (bodies.frame f) 2 es ++ rest_scratch bodies (bodies.frame f) f (arity es))) x
      (run_of_all rs cs (flats_of (rest_list bodies (bodies.frame f) f (arity es) (input_places bodies es k) (k + length (input_scratch bodies (bodies.frame f) 2 es)))) x1)
  call_evaluated k x x1 le given_now stands room =
      let frame = bodies.frame f in
      let fits : FrameFits frame (arity es) = c.fits in
      let vs = values_of callees base es s in
      let t = given frame.ranges 2 vs frame.start in
      let o = others_behind frame (arity es) in
      let k1 = k + length (input_scratch bodies frame 2 es) in
      let places = input_places bodies es k in
      let ps = places_of places k1 o in
      let after = bodies.call_scratch f in
      let same_long = fits.ranges in
      let enough = fits.room in
      let start_long = IsInRange-length frame.ranges frame.start fits.start_in_range in
      let t_long = given-long frame.ranges 2 vs frame.start in
      let vs_long = length-values callees base s es in
      let met = one_faults callees base es s in
      let g : ℤ = (if met then pos 1 else held x 0) in
      let t_fault : fault_in t ≡ unfit frame.ranges 2 vs = given-fault frame.ranges 2 vs frame.start (omega arith) (omega arith) ∙ ap (λ b. b || unfit frame.ranges 2 vs) (no_fault_at_start frame.start fits.no_fault) in
      let fault : held x1 0 ≡ (if fault_in t then pos 1 else g) = split_fault met (unfit frame.ranges 2 vs) (held x 0) (held x1 0) given_now.reached.fault ∙ ap (λ (b : Bool). if b then pos 1 else g) (sym t_fault) in
      let others_long = length-other frame (2 + arity es) o in
      let rest_parts = length-append (other_scratch frame (2 + arity es) o) (scratch_at frame 1 ∷ after) in
      let parts = length-append (input_scratch bodies frame 2 es) (rest_scratch bodies frame f (arity es)) in
      let x1_long = given_now.reached.long in
      let b : CallBegun rs cs frame k k1 o ps after g t x1 (placed rs cs (k1 + o) (initial_at frame 1) (run_of_all rs cs (flats_of (other_starts frame (2 + arity es) o k1)) x1))
      = call_begun rs cs frame cells (arity es) k k1 places fits after g t x1 le (length-places bodies es k) given_now.seated given_now.filled (t_long ∙ sym start_long)
      (given-before frame.ranges 2 1 vs frame.start (omega arith) (omega arith)) (λ p h. given-behind frame.ranges 2 p vs frame.start (omega arith) (omega arith)) fault stands (omega arith) in
      let y = placed rs cs (k1 + o) (initial_at frame 1) (run_of_all rs cs (flats_of (other_starts frame (2 + arity es) o k1)) x1) in
      let w = run_of_all rs cs (flats_of (bodies.call_list f (k1 + o) ps (k1 + o + 1))) y in
      let order = Seated-order rs cs frame k k1 2 places given_now.seated in
      let done : Done (length frame.ranges) (k1 + o + 1) (call_owner (k1 + o) ps) g (c.effect t) y w
      = c.runs (k1 + o) ps (k1 + o + 1) g t y b.owns b.shows (given-in_range frame (arity es) vs fits) (omega arith) b.room b.stands in
      let ends : callees.ends f vs ≡ c.effect t = c.ends vs in
      let w_long = done.ran.long in
      let y_long = b.reached.long in
      let all : Evaluated callees base (call_function f es) (cell (k1 + o)) s k (k + length (input_scratch bodies frame 2 es ++ rest_scratch bodies frame f (arity es))) x w = record {
        long = w_long ∙ y_long ∙ x1_long;
        kept = λ p low high. done.ran.same p low (omega arith) (λ q q_low q_high e. let far = b.far q q_low q_high in omega arith) ∙ b.reached.kept p low (omega arith) ∙ given_now.reached.kept p low high;
        faulted = met || fault_in (callees.ends f vs);
        fault = either_fault met (fault_in (callees.ends f vs)) (held x 0) g (held w 0) refl (done.shown.fault ∙ ap (λ (u : State). if fault_in u then pos 1 else g) (sym ends));
        value = λ z h. ap (λ n. held z n) (zero-add (k1 + o)) ∙ h (k1 + o) (omega arith) (omega arith) ∙ done.shown.cells 1 (omega arith) (omega arith) ∙ ap answer_in (sym ends);
        faults = λ z h. or-false (met || fault_in (callees.ends f vs));
      } in
      subst (λ l. Evaluated callees base (call_function f es) (cell (k1 + o)) s k (k + length (input_scratch bodies frame 2 es ++ rest_scratch bodies frame f (arity es))) x l)
      (sym (run-append rs cs (other_starts frame (2 + arity es) o k1) (set (k1 + o) (number (initial_at frame 1)) ∷ bodies.call_list f (k1 + o) ps (k1 + o + 1)) x1)) all

-- ---- expressions

module _ (rs : List Range) (cs : List Scratch) (cells : 0 < length rs) (bodies : Bodies) (callees : Callees) (MayCall : ℕ → ℕ → Type 0) (each_call : (f inputs : ℕ) → MayCall f inputs → CallRuns rs cs bodies callees f inputs) where
  -- what a FUNCTION answers lies in its range
  pub answers-in : (f inputs : ℕ) (vs : List ℤ) → MayCall f inputs → in_range (answer_in (callees.ends f vs)) (range_at (bodies.frame f).ranges 1) ≡ true
  answers-in f inputs vs may =
      let c = each_call f inputs may in
      let frame = bodies.frame f in
      let fits : FrameFits frame inputs = c.fits in
      let long = fits.ranges in
      let room = fits.room in
      subst (λ u. in_range (answer_in u) (range_at frame.ranges 1) ≡ true) (sym (c.ends vs)) (in_range-at frame.ranges _ 1 (c.keeps _ (given-in_range frame inputs vs fits)) (omega arith))

  module _ (own : List Range) (tested : ℕ → Bool) (owner : OwnerData) (base : ℕ) (s : State) (range : IsInRange own s) where
    -- the owner's cells, FAULT apart
    abbrev Cells : State → Type 0
    Cells x = (p : ℕ) → 0 < p → p < length own → held x (owner p) ≡ held s p

    cells_kept : (k : ℕ) (x y : State) → Owns rs cs own tested owner k → SameUpTo k x y → Cells x → Cells y
    cells_kept k x y o same is = λ p low high. same (owner p) (o.above p low high) (o.below p low high) ∙ is p low high

    mutual
      pub value_evaluated : (e : Expression) (k : ℕ) (x : State) → IsTypedValue bodies.frame MayCall own base e → Owns rs cs own tested owner k → Cells x → length rs ≤ k → k + length (scratch_in bodies e) ≤ length x → Stands rs cs k (scratch_in bodies e)
          → Evaluated callees base e (moved bodies owner base e k) s k (k + length (scratch_in bodies e)) x (run_of_all rs cs (flats_of (before bodies owner base e k)) x)
      value_evaluated (number v) k x b o is le room stands = record { long = refl; kept = λ p low high. refl; faulted = false; fault = refl; value = λ z h. refl; faults = λ z h. refl }
      value_evaluated (cell place) k x b o is le room stands = record {
        long = refl;
        kept = λ p low high. refl;
        faulted = false;
        fault = refl;
        value = λ z h. let above = o.above (base + place) b.0 b.1 in let below = o.below (base + place) b.0 b.1 in
            ap (λ n. held z n) (zero-add (owner (base + place))) ∙ h (owner (base + place)) above (omega arith) ∙ is (base + place) b.0 b.1;
        faults = λ z h. refl;
      }
      value_evaluated (unary u t e) k x b o is le room stands =
          let ev = value_evaluated e k x b o is le room stands in
          record { long = ev.long; kept = ev.kept; faulted = ev.faulted; fault = ev.fault; value = λ z h. ap (unary_applied u t) (ev.value z h); faults = ev.faults }
      value_evaluated (chain e os) k x b o is le room stands =
          let here = scratch_in bodies e in
          let there = operand_scratch bodies os in
          let parts = length-append here there in
          let j = k + length here in
          let ev = value_evaluated e k x b.0 o is le (omega arith) (Stands-front rs cs k here there stands) in
          let x1 = run_of_all rs cs (flats_of (before bodies owner base e k)) x in
          let long = ev.long in
          let more = operands_evaluated os j x1 b.1 (Owns-later rs cs own tested owner k j (omega arith) o) (cells_kept k x x1 o ev.kept is) (omega arith) (omega arith) (Stands-back rs cs k here there stands) in
          subst (λ y. Evaluated callees base (chain e os) (moved bodies owner base (chain e os) k) s k (k + length (here ++ there)) x y) (sym (run-append rs cs (before bodies owner base e k) (operands_before bodies owner base os j) x))
          (chain_evaluated callees base s e (moved bodies owner base e k) os (moved_operands bodies owner base os j) k j (j + length there) (k + length (here ++ there)) x x1 _ (omega arith) (omega arith) (omega arith) ev more)
      value_evaluated (call_standard f t es) k x b o is le room stands =
          let all = all_evaluated es k x b o is le room stands in
          record {
            long = all.reached.long;
            kept = all.reached.kept;
            faulted = all.faulted;
            fault = all.reached.fault;
            value = λ z h. ap (called f t) (all.values z h);
            faults = all.faults;
          }
      value_evaluated (call_function f es) k x b o is le room stands =
          let frame = bodies.frame f in
          let c = each_call f (arity es) b.0 in
          let fits : FrameFits frame (arity es) = c.fits in
          let here = input_scratch bodies frame 2 es in
          let there = rest_scratch bodies frame f (arity es) in
          let parts = length-append here there in
          let same_long = fits.ranges in
          let enough = fits.room in
          let start_long = IsInRange-length frame.ranges frame.start fits.start_in_range in
          let x1 = run_of_all rs cs (flats_of (inputs_before bodies owner base frame 2 es k)) x in
          let ready = inputs_given frame (begins frame (arity es) fits) 2 es k frame.start x (omega arith) b.1 (omega arith) (sym start_long) (λ p h. refl) o is le (omega arith) (Stands-front rs cs k here there stands) in
          subst (λ y. Evaluated callees base (call_function f es) (moved bodies owner base (call_function f es) k) s k (k + length (here ++ there)) x y)
          (sym (run-append rs cs (inputs_before bodies owner base frame 2 es k) (rest_list bodies frame f (arity es) (input_places bodies es k) (k + length here)) x))
          (call_evaluated rs cs cells bodies callees base s f es c k x x1 le ready (Stands-back rs cs k here there stands) room)

      pub operands_evaluated : (os : Operands) (k : ℕ) (x : State) → AreTypedOperands bodies.frame MayCall own base os → Owns rs cs own tested owner k → Cells x → length rs ≤ k → k + length (operand_scratch bodies os) ≤ length x → Stands rs cs k (operand_scratch bodies os)
          → OperandsEvaluated callees base os (moved_operands bodies owner base os k) s k (k + length (operand_scratch bodies os)) x (run_of_all rs cs (flats_of (operands_before bodies owner base os k)) x)
      operands_evaluated no_operands k x b o is le room stands = record { faulted = false; reached = Reached-none k x; value = λ v z h. refl; faults = λ z h. refl }
      operands_evaluated (operand u t e os) k x b o is le room stands =
          let here = scratch_in bodies e in
          let there = operand_scratch bodies os in
          let parts = length-append here there in
          let j = k + length here in
          let ev = value_evaluated e k x b.0 o is le (omega arith) (Stands-front rs cs k here there stands) in
          let x1 = run_of_all rs cs (flats_of (before bodies owner base e k)) x in
          let long = ev.long in
          let more = operands_evaluated os j x1 b.1 (Owns-later rs cs own tested owner k j (omega arith) o) (cells_kept k x x1 o ev.kept is) (omega arith) (omega arith) (Stands-back rs cs k here there stands) in
          subst (λ y. OperandsEvaluated callees base (operand u t e os) (moved_operands bodies owner base (operand u t e os) k) s k (k + length (here ++ there)) x y) (sym (run-append rs cs (before bodies owner base e k) (operands_before bodies owner base os j) x))
          (operand_evaluated callees base s u t e (moved bodies owner base e k) os (moved_operands bodies owner base os j) k j (j + length there) (k + length (here ++ there)) x x1 _ (omega arith) (omega arith) (omega arith) ev more)

      pub all_evaluated : (es : Expressions) (k : ℕ) (x : State) → AreTypedValues bodies.frame MayCall own base es → Owns rs cs own tested owner k → Cells x → length rs ≤ k → k + length (all_scratch bodies es) ≤ length x → Stands rs cs k (all_scratch bodies es)
          → AllEvaluated callees base es (all_moved bodies owner base es k) s k (k + length (all_scratch bodies es)) x (run_of_all rs cs (flats_of (all_before bodies owner base es k)) x)
      all_evaluated no_expressions k x b o is le room stands = record { faulted = false; reached = Reached-none k x; values = λ z h. refl; faults = λ z h. refl }
      all_evaluated (expression e es) k x b o is le room stands =
          let here = scratch_in bodies e in
          let there = all_scratch bodies es in
          let parts = length-append here there in
          let j = k + length here in
          let ev = value_evaluated e k x b.0 o is le (omega arith) (Stands-front rs cs k here there stands) in
          let x1 = run_of_all rs cs (flats_of (before bodies owner base e k)) x in
          let long = ev.long in
          let more = all_evaluated es j x1 b.1 (Owns-later rs cs own tested owner k j (omega arith) o) (cells_kept k x x1 o ev.kept is) (omega arith) (omega arith) (Stands-back rs cs k here there stands) in
          subst (λ y. AllEvaluated callees base (expression e es) (all_moved bodies owner base (expression e es) k) s k (k + length (here ++ there)) x y) (sym (run-append rs cs (before bodies owner base e k) (all_before bodies owner base es j) x))
          (expression_evaluated callees base s e (moved bodies owner base e k) es (all_moved bodies owner base es j) k j (j + length there) (k + length (here ++ there)) x x1 _ (omega arith) (omega arith) (omega arith) ev more)

      pub inputs_given : (frame : FrameData) (begin : (p : ℕ) → p < length frame.ranges → in_range (initial_at frame p) (range_at frame.ranges p) ≡ true) (place : ℕ) (es : Expressions) (k : ℕ) (u x : State) → 0 < place → AreTypedInputs bodies.frame MayCall own base frame place es
          → place + arity es ≤ length frame.ranges → length u ≡ length frame.ranges → ((p : ℕ) → place ≤ p → held u p ≡ initial_at frame p)
          → Owns rs cs own tested owner k → Cells x → length rs ≤ k → k + length (input_scratch bodies frame place es) ≤ length x → Stands rs cs k (input_scratch bodies frame place es)
          → InputsGiven rs cs bodies callees base s frame place es k u x (run_of_all rs cs (flats_of (inputs_before bodies owner base frame place es k)) x)
      inputs_given frame begin place no_expressions k u x some b fit long starts o is le room stands = record { reached = Reached-none k x; seated = omega arith; filled = tt }
      inputs_given frame begin place (expression e es) k u x some b fit long starts o is le room stands =
          let here = scratch_in bodies e in
          let there = input_scratch bodies frame (place + 1) es in
          let parts = length-append here (scratch_at frame place ∷ there) in
          let j = k + length here in
          let left = moved bodies owner base e k in
          let v = value_of callees base e s in
          let ev = value_evaluated e k x b.0 o is le (omega arith) (Stands-front rs cs k here (scratch_at frame place ∷ there) stands) in
          let x1 = run_of_all rs cs (flats_of (before bodies owner base e k)) x in
          let x1_long = ev.long in
          let behind : Stands rs cs j (scratch_at frame place ∷ there) = Stands-back rs cs k here (scratch_at frame place ∷ there) stands in
          let fits : (w : ℤ) → takes cs (j - length rs) w ≡ (not (type_at frame.types place).is_subrange || in_range w (range_at frame.ranges place))
          = λ w. let same : j - length rs ≡ j + 0 - length rs = omega arith in ap (λ i. takes cs i w) same ∙ behind 0 w (omega arith) in
          let may : ((type_at frame.types place).is_subrange || in_range v (range_at frame.ranges place)) ≡ true
          = tested_fits (type_at frame.types place).is_subrange (stays_in bodies.frame own base e (range_at frame.ranges place)) (in_range v (range_at frame.ranges place)) b.1
          (λ h. stays bodies.frame callees MayCall own base s range answers-in e (range_at frame.ranges place) h b.0) in
          let put = input_set rs cs frame cells begin place j left v ev.faulted (faults callees base e s) x1 (omega arith) (omega arith) (omega arith) fits may ev.value ev.faults in
          let w = run_of rs cs (set j left) (run_of_all rs cs (flats_of (input_start frame place j)) x1) in
          let w_long = put.2.reached.long in
          let u_long = length-stored frame.ranges place v u in
          let up : SameUpTo k x w = λ p low high. put.2.reached.kept p low (omega arith) ∙ ev.kept p low high in
          let more = inputs_given frame begin (place + 1) es (j + 1) (stored frame.ranges place v u) w (omega arith) b.2 (omega (arith, fit)) (u_long ∙ long)
          (λ p h. stored-other frame.ranges place p v u (omega arith) (omega arith) ∙ starts p (omega arith))
          (Owns-later rs cs own tested owner k (j + 1) (omega arith) o) (cells_kept k x w o up is) (omega arith) (omega arith) (Stands-back rs cs j (scratch_at frame place ∷ []) there behind) in
          let y = run_of_all rs cs (flats_of (inputs_before bodies owner base frame (place + 1) es (j + 1))) w in
          let parts_run : run_of_all rs cs (flats_of (inputs_before bodies owner base frame place (expression e es) k)) x ≡ y
          = run-append rs cs (before bodies owner base e k) (input_start frame place j ++ (set j left ∷ inputs_before bodies owner base frame (place + 1) es (j + 1))) x
          ∙ run-append rs cs (input_start frame place j) (set j left ∷ inputs_before bodies owner base frame (place + 1) es (j + 1)) x1 in
          subst (λ l. InputsGiven rs cs bodies callees base s frame place (expression e es) k u x l) (sym parts_run)
          (input_given rs cs cells bodies callees base s frame place e left es k j u x x1 w y some (omega (arith, fit)) long (starts place (omega arith)) (omega arith) refl ev fits (put.0, put.1, put.2.reached, put.2.cell) more)

-- the same where the store shows the state
module _ (rs : List Range) (cs : List Scratch) (bodies : Bodies) (callees : Callees) (MayCall : ℕ → ℕ → Type 0) (each_call : (f inputs : ℕ) → MayCall f inputs → CallRuns rs cs bodies callees f inputs) (own : List Range) (tested : ℕ → Bool) (owner : OwnerData) (base : ℕ) where
  pub evaluated : (e : Expression) (k : ℕ) (f : ℤ) (s x : State) → IsTypedValue bodies.frame MayCall own base e → Owns rs cs own tested owner k → Shows (length own) owner f s x → IsInRange own s → length rs ≤ k → 0 < length rs
      → k + length (scratch_in bodies e) ≤ length x → Stands rs cs k (scratch_in bodies e)
      → Evaluated callees base e (moved bodies owner base e k) s k (k + length (scratch_in bodies e)) x (run_of_all rs cs (flats_of (before bodies owner base e k)) x)
  evaluated e k f s x typed owns shows range le cells room stands = value_evaluated rs cs cells bodies callees MayCall each_call own tested owner base s range e k x typed owns shows.cells le room stands
