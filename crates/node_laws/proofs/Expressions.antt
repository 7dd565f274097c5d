-- The words of expressions have the values of the expressions, and FAULT's word tells whether a fault is met.
use Rattle.std.proofs.Common.{◌≡◌, ℕ, Bool, true, false, ◌||◌, ◌&&◌, refl, sym, ◌∙◌, ap, subst, List, [], ◌∷◌, map, ℤ, pos, zero-add}
use Rattle.std.proofs.Math.Bool.{or-false}
use Rattle.std.specs.Prelude.{if◌then◌else◌, slice_index_or}
use Rattle.plc_types.specs.declared.elementary.Elementary.{Elementary}
use Rattle.plc_types.specs.declared.function.Function.{Function}
use Rattle.plc_types.specs.declared.function.Function.TheVariants as functions
use Rattle.plc_types.specs.declared.range.Range.{Range}
use Rattle.plc_types.specs.Types.{range_of, in_range}
use Rattle.plc_types.proofs.InRange.{covers_in}
use Rattle.plc_types.proofs.TypeRanges.{wrapped_in, wrapped_same}
use Rattle.program_tree.specs.Tree.{Expression, number, cell, unary, chain, call_standard, call_function, Operands, no_operands, operand, Expressions, no_expressions, expression}
use Rattle.program_tree.specs.declared.scratch.Scratch.{Scratch}
use Rattle.program_tree.specs.OperandTypes.{first_operand_kind, first_kind}
use Rattle.program_tree.specs.Places.{place_at}
use Rattle.meaning.specs.Values.{State, number_of, is_truth, selected, unary_applied, applied, result_type, divides_by_zero, called, function_result, no_callees, value_of, value_on, values_of, faults, any_faults, one_faults}
use Rattle.meaning.specs.StaysIn.{covers, last_stays, chosen_stay}
use Rattle.flat_core.specs.FlatRules.{Reads, AllRead, EachReads}
use Rattle.node_core.specs.declared.node.Node.TheVariants.{Constant, Unary}
use Rattle.node_core.specs.Words.{NodeList, Store, word_at, made, joined, called_word, word_of, word_on, words_of}
use Rattle.node_core.specs.TypedFlats.{IsOf, Join, AreOf, stays_in, each_stays}
use Rattle.node_core.proofs.Growth.{grows_made, grows_joined, grows_called, grows_on, grows_words}
use Rattle.node_laws.proofs.Held.{Hold, hold_before, Gives, gives_made, gives_joined}
use Rattle.node_laws.proofs.Functions.{Fit, fit_none, fit_more, gives_called}

-- ---- what the types say of values

-- each value lies in a range where its test holds
abbrev AllIn : Range → List Bool → List ℤ → Type 0
AllIn r [] [] = Unit {0}
AllIn r [] (v ∷ vs) = ⊥
AllIn r (b ∷ bs) [] = ⊥
AllIn r (b ∷ bs) (v ∷ vs) = (b ≡ true → in_range v r ≡ true) × AllIn r bs vs

chosen : (r : Range) (g v w : ℤ) (b c : Bool) → (b ≡ true → in_range v r ≡ true) → (c ≡ true → in_range w r ≡ true) → (b && c) ≡ true → in_range (selected g v w) r ≡ true
chosen r g v w true true p q h = by_test (is_truth g)
  where
    by_test : (test : Bool) → in_range (if test then w else v) r ≡ true
    by_test true = q refl
    by_test false = p refl
chosen r g v w true false p q h = cc
chosen r g v w false c p q h = cc

chosen-in : (r : Range) (f : Function) (t : Elementary) (bs : List Bool) (vs : List ℤ) → AllIn r bs vs → chosen_stay f bs ≡ true → in_range (function_result f t vs) r ≡ true
chosen-in r (functions.Convert from) t bs vs a h = cc
chosen-in r functions.Absolute t bs vs a h = cc
chosen-in r functions.Minimum t bs vs a h = cc
chosen-in r functions.Maximum t bs vs a h = cc
chosen-in r functions.Limit t bs vs a h = cc
chosen-in r (functions.Shift s n) t bs vs a h = cc
chosen-in r functions.Select t [] vs a h = cc
chosen-in r functions.Select t (b ∷ []) vs a h = cc
chosen-in r functions.Select t (b ∷ c ∷ []) vs a h = cc
chosen-in r functions.Select t (b ∷ c ∷ d ∷ []) [] a h = absurd a
chosen-in r functions.Select t (b ∷ c ∷ d ∷ []) (u ∷ []) a h = absurd a.1
chosen-in r functions.Select t (b ∷ c ∷ d ∷ []) (u ∷ v ∷ []) a h = absurd a.1.1
chosen-in r functions.Select t (b ∷ c ∷ d ∷ []) (u ∷ v ∷ w ∷ []) a h = chosen r u v w c d a.1.0 a.1.1.0 h
chosen-in r functions.Select t (b ∷ c ∷ d ∷ []) (u ∷ v ∷ w ∷ x ∷ vs) a h = absurd a.1.1.1
chosen-in r functions.Select t (b ∷ c ∷ d ∷ e ∷ bs) vs a h = cc

by_either : {P : Type 0} (a b c : Bool) → (a || (b && c)) ≡ true → (a ≡ true → P) → (b ≡ true → c ≡ true → P) → P
by_either true b c h p q = p refl
by_either false true true h p q = q refl refl
by_either false true false h p q = cc
by_either false false c h p q = cc

or_assoc : (a b c : Bool) → ((a || b) || c) ≡ (a || (b || c))
or_assoc true b c = refl
or_assoc false b c = refl

-- what is known of a place: its word has the value of the state, which lies in the place's range and in that of its type
pub record Known (val : ℕ → ℤ) (ps : List Scratch) (store : Store) (s : State) (place : ℕ) : Type 0 where
  pub word : val (word_at store place) ≡ slice_index_or s place (pos 0)
  pub inside : in_range (slice_index_or s place (pos 0)) (place_at ps place).range ≡ true
  pub typed : in_range (slice_index_or s place (pos 0)) (range_of (place_at ps place).kind) ≡ true

module _ (val : ℕ → ℤ) (ps : List Scratch) (store : Store) (s : State) (P : ℕ → Type 0) (known : (p : ℕ) → P p → Known val ps store s p) where
  at : (place : ℕ) → P place → let t : ℤ = value_of no_callees 0 (cell place) s in t ≡ slice_index_or s place (pos 0)
  at place h = ap (λ (p : ℕ). slice_index_or s p (pos 0)) (zero-add place)

  last_in : (first : Bool) (v : ℤ) (os : Operands) (r : Range) → (first ≡ true → in_range v r ≡ true) → last_stays first os r ≡ true → in_range (value_on no_callees 0 v os s) r ≡ true
  last_in first v no_operands r is h = is h
  last_in first v (operand o t e os) r is h =
      last_in (covers r (range_of (result_type o t))) (applied o t v (value_of no_callees 0 e s)) os r (λ c. covers_in r (range_of (result_type o t)) (applied o t v (value_of no_callees 0 e s)) c (wrapped_in (result_type o t) _)) h

  mutual
    pub stays : (e : Expression) (r : Range) → stays_in ps e r ≡ true → Reads P e → in_range (value_of no_callees 0 e s) r ≡ true
    stays (number v) r h reads = h
    stays (cell place) r h reads = subst (λ (v : ℤ). in_range v r ≡ true) (sym (at place reads)) (covers_in r (place_at ps place).range _ h (known place reads).inside)
    stays (unary o t e) r h reads = covers_in r (range_of t) (unary_applied o t (value_of no_callees 0 e s)) h (wrapped_in t _)
    stays (chain e os) r h reads = last_in (stays_in ps e r) (value_of no_callees 0 e s) os r (λ c. stays e r c reads.0) h
    stays (call_standard f t es) r h reads =
        let vs = values_of no_callees 0 es s in
        let all = stays_each es r reads in
        by_either (covers r (range_of t)) (covers (range_of t) r) (chosen_stay f (each_stays ps es r)) h
        (λ c. covers_in r (range_of t) (called f t vs) c (wrapped_in t _))
        (λ c d. let is = chosen-in r f t (each_stays ps es r) vs all d in subst (λ v. in_range v r ≡ true) (sym (wrapped_same t (function_result f t vs) (covers_in (range_of t) r (function_result f t vs) c is))) is)
    stays (call_function f es) r h reads = absurd reads

    stays_each : (es : Expressions) (r : Range) → EachReads P es → AllIn r (each_stays ps es r) (values_of no_callees 0 es s)
    stays_each no_expressions r reads = tt
    stays_each (expression e es) r reads = (λ h. stays e r h reads.0, stays_each es r reads.1)

  -- ---- a value of an expression of a type is one of the type

  fits_on : (os : Operands) (left t : Elementary) (v : ℤ) → Join ps left t os → in_range v (range_of left) ≡ true → in_range (value_on no_callees 0 v os s) (range_of t) ≡ true
  fits_on no_operands left t v join h = subst (λ (k : Elementary). in_range v (range_of k) ≡ true) join h
  fits_on (operand o k e os) left t v join h = fits_on os (result_type o k) t (applied o k v (value_of no_callees 0 e s)) join.3 (wrapped_in (result_type o k) _)

  pub fits : (e : Expression) (t : Elementary) → IsOf ps t e → Reads P e → in_range (value_of no_callees 0 e s) (range_of t) ≡ true
  fits (number v) t is reads = is
  fits (cell place) t is reads =
      subst (λ (v : ℤ). in_range v (range_of t) ≡ true) (sym (at place reads)) (subst (λ (k : Elementary). in_range (slice_index_or s place (pos 0)) (range_of k) ≡ true) is (known place reads).typed)
  fits (unary o k e) t is reads = subst (λ (j : Elementary). in_range (unary_applied o k (value_of no_callees 0 e s)) (range_of j) ≡ true) is.0 (wrapped_in k _)
  fits (chain e os) t is reads = fits_on os (first_kind t os) t (value_of no_callees 0 e s) is.1 (fits e (first_kind t os) is.0 reads.0)
  fits (call_standard f k es) t is reads = subst (λ (j : Elementary). in_range (called f k (values_of no_callees 0 es s)) (range_of j) ≡ true) is.0 (wrapped_in k _)
  fits (call_function f es) t is reads = absurd reads

  pub fit_all : (es : Expressions) (first others : Elementary) → AreOf ps first others es → EachReads P es → Fit first others (values_of no_callees 0 es s)
  fit_all no_expressions first others are reads = fit_none first others
  fit_all (expression e es) first others are reads = fit_more first others _ _ (fits e first are.0 reads.0) (fit_all es others others are.1 reads.1)

  -- ---- words

  -- words that have values
  record GivesAll (ws : List ℕ) (n : NodeList) (vs : List ℤ) (b : Bool) : Type 0 where
    each : map val ws ≡ vs
    fault : val n.fault ≡ number_of b

  mutual
    pub gives : (e : Expression) (t : Elementary) (n : NodeList) (b : Bool) → IsOf ps t e → Reads P e → Hold val (word_of store t e n).list → val n.fault ≡ number_of b
        → Gives val (word_of store t e n) (value_of no_callees 0 e s) (b || faults no_callees 0 e s)
    gives (number v) t n b is reads h is_b = gives_made val (Constant t v) n v (b || false) h (is_b ∙ ap number_of (sym (or-false b))) refl
    gives (cell place) t n b is reads h is_b = record { word = (known place reads).word ∙ sym (at place reads); fault = is_b ∙ ap number_of (sym (or-false b)) }
    gives (unary o k e) t n b is reads h is_b =
        let m = word_of store k e n in
        let held = hold_before val m.list (made (Unary o k m.word) m.list).list (grows_made (Unary o k m.word) m.list) h in
        let inner = gives e k n b is.1 reads held is_b in
        gives_made val (Unary o k m.word) m.list _ _ h inner.fault (ap (λ (v : ℤ). unary_applied o k v) inner.word)
    gives (chain e os) t n b is reads h is_b =
        let m = word_of store (first_kind t os) e n in
        let held = hold_before val m.list (word_on store m.word os m.list).list (grows_on store m.word os m.list) h in
        let first = gives e (first_kind t os) n b is.0 reads.0 held is_b in
        let rest = gives_on os (first_kind t os) t m.word m.list (b || faults no_callees 0 e s) is.1 reads.1 h first.fault in
        record {
          word = rest.word ∙ ap (λ (v : ℤ). value_on no_callees 0 v os s) first.word;
          fault = rest.fault ∙ ap number_of (or_assoc b (faults no_callees 0 e s) (any_faults no_callees 0 os s));
        }
    gives (call_standard f k es) t n b is reads h is_b =
        let m = words_of store (first_operand_kind f k) k es n in
        let held = hold_before val m.list (called_word f k m.words m.list).list (grows_called f k m.words m.list) h in
        let all = gives_all es (first_operand_kind f k) k n b is.2 reads held is_b in
        let whole = gives_called val f k m.words m.list (b || one_faults no_callees 0 es s) (subst (λ vs. Fit (first_operand_kind f k) k vs) (sym all.each) (fit_all es (first_operand_kind f k) k is.2 reads)) h all.fault in
        record { word = whole.word ∙ ap (called f k) all.each; fault = whole.fault }
    gives (call_function f es) t n b is reads h is_b = absurd reads

    gives_on : (os : Operands) (left t : Elementary) (a : ℕ) (n : NodeList) (b : Bool) → Join ps left t os → AllRead P os → Hold val (word_on store a os n).list → val n.fault ≡ number_of b
        → Gives val (word_on store a os n) (value_on no_callees 0 (val a) os s) (b || any_faults no_callees 0 os s)
    gives_on no_operands left t a n b join reads h is_b = record { word = refl; fault = is_b ∙ ap number_of (sym (or-false b)) }
    gives_on (operand o k e os) left t a n b join reads h is_b =
        let m = word_of store k e n in
        let j = joined o k a m.word m.list in
        let held_j = hold_before val j.list (word_on store j.word os j.list).list (grows_on store j.word os j.list) h in
        let held_m = hold_before val m.list j.list (grows_joined o k a m.word m.list) held_j in
        let right = gives e k n b join.2 reads.0 held_m is_b in
        let both = gives_joined val o k a m.word m.list (b || faults no_callees 0 e s) held_j right.fault in
        let rest = gives_on os (result_type o k) t j.word j.list _ join.3 reads.1 h both.fault in
        record {
          word = rest.word ∙ ap (λ (v : ℤ). value_on no_callees 0 v os s) (both.word ∙ ap (λ (v : ℤ). applied o k (val a) v) right.word);
          fault = rest.fault ∙ ap number_of (regroup b (faults no_callees 0 e s) (divides_by_zero o (val m.word)) (divides_by_zero o (value_of no_callees 0 e s)) (any_faults no_callees 0 os s) (ap (divides_by_zero o) right.word));
        }
      where
        regroup : (b f d d' g : Bool) → d ≡ d' → (((b || f) || d) || g) ≡ (b || ((f || d') || g))
        regroup b f d d' g e = ap (λ (x : Bool). ((b || f) || x) || g) e ∙ ap (λ (x : Bool). x || g) (or_assoc b f d') ∙ or_assoc b (f || d') g

    gives_all : (es : Expressions) (first others : Elementary) (n : NodeList) (b : Bool) → AreOf ps first others es → EachReads P es → Hold val (words_of store first others es n).list → val n.fault ≡ number_of b
        → GivesAll (words_of store first others es n).words (words_of store first others es n).list (values_of no_callees 0 es s) (b || one_faults no_callees 0 es s)
    gives_all no_expressions first others n b are reads h is_b = record { each = refl; fault = is_b ∙ ap number_of (sym (or-false b)) }
    gives_all (expression e es) first others n b are reads h is_b =
        let m = word_of store first e n in
        let held = hold_before val m.list (words_of store others others es m.list).list (grows_words store others others es m.list) h in
        let one = gives e first n b are.0 reads.0 held is_b in
        let rest = gives_all es others others m.list _ are.1 reads.1 h one.fault in
        record {
          each = ap (λ (v : ℤ). v ∷ map val (words_of store others others es m.list).words) one.word ∙ ap (λ (vs : List ℤ). value_of no_callees 0 e s ∷ vs) rest.each;
          fault = rest.fault ∙ ap number_of (or_assoc b (faults no_callees 0 e s) (one_faults no_callees 0 es s));
        }
