-- The words of standard functions have the values of the functions.
use Rattle.std.proofs.Common.{◌≡◌, ℕ, Bool, true, false, refl, sym, ◌∙◌, ap, List, [], ◌∷◌, map, ℤ, pos}
use Rattle.std.specs.Prelude.{if◌then◌else◌, unsigned_abs, int_lt}
use Rattle.plc_types.specs.declared.elementary.Elementary.{Elementary}
use Rattle.plc_types.specs.declared.elementary.Elementary.TheVariants as types
use Rattle.plc_types.specs.declared.function.Function.{Function}
use Rattle.plc_types.specs.declared.function.Function.TheVariants as functions
use Rattle.plc_types.specs.declared.range.Range.{Range}
use Rattle.plc_types.specs.Types.{width_of, range_of, in_range, wrap_to}
use Rattle.plc_types.proofs.TypeRanges.{zero_in, wrapped_same}
use Rattle.program_tree.specs.OperandTypes.{source_of, first_operand_kind}
use Rattle.meaning.specs.Values.{number_of, is_truth, converted, shifted, lesser, greater, least, greatest, limited, selected, of_one, of_many, of_three, called}
use Rattle.node_core.specs.declared.node.Node.{Node}
use Rattle.node_core.specs.declared.node.Node.TheVariants.{Constant, Convert, Absolute, Minimum, Maximum, Shift, Mux}
use Rattle.node_core.specs.Nodes.{node_value}
use Rattle.node_core.specs.Words as words
use Rattle.node_core.specs.Words.{NodeList, Made, made, folded, nothing, limited_word, selected_word, called_word}
use Rattle.node_core.proofs.Growth.{grows_made, grows_folded}
use Rattle.node_laws.proofs.Held.{Hold, hold_before, Gives, gives_made}

-- the first value is one of a type, and the others are of another
pub Fit : Elementary → Elementary → List ℤ → Type 0
Fit first others [] = Unit {0}
Fit first others (v ∷ vs) = (in_range v (range_of first) ≡ true) × Fit others others vs

pub fit_none : (first others : Elementary) → Fit first others []
unfolding Fit
fit_none first others = tt

pub fit_more : (first others : Elementary) (v : ℤ) (vs : List ℤ) → in_range v (range_of first) ≡ true → Fit others others vs → Fit first others (v ∷ vs)
unfolding Fit
fit_more first others v vs h more = (h, more)

-- one of two values of a range
one_in : (r : Range) (test : Bool) (v w : ℤ) → in_range v r ≡ true → in_range w r ≡ true → in_range (if test then v else w) r ≡ true
one_in r true v w p q = p
one_in r false v w p q = q

lesser_in : (r : Range) (v w : ℤ) → in_range v r ≡ true → in_range w r ≡ true → in_range (lesser v w) r ≡ true
lesser_in r v w p q = one_in r (int_lt w v) w v q p

greater_in : (r : Range) (v w : ℤ) → in_range v r ≡ true → in_range w r ≡ true → in_range (greater v w) r ≡ true
greater_in r v w p q = one_in r (int_lt v w) w v q p

least_in : (t : Elementary) (v : ℤ) (vs : List ℤ) → in_range v (range_of t) ≡ true → Fit t t vs → in_range (least v vs) (range_of t) ≡ true
unfolding Fit
least_in t v [] h more = h
least_in t v (w ∷ vs) h more = least_in t (lesser v w) vs (lesser_in (range_of t) v w h more.0) more.1

greatest_in : (t : Elementary) (v : ℤ) (vs : List ℤ) → in_range v (range_of t) ≡ true → Fit t t vs → in_range (greatest v vs) (range_of t) ≡ true
unfolding Fit
greatest_in t v [] h more = h
greatest_in t v (w ∷ vs) h more = greatest_in t (greater v w) vs (greater_in (range_of t) v w h more.0) more.1

module _ (val : ℕ → ℤ) where
  gives_nothing : (t : Elementary) (n : NodeList) (b : Bool) → Hold val (nothing t n).list → val n.fault ≡ number_of b → Gives val (nothing t n) (wrap_to t (pos 0)) b
  gives_nothing t n b h is_b = gives_made val (Constant t (pos 0)) n _ b h is_b (sym (wrapped_same t (pos 0) (zero_in t)))

  gives_one : (x : ℕ → Node) (r : ℤ → ℤ) (t : Elementary) (ws : List ℕ) (n : NodeList) (b : Bool) → ((a : ℕ) → node_value val (x a) ≡ wrap_to t (r (val a)))
      → Hold val (words.of_one x t ws n).list → val n.fault ≡ number_of b → Gives val (words.of_one x t ws n) (wrap_to t (of_one r (map val ws))) b
  gives_one x r t [] n b is h is_b = gives_nothing t n b h is_b
  gives_one x r t (a ∷ []) n b is h is_b = gives_made val (x a) n _ b h is_b (is a)
  gives_one x r t (a ∷ c ∷ ws) n b is h is_b = gives_nothing t n b h is_b

  gives_folded : (x : ℕ → ℕ → Node) (g : ℤ → ℤ → ℤ) (all : ℤ → List ℤ → ℤ) → ((v : ℤ) → all v [] ≡ v) → ((v w : ℤ) (ws : List ℤ) → all v (w ∷ ws) ≡ all (g v w) ws)
      → ((a c : ℕ) → node_value val (x a c) ≡ g (val a) (val c)) → (ws : List ℕ) (a : ℕ) (n : NodeList) (b : Bool)
      → Hold val (folded x a ws n).list → val n.fault ≡ number_of b → Gives val (folded x a ws n) (all (val a) (map val ws)) b
  gives_folded x g all none more is [] a n b h is_b = record { word = sym (none (val a)); fault = is_b }
  gives_folded x g all none more is (c ∷ ws) a n b h is_b =
      let m = made (x a c) n in
      let held = hold_before val m.list (folded x m.word ws m.list).list (grows_folded x m.word ws m.list) h in
      let one = gives_made val (x a c) n _ b held is_b (is a c) in
      let rest = gives_folded x g all none more is ws m.word m.list b h one.fault in
      record { word = rest.word ∙ ap (λ (v : ℤ). all v (map val ws)) one.word ∙ sym (more (val a) (val c) (map val ws)); fault = rest.fault }

  -- a value of the type is not changed by being wrapped
  gives_wrapped : (m : Made) (t : Elementary) (v : ℤ) (b : Bool) → in_range v (range_of t) ≡ true → Gives val m v b → Gives val m (wrap_to t v) b
  gives_wrapped m t v b h g = record { word = g.word ∙ sym (wrapped_same t v h); fault = g.fault }

  gives_least : (t : Elementary) (ws : List ℕ) (n : NodeList) (b : Bool) → Fit t t (map val ws) → Hold val (words.of_many (Minimum t) t ws n).list → val n.fault ≡ number_of b
      → Gives val (words.of_many (Minimum t) t ws n) (wrap_to t (of_many least (map val ws))) b
  unfolding Fit
  gives_least t [] n b fit h is_b = gives_nothing t n b h is_b
  gives_least t (a ∷ ws) n b fit h is_b =
      gives_wrapped _ t _ b (least_in t (val a) (map val ws) fit.0 fit.1) (gives_folded (Minimum t) lesser least (λ v. refl) (λ v w vs. refl) (λ a c. refl) ws a n b h is_b)

  gives_greatest : (t : Elementary) (ws : List ℕ) (n : NodeList) (b : Bool) → Fit t t (map val ws) → Hold val (words.of_many (Maximum t) t ws n).list → val n.fault ≡ number_of b
      → Gives val (words.of_many (Maximum t) t ws n) (wrap_to t (of_many greatest (map val ws))) b
  unfolding Fit
  gives_greatest t [] n b fit h is_b = gives_nothing t n b h is_b
  gives_greatest t (a ∷ ws) n b fit h is_b =
      gives_wrapped _ t _ b (greatest_in t (val a) (map val ws) fit.0 fit.1) (gives_folded (Maximum t) greater greatest (λ v. refl) (λ v w vs. refl) (λ a c. refl) ws a n b h is_b)

  gives_limited : (t : Elementary) (ws : List ℕ) (n : NodeList) (b : Bool) → Fit t t (map val ws) → Hold val (limited_word t ws n).list → val n.fault ≡ number_of b
      → Gives val (limited_word t ws n) (wrap_to t (of_three limited (map val ws))) b
  unfolding Fit
  gives_limited t [] n b fit h is_b = gives_nothing t n b h is_b
  gives_limited t (a ∷ []) n b fit h is_b = gives_nothing t n b h is_b
  gives_limited t (a ∷ c ∷ []) n b fit h is_b = gives_nothing t n b h is_b
  gives_limited t (low ∷ a ∷ high ∷ []) n b fit h is_b =
      let m = made (Maximum t a low) n in
      let held = hold_before val m.list (made (Minimum t m.word high) m.list).list (grows_made (Minimum t m.word high) m.list) h in
      let one = gives_made val (Maximum t a low) n _ b held is_b refl in
      let two = gives_made val (Minimum t m.word high) m.list _ b h one.fault (ap (λ (v : ℤ). lesser v (val high)) one.word) in
      gives_wrapped _ t _ b (lesser_in (range_of t) _ (val high) (greater_in (range_of t) (val a) (val low) fit.1.0 fit.0) fit.1.1.0) two
  gives_limited t (a ∷ c ∷ d ∷ e ∷ ws) n b fit h is_b = gives_nothing t n b h is_b

  gives_selected : (t : Elementary) (ws : List ℕ) (n : NodeList) (b : Bool) → Fit types.Bool t (map val ws) → Hold val (selected_word t ws n).list → val n.fault ≡ number_of b
      → Gives val (selected_word t ws n) (wrap_to t (of_three selected (map val ws))) b
  unfolding Fit
  gives_selected t [] n b fit h is_b = gives_nothing t n b h is_b
  gives_selected t (a ∷ []) n b fit h is_b = gives_nothing t n b h is_b
  gives_selected t (a ∷ c ∷ []) n b fit h is_b = gives_nothing t n b h is_b
  gives_selected t (g ∷ a ∷ c ∷ []) n b fit h is_b =
      gives_wrapped _ t _ b (one_in (range_of t) (is_truth (val g)) (val c) (val a) fit.1.1.0 fit.1.0) (gives_made val (Mux t g c a) n _ b h is_b refl)
  gives_selected t (a ∷ c ∷ d ∷ e ∷ ws) n b fit h is_b = gives_nothing t n b h is_b

  pub gives_called : (f : Function) (t : Elementary) (ws : List ℕ) (n : NodeList) (b : Bool) → Fit (first_operand_kind f t) t (map val ws) → Hold val (called_word f t ws n).list → val n.fault ≡ number_of b
      → Gives val (called_word f t ws n) (called f t (map val ws)) b
  unfolding called_word
  gives_called (functions.Convert from) t ws n b fit h is_b = gives_one (Convert (source_of (functions.Convert from) t) t) (converted t) t ws n b (λ a. refl) h is_b
  gives_called functions.Absolute t ws n b fit h is_b = gives_one (Absolute t) (λ v. pos (unsigned_abs v)) t ws n b (λ a. refl) h is_b
  gives_called functions.Minimum t ws n b fit h is_b = gives_least t ws n b fit h is_b
  gives_called functions.Maximum t ws n b fit h is_b = gives_greatest t ws n b fit h is_b
  gives_called functions.Limit t ws n b fit h is_b = gives_limited t ws n b fit h is_b
  gives_called functions.Select t ws n b fit h is_b = gives_selected t ws n b fit h is_b
  gives_called (functions.Shift s k) t ws n b fit h is_b = gives_one (Shift s k t) (λ v. pos (shifted s (width_of t) k (unsigned_abs v))) t ws n b (λ a. refl) h is_b
