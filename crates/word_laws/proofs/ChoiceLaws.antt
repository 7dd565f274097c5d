-- Comparisons and choices of words are those of their values.
use Rattle.std.proofs.Common.{◌≡◌, ℕ, ◌^◌, ◌<◌, Bool, true, false, not, ◌||◌, sym, ◌∙◌, ap, subst, List, length, arith, ℤ, pos}
use Rattle.std.specs.Prelude.{int_lt, unsigned_abs, if◌then◌else◌}
use Rattle.std.specs.Ordering.{int_eq}
use Rattle.num_core.specs.Wrapping.{wrap, DiffersByMultiple}
use Rattle.clause_core.specs.declared.literal.Lit.{Lit}
use Rattle.clause_core.specs.Satisfaction.{literal_true}
use Rattle.gates.specs.Models.{IsModel}
use Rattle.gates.specs.Netlists.{Netlist}
use Rattle.gates.proofs.Booleans.{literal_true-not}
use Rattle.gates.proofs.NetLaws.{Means-or}
use Rattle.word_circuits.specs.declared.comparisons.Comparison.{Comparison}
use Rattle.word_circuits.specs.declared.comparisons.Comparison.TheVariants.{Equal, NotEqual, Less, Greater, LessOrEqual, GreaterOrEqual}
use Rattle.word_circuits.specs.Words.{constant_of}
use Rattle.word_circuits.specs.Comparisons.{eq_of, lt_of, comparison_of, outside_of}
use Rattle.word_circuits.specs.Choices.{choose_of, min_of, max_of, abs_of}
use Rattle.word_laws.specs.Numbers.{number, value}
use Rattle.word_laws.specs.Results.{compared, lesser, greater}
use Rattle.word_laws.proofs.Multiples.{differs_same}
use Rattle.word_laws.proofs.Orders.{Compares, Compares-lt, Compares-eq, Gives-choose, pick}
use Rattle.word_laws.proofs.SignedDivisions.{Magnitude-abs, abs_sign, sign_of}
use Rattle.word_laws.proofs.Values.{less_value, equal_value, le_by_lt, length-biased, value_same, value_wraps_at}
use Rattle.word_laws.proofs.BitLaws.{value-constant, length-constant}

pub Compares-less : (rho : ℕ → Bool) (s : Bool) (a b : List Lit) (n : Netlist) → 0 < length a → length a ≡ length b → IsModel rho (lt_of s a b n).net → Compares rho n (lt_of s a b n) (int_lt (value s rho a) (value s rho b))
Compares-less rho s a b n some e m =
    let h = Compares-lt rho s a b n (length-biased s a ∙ e ∙ sym (length-biased s b)) m in
    record { model = h.model; value = h.value ∙ less_value s rho a b some e }

Compares-same : (rho : ℕ → Bool) (s : Bool) (a b : List Lit) (n : Netlist) → 0 < length a → length a ≡ length b → IsModel rho (eq_of a b n).net → Compares rho n (eq_of a b n) (int_eq (value s rho a) (value s rho b))
Compares-same rho s a b n some e m =
    let h = Compares-eq rho a b n e m in
    record { model = h.model; value = h.value ∙ equal_value s rho a b some e }

some_too : (a b : ℕ) → a ≡ b → 0 < a → 0 < b
some_too a b e h = omega arith

pub value-compare : (k : Comparison) (s : Bool) (rho : ℕ → Bool) (a b : List Lit) (n : Netlist) → 0 < length a → length a ≡ length b → IsModel rho (comparison_of k s a b n).net → literal_true rho (comparison_of k s a b n).lit ≡ compared k (value s rho a) (value s rho b)
value-compare Equal s rho a b n some e m = (Compares-same rho s a b n some e m).value
value-compare NotEqual s rho a b n some e m = literal_true-not rho (eq_of a b n).lit ∙ ap not (Compares-same rho s a b n some e m).value
value-compare Less s rho a b n some e m = (Compares-less rho s a b n some e m).value
value-compare Greater s rho a b n some e m = (Compares-less rho s b a n (some_too _ _ e some) (sym e) m).value
value-compare LessOrEqual s rho a b n some e m = literal_true-not rho (lt_of s b a n).lit ∙ ap not (Compares-less rho s b a n (some_too _ _ e some) (sym e) m).value ∙ le_by_lt (value s rho a) (value s rho b)
value-compare GreaterOrEqual s rho a b n some e m = literal_true-not rho (lt_of s a b n).lit ∙ ap not (Compares-less rho s a b n some e m).value ∙ le_by_lt (value s rho b) (value s rho a)

pub value-outside : (s : Bool) (rho : ℕ → Bool) (a : List Lit) (low high : ℤ) (n : Netlist) → 0 < length a → IsModel rho (outside_of s a low high n).net → literal_true rho (outside_of s a low high n).lit ≡ (int_lt (value s rho a) (wrap (length a) s low) || int_lt (wrap (length a) s high) (value s rho a))
unfolding outside_of
value-outside s rho a low high n some m =
    let least = constant_of (length a) low in
    let greatest = constant_of (length a) high in
    let below = lt_of s a least n in
    let above = lt_of s greatest a below.net in
    let k = Means-or rho below.lit above.lit above.net m in
    let long : 0 < length greatest = some_too _ _ (sym (length-constant (length a) high)) some in
    let h = Compares-less rho s greatest a below.net long (length-constant (length a) high) k.model in
    let g = Compares-less rho s a least n some (sym (length-constant (length a) low)) h.model in
    k.value
    ∙ ap (λ z. z || literal_true rho above.lit) (g.value ∙ ap (λ (x : ℤ). int_lt (value s rho a) x) (value-constant s rho (length a) low some m.one))
    ∙ ap (λ z. int_lt (value s rho a) (wrap (length a) s low) || z) (h.value ∙ ap (λ (x : ℤ). int_lt x (value s rho a)) (value-constant s rho (length a) high some m.one))

-- a choice
choice_by : (c : Bool) (s : Bool) (rho : ℕ → Bool) (r a b : List Lit) → 0 < length a → length r ≡ length a → length a ≡ length b → number rho r ≡ pick c (number rho a) (number rho b) → value s rho r ≡ (if c then value s rho a else value s rho b)
unfolding pick
choice_by true s rho r a b some e f h = value_same s rho r a some e h
choice_by false s rho r a b some e f h = value_same s rho r b (some_too _ _ f some) (e ∙ f) h

pub value-choose : (s : Bool) (rho : ℕ → Bool) (c : Lit) (a b : List Lit) (n : Netlist) → 0 < length a → length a ≡ length b → IsModel rho (choose_of c a b n).net → value s rho (choose_of c a b n).word ≡ (if literal_true rho c then value s rho a else value s rho b)
value-choose s rho c a b n some e m =
    let h = Gives-choose rho c a b n e m in
    choice_by (literal_true rho c) s rho (choose_of c a b n).word a b some h.long e h.number_is

pub value-min : (s : Bool) (rho : ℕ → Bool) (a b : List Lit) (n : Netlist) → 0 < length a → length a ≡ length b → IsModel rho (min_of s a b n).net → value s rho (min_of s a b n).word ≡ lesser (value s rho a) (value s rho b)
value-min s rho a b n some e m =
    let less = lt_of s b a n in
    let c = Gives-choose rho less.lit b a less.net (sym e) m in
    let h = Compares-less rho s b a n (some_too _ _ e some) (sym e) c.model in
    value-choose s rho less.lit b a less.net (some_too _ _ e some) (sym e) m ∙ ap (λ t. if t then value s rho b else value s rho a) h.value

pub value-max : (s : Bool) (rho : ℕ → Bool) (a b : List Lit) (n : Netlist) → 0 < length a → length a ≡ length b → IsModel rho (max_of s a b n).net → value s rho (max_of s a b n).word ≡ greater (value s rho a) (value s rho b)
value-max s rho a b n some e m =
    let less = lt_of s a b n in
    let c = Gives-choose rho less.lit b a less.net (sym e) m in
    let h = Compares-less rho s a b n some e c.model in
    value-choose s rho less.lit b a less.net (some_too _ _ e some) (sym e) m ∙ ap (λ t. if t then value s rho b else value s rho a) h.value

pub value-abs : (s : Bool) (rho : ℕ → Bool) (a : List Lit) (n : Netlist) → 0 < length a → IsModel rho (abs_of s a n).net → value s rho (abs_of s a n).word ≡ wrap (length a) s (pos (unsigned_abs (value s rho a)))
value-abs s rho a n some m =
    let h = Magnitude-abs rho s a n m in
    let r = abs_of s a n in
    let is = ap unsigned_abs h.value_is ∙ abs_sign (sign_of s rho a) (number rho r.word) in
    value_wraps_at s rho r.word (length a) _ h.long some
    (subst (λ (k : ℕ). DiffersByMultiple (pos (2 ^ length a)) (pos k) (pos (number rho r.word))) (sym is) (differs_same (pos (2 ^ length a)) (pos (number rho r.word))))
