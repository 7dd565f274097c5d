-- Comparisons of words as unsigned numbers, and choices.
use Rattle.std.proofs.Common.{◌≡◌, ℕ, suc, ◌+◌, ◌*◌, ◌^◌, ◌<◌, Bool, true, false, not, ◌&&◌, ◌||◌, refl, sym, ◌∙◌, ap, subst, List, [], ◌∷◌, length, arith}
use Rattle.std.specs.Prelude.{nat_lt, nat_eq, if◌then◌else◌}
use Rattle.std.proofs.lemmas.Bool.Decides.{nat_tests}
use Rattle.std.proofs.lemmas.List.{length-replicate}
use Rattle.clause_core.specs.declared.literal.Lit.{Lit}
use Rattle.clause_core.specs.Values.{negation}
use Rattle.clause_core.specs.Satisfaction.{literal_true}
use Rattle.gates.specs.Literals.{true_lit, false_lit}
use Rattle.gates.specs.Meaning.{exactly_one}
use Rattle.gates.specs.Models.{IsModel}
use Rattle.gates.specs.Netlists.{Netlist, Made}
use Rattle.gates.specs.Rules.{or_of, xor_of, mux_of}
use Rattle.gates.proofs.Booleans.{literal_true-not}
use Rattle.gates.proofs.NetLaws.{Means-and, Means-or, Means-xor, Means-mux}
use Rattle.word_circuits.specs.Words.{MadeWord, zeros}
use Rattle.word_circuits.specs.Sums.{sub_of}
use Rattle.word_circuits.specs.Comparisons.{same_step_of, eq_from, eq_of, is_zero_of, biased, lt_of}
use Rattle.word_circuits.specs.Choices.{choose_of}
use Rattle.word_circuits.specs.Conversions.{any_from, any_of}
use Rattle.word_laws.specs.Numbers.{bit, number}
use Rattle.word_laws.proofs.Numbers.{number-lt, number-false}
use Rattle.word_laws.proofs.Additions.{Subtracts-sub}

-- the literal's value, and the circuit before
pub record Compares (rho : ℕ → Bool) (n : Netlist) (r : Made) (answer : Bool) : Type 0 where
  pub model : IsModel rho n
  pub value : literal_true rho r.lit ≡ answer

-- the comparison by the last carry
lt_by_carry : (c : Bool) (w p a b : ℕ) → w < p → a < p → w + p * bit c + b ≡ a + p → not c ≡ nat_lt a b
lt_by_carry true w p a b h k e = grind (arith, nat_tests)
lt_by_carry false w p a b h k e = grind (arith, nat_tests)

-- of the words whose unsigned order it is
pub Compares-lt : (rho : ℕ → Bool) (s : Bool) (a b : List Lit) (n : Netlist) → length (biased s a) ≡ length (biased s b) → IsModel rho (lt_of s a b n).net → Compares rho n (lt_of s a b n) (nat_lt (number rho (biased s a)) (number rho (biased s b)))
Compares-lt rho s a b n e m =
    let low = biased s a in
    let high = biased s b in
    let d = sub_of low high n in
    let r = Subtracts-sub rho low high n e m in
    record {
      model = r.model;
      value = literal_true-not rho d.carry ∙ lt_by_carry (literal_true rho d.carry) (number rho d.word) (2 ^ length low) (number rho low) (number rho high)
          (subst (λ z. number rho d.word < 2 ^ z) r.len (number-lt rho d.word)) (number-lt rho low) r.value;
    }

Compares-same_step : (rho : ℕ → Bool) (r a b : Lit) (n : Netlist) → IsModel rho (same_step_of r a b n).net → Compares rho n (same_step_of r a b n) (literal_true rho r && not (exactly_one (literal_true rho a) (literal_true rho b)))
unfolding same_step_of
Compares-same_step rho r a b n m =
    let x = xor_of a b n in
    let y = Means-and rho r (negation x.lit) x.net m in
    let z = Means-xor rho a b n y.model in
    record { model = z.model; value = y.value ∙ ap (λ q. literal_true rho r && q) (literal_true-not rho x.lit ∙ ap not z.value) }

doubles : (x a b : ℕ) (t : Bool) → nat_eq a b ≡ t → nat_eq (x + 2 * a) (x + 2 * b) ≡ t
doubles x a b true h = grind (arith, nat_tests)
doubles x a b false h = grind (arith, nat_tests)

odd_even : (a b : ℕ) → nat_eq (1 + 2 * a) (0 + 2 * b) ≡ false
odd_even a b = grind (arith, nat_tests)

even_odd : (a b : ℕ) → nat_eq (0 + 2 * a) (1 + 2 * b) ≡ false
even_odd a b = grind (arith, nat_tests)

eq_bits : (x y : Bool) (a b : ℕ) → nat_eq (bit x + 2 * a) (bit y + 2 * b) ≡ (not (exactly_one x y) && nat_eq a b)
eq_bits true true a b = doubles 1 a b (nat_eq a b) refl
eq_bits true false a b = odd_even a b
eq_bits false true a b = even_odd a b
eq_bits false false a b = doubles 0 a b (nat_eq a b) refl

and_assoc : (a b c : Bool) → (a && b && c) ≡ (a && (b && c))
and_assoc true b c = refl
and_assoc false b c = refl

and_true : (a : Bool) → a ≡ (a && true)
and_true true = refl
and_true false = refl

pub Compares-eq_from : (rho : ℕ → Bool) (r : Lit) (a b : List Lit) (n : Netlist) → length a ≡ length b → IsModel rho (eq_from r a b n).net → Compares rho n (eq_from r a b n) (literal_true rho r && nat_eq (number rho a) (number rho b))
Compares-eq_from rho r [] [] n e m = record { model = m; value = and_true (literal_true rho r) }
Compares-eq_from rho r [] (b ∷ bs) n e m = absurd (omega arith)
Compares-eq_from rho r (a ∷ as') [] n e m = absurd (omega arith)
Compares-eq_from rho r (a ∷ as') (b ∷ bs) n e m =
    let k = same_step_of r a b n in
    let h = Compares-eq_from rho k.lit as' bs k.net (omega arith) m in
    let s = Compares-same_step rho r a b n h.model in
    let same = nat_eq (number rho as') (number rho bs) in
    record {
      model = s.model;
      value = h.value ∙ ap (λ z. z && same) s.value
          ∙ and_assoc (literal_true rho r) (not (exactly_one (literal_true rho a) (literal_true rho b))) same
          ∙ ap (λ z. literal_true rho r && z) (sym (eq_bits (literal_true rho a) (literal_true rho b) (number rho as') (number rho bs)));
    }

pub Compares-eq : (rho : ℕ → Bool) (a b : List Lit) (n : Netlist) → length a ≡ length b → IsModel rho (eq_of a b n).net → Compares rho n (eq_of a b n) (nat_eq (number rho a) (number rho b))
Compares-eq rho a b n e m =
    let h = Compares-eq_from rho true_lit a b n e m in
    record { model = h.model; value = h.value ∙ ap (λ z. z && nat_eq (number rho a) (number rho b)) h.model.one }

pub Compares-zero : (rho : ℕ → Bool) (a : List Lit) (n : Netlist) → IsModel rho (is_zero_of a n).net → Compares rho n (is_zero_of a n) (nat_eq (number rho a) 0)
Compares-zero rho a n m =
    let h = Compares-eq rho a (zeros (length a)) n (sym (length-replicate (length a) false_lit)) m in
    record { model = h.model; value = h.value ∙ ap (λ z. nat_eq (number rho a) z) (number-false rho (length a) h.model.one) }

-- whether some bit is set
some_bit : (x : Bool) (a : ℕ) → not (nat_eq (bit x + 2 * a) 0) ≡ (x || not (nat_eq a 0))
some_bit true a = odd a
  where
    odd : (a : ℕ) → not (nat_eq (1 + 2 * a) 0) ≡ true
    odd a = grind (arith, nat_tests)
some_bit false a = ap not (even a (nat_eq a 0) refl)
  where
    even : (a : ℕ) (t : Bool) → nat_eq a 0 ≡ t → nat_eq (0 + 2 * a) 0 ≡ t
    even a true h = grind (arith, nat_tests)
    even a false h = grind (arith, nat_tests)

or_assoc : (a b c : Bool) → ((a || b) || c) ≡ (a || (b || c))
or_assoc true b c = refl
or_assoc false b c = refl

or_false : (a : Bool) → a ≡ (a || false)
or_false true = refl
or_false false = refl

Compares-any_from : (rho : ℕ → Bool) (r : Lit) (a : List Lit) (n : Netlist) → IsModel rho (any_from r a n).net → Compares rho n (any_from r a n) (literal_true rho r || not (nat_eq (number rho a) 0))
Compares-any_from rho r [] n m = record { model = m; value = or_false (literal_true rho r) }
Compares-any_from rho r (a ∷ as') n m =
    let x = or_of r a n in
    let h = Compares-any_from rho x.lit as' x.net m in
    let y = Means-or rho r a n h.model in
    let more = not (nat_eq (number rho as') 0) in
    record {
      model = y.model;
      value = h.value ∙ ap (λ z. z || more) y.value ∙ or_assoc (literal_true rho r) (literal_true rho a) more
          ∙ ap (λ z. literal_true rho r || z) (sym (some_bit (literal_true rho a) (number rho as')));
    }

pub Compares-any : (rho : ℕ → Bool) (a : List Lit) (n : Netlist) → IsModel rho (any_of a n).net → Compares rho n (any_of a n) (not (nat_eq (number rho a) 0))
Compares-any rho a n m =
    let h = Compares-any_from rho false_lit a n m in
    record { model = h.model; value = h.value ∙ ap (λ z. not z || not (nat_eq (number rho a) 0)) h.model.one }

-- a word's number, and the circuit before
pub record Gives (rho : ℕ → Bool) (n : Netlist) (r : MadeWord) (len value : ℕ) : Type 0 where
  pub model : IsModel rho n
  pub long : length r.word ≡ len
  pub number_is : number rho r.word ≡ value

-- a choice of words
unfoldable pub pick : Bool → ℕ → ℕ → ℕ
pick c m n = elim c [ true ↦ m | false ↦ n ]

pick_step : (c x y : Bool) (m n v : ℕ) → v ≡ pick c m n → bit (if c then x else y) + 2 * v ≡ pick c (bit x + 2 * m) (bit y + 2 * n)
unfolding pick
pick_step true x y m n v e = ap (λ z. bit x + 2 * z) e
pick_step false x y m n v e = ap (λ z. bit y + 2 * z) e

pick_zero : (c : Bool) → 0 ≡ pick c 0 0
unfolding pick
pick_zero true = refl
pick_zero false = refl

pub pick_true : (c : Bool) (m n : ℕ) → c ≡ true → pick c m n ≡ m
unfolding pick
pick_true c m n e = ap (λ z. pick z m n) e

pub pick_false : (c : Bool) (m n : ℕ) → c ≡ false → pick c m n ≡ n
unfolding pick
pick_false c m n e = ap (λ z. pick z m n) e

pub Gives-choose : (rho : ℕ → Bool) (c : Lit) (a b : List Lit) (n : Netlist) → length a ≡ length b → IsModel rho (choose_of c a b n).net → Gives rho n (choose_of c a b n) (length a) (pick (literal_true rho c) (number rho a) (number rho b))
Gives-choose rho c [] [] n e m = record { model = m; long = refl; number_is = pick_zero (literal_true rho c) }
Gives-choose rho c [] (b ∷ bs) n e m = absurd (omega arith)
Gives-choose rho c (a ∷ as') [] n e m = absurd (omega arith)
Gives-choose rho c (a ∷ as') (b ∷ bs) n e m =
    let x = mux_of c a b n in
    let r = Gives-choose rho c as' bs x.net (omega arith) m in
    let y = Means-mux rho c a b n r.model in
    record {
      model = y.model;
      long = ap suc r.long;
      number_is = ap (λ z. bit z + 2 * number rho (choose_of c as' bs x.net).word) y.value
          ∙ pick_step (literal_true rho c) (literal_true rho a) (literal_true rho b) (number rho as') (number rho bs) _ r.number_is;
    }

pub length-choose : (c : Lit) (a b : List Lit) (n : Netlist) → length a ≡ length b → length (choose_of c a b n).word ≡ length a
length-choose c [] b n e = refl
length-choose c (a ∷ as') [] n e = absurd (omega arith)
length-choose c (a ∷ as') (b ∷ bs) n e = ap suc (length-choose c as' bs _ (omega arith))
