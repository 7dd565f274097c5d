-- Addition and subtraction as whole numbers.
use Rattle.std.proofs.Common.{◌≡◌, ℕ, suc, ◌+◌, ◌*◌, ◌^◌, Bool, true, false, refl, sym, ◌∙◌, ap, subst, List, [], ◌∷◌, length, arith}
use Rattle.std.specs.Prelude.{if◌then◌else◌}
use Rattle.std.proofs.lemmas.List.{length-map, length-replicate}
use Rattle.clause_core.specs.declared.literal.Lit.{Lit}
use Rattle.clause_core.specs.Values.{negation}
use Rattle.clause_core.specs.Satisfaction.{literal_true}
use Rattle.gates.specs.Literals.{true_lit, false_lit}
use Rattle.gates.specs.Meaning.{exactly_one}
use Rattle.gates.specs.Models.{IsModel}
use Rattle.gates.specs.Netlists.{Netlist}
use Rattle.gates.specs.Rules.{xor_of}
use Rattle.gates.proofs.NetLaws.{Means-xor, Means-mux}
use Rattle.word_circuits.specs.Words.{zeros, not_word}
use Rattle.word_circuits.specs.Sums.{MadeSum, MadeBit, full_adder_of, add_of, sub_of, neg_of}
use Rattle.word_laws.specs.Numbers.{bit, number}
use Rattle.word_laws.proofs.Numbers.{power_step, number-not, number-false}

-- s + 2 * k = a + b + c of one bit
adder_table : (a b c : Bool) → bit (exactly_one (exactly_one a b) c) + 2 * bit (if exactly_one a b then c else a) ≡ bit a + bit b + bit c
adder_table true true true = refl
adder_table true true false = refl
adder_table true false true = refl
adder_table true false false = refl
adder_table false true true = refl
adder_table false true false = refl
adder_table false false true = refl
adder_table false false false = refl

record AddsBit (rho : ℕ → Bool) (a b c : Lit) (n : Netlist) (f : MadeBit) : Type 0 where
  pub model : IsModel rho n
  pub value : bit (literal_true rho f.sum) + 2 * bit (literal_true rho f.carry) ≡ bit (literal_true rho a) + bit (literal_true rho b) + bit (literal_true rho c)

AddsBit-full_adder : (rho : ℕ → Bool) (a b c : Lit) (n : Netlist) → IsModel rho (full_adder_of a b c n).net → AddsBit rho a b c n (full_adder_of a b c n)
unfolding full_adder_of
AddsBit-full_adder rho a b c n m =
    let x = xor_of a b n in
    let s = xor_of x.lit c x.net in
    let k = Means-mux rho x.lit c a s.net m in
    let y = Means-xor rho x.lit c x.net k.model in
    let z = Means-xor rho a b n y.model in
    record {
      model = z.model;
      value = rw (y.value, k.value, z.value) (adder_table (literal_true rho a) (literal_true rho b) (literal_true rho c));
    }

pub record Adds (rho : ℕ → Bool) (a b : List Lit) (c : Lit) (n : Netlist) (r : MadeSum) : Type 0 where
  pub model : IsModel rho n
  pub len : length r.word ≡ length a
  pub value : number rho r.word + 2 ^ length a * bit (literal_true rho r.carry) ≡ number rho a + number rho b + bit (literal_true rho c)

carry_step : (s k a b c A B W C D : ℕ) → s + 2 * k ≡ a + b + c → W + C ≡ A + B + k → D ≡ 2 * C → s + 2 * W + D ≡ a + 2 * A + (b + 2 * B) + c
carry_step s k a b c A B W C D e f g = omega arith

pub Adds-add : (rho : ℕ → Bool) (a b : List Lit) (c : Lit) (n : Netlist) → length a ≡ length b → IsModel rho (add_of a b c n).net → Adds rho a b c n (add_of a b c n)
Adds-add rho [] [] c n e m = record { model = m; len = refl; value = omega arith }
Adds-add rho [] (b ∷ bs) c n e m = absurd (omega arith)
Adds-add rho (a ∷ as') [] c n e m = absurd (omega arith)
Adds-add rho (a ∷ as') (b ∷ bs) c n e m =
    let f = full_adder_of a b c n in
    let r = Adds-add rho as' bs f.carry f.net (omega arith) m in
    let h = AddsBit-full_adder rho a b c n r.model in
    record {
      model = h.model;
      len = ap suc r.len;
      value = carry_step _ _ _ _ _ _ _ _ _ _ h.value r.value (power_step (length as') _);
    }

pub record Subtracts (rho : ℕ → Bool) (a b : List Lit) (n : Netlist) (r : MadeSum) : Type 0 where
  pub model : IsModel rho n
  pub len : length r.word ≡ length a
  pub value : number rho r.word + 2 ^ length a * bit (literal_true rho r.carry) + number rho b ≡ number rho a + 2 ^ length a

sub_step : (w c a b nb p t : ℕ) → w + c ≡ a + nb + t → t ≡ 1 → nb + b + 1 ≡ p → w + c + b ≡ a + p
sub_step w c a b nb p t e f g = omega arith

pub Subtracts-sub : (rho : ℕ → Bool) (a b : List Lit) (n : Netlist) → length a ≡ length b → IsModel rho (sub_of a b n).net → Subtracts rho a b n (sub_of a b n)
Subtracts-sub rho a b n e m =
    let r = Adds-add rho a (not_word b) true_lit n (e ∙ sym (length-map b negation)) m in
    record {
      model = r.model;
      len = r.len;
      value = sub_step _ _ _ _ _ _ _ r.value (ap bit r.model.one) (number-not rho b ∙ ap (λ z. 2 ^ z) (sym e));
    }

pub length-add : (a b : List Lit) (c : Lit) (n : Netlist) → length a ≡ length b → length (add_of a b c n).word ≡ length a
length-add [] b c n e = refl
length-add (a ∷ as') [] c n e = absurd (omega arith)
length-add (a ∷ as') (b ∷ bs) c n e = ap suc (length-add as' bs _ _ (omega arith))

pub length-sub : (a b : List Lit) (n : Netlist) → length a ≡ length b → length (sub_of a b n).word ≡ length a
length-sub a b n e = length-add a (not_word b) true_lit n (e ∙ sym (length-map b negation))

pub length-neg : (a : List Lit) (n : Netlist) → length (neg_of a n).word ≡ length a
length-neg a n = length-sub (zeros (length a)) a n (length-replicate (length a) false_lit) ∙ length-replicate (length a) false_lit

-- the negative
pub record Negates (rho : ℕ → Bool) (n : Netlist) (r : MadeSum) (a : List Lit) : Type 0 where
  pub model : IsModel rho n
  pub value : number rho r.word + 2 ^ length a * bit (literal_true rho r.carry) + number rho a ≡ 2 ^ length a

pub Negates-neg : (rho : ℕ → Bool) (a : List Lit) (n : Netlist) → IsModel rho (neg_of a n).net → Negates rho n (neg_of a n) a
Negates-neg rho a n m =
    let zeros = zeros (length a) in
    let s = Subtracts-sub rho zeros a n (length-replicate (length a) false_lit) m in
    let d = neg_of a n in
    record {
      model = s.model;
      value = subst (λ z. number rho d.word + 2 ^ z * bit (literal_true rho d.carry) + number rho a ≡ number rho zeros + 2 ^ z) (length-replicate (length a) false_lit) s.value
          ∙ ap (λ z. z + 2 ^ length a) (number-false rho (length a) s.model.one) ∙ zero_add (2 ^ length a);
    }
  where
    zero_add : (p : ℕ) → 0 + p ≡ p
    zero_add p = omega arith
