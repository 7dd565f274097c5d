-- Sums and products of words are those of their values, wrapped.
use Rattle.std.proofs.Common.{◌≡◌, ℕ, ◌+◌, ◌*◌, ◌^◌, ◌<◌, Bool, true, false, not, sym, ◌∙◌, ap, subst, List, length, arith, ℤ, pos, ◌+ℤ◌, ◌-ℤ◌, ◌*ℤ◌}
use Rattle.std.specs.Prelude.{neg_ℤ}
use Rattle.std.proofs.Math.IntN.{negsuc, pos-*ℤ-pos}
use Rattle.std.proofs.lemmas.Int.{ints}
use Rattle.num_core.specs.Wrapping.{wrap, DiffersByMultiple}
use Rattle.clause_core.specs.declared.literal.Lit.{Lit}
use Rattle.clause_core.specs.Satisfaction.{literal_true}
use Rattle.gates.specs.Literals.{false_lit}
use Rattle.gates.specs.Models.{IsModel}
use Rattle.gates.specs.Netlists.{Netlist}
use Rattle.word_circuits.specs.Sums.{add_of, sub_of, neg_of}
use Rattle.word_circuits.specs.Products.{mul_of}
use Rattle.word_laws.specs.Numbers.{bit, number, value}
use Rattle.word_laws.proofs.Multiples.{differs_then, differs_add, differs_sub, differs_mul, differs_nat, differs_mod, differs_same}
use Rattle.word_laws.proofs.Additions.{Adds-add, Subtracts-sub, Negates-neg, length-add, length-sub, length-neg}
use Rattle.word_laws.proofs.Products.{Gives-mul}
use Rattle.word_laws.proofs.Values.{value_differs, value_wraps_at}

at_length : (j k : ℕ) (x y : ℤ) → j ≡ k → DiffersByMultiple (pos (2 ^ j)) x y → DiffersByMultiple (pos (2 ^ k)) x y
at_length j k x y e d = subst (λ (i : ℕ). DiffersByMultiple (pos (2 ^ i)) x y) e d

pub value-add : (s : Bool) (rho : ℕ → Bool) (a b : List Lit) (n : Netlist) → 0 < length a → length a ≡ length b → IsModel rho (add_of a b false_lit n).net → value s rho (add_of a b false_lit n).word ≡ wrap (length a) s (value s rho a +ℤ value s rho b)
value-add s rho a b n some e m =
    let h = Adds-add rho a b false_lit n e m in
    let r = add_of a b false_lit n in
    let p : ℤ = pos (2 ^ length a) in
    value_wraps_at s rho r.word (length a) _ (length-add a b false_lit n e) some
    (differs_then p (value s rho a +ℤ value s rho b) (pos (number rho a) +ℤ pos (number rho b)) (pos (number rho r.word))
    (differs_add p (value s rho a) (pos (number rho a)) (value s rho b) (pos (number rho b)) (value_differs s rho a) (at_length (length b) (length a) (value s rho b) (pos (number rho b)) (sym e) (value_differs s rho b)))
    (differs_nat (2 ^ length a) (number rho a + number rho b) (number rho r.word) (bit (literal_true rho r.carry)) (no_carry _ _ _ (ap (λ z. bit (not z)) h.model.one) h.value)))
  where
    no_carry : (t x c : ℕ) → c ≡ 0 → t ≡ x + c → x ≡ t
    no_carry t x c z e = omega arith

-- a difference up to a power, by the last carry
borrowed : (p : ℕ) (c : Bool) (r a b : ℕ) → r + p * bit c + b ≡ a + p → DiffersByMultiple (pos p) (pos a -ℤ pos b) (pos r)
borrowed p true r a b e = (pos 0, omega (arith, ints))
borrowed p false r a b e = (negsuc 0, omega (arith, ints))

pub value-sub : (s : Bool) (rho : ℕ → Bool) (a b : List Lit) (n : Netlist) → 0 < length a → length a ≡ length b → IsModel rho (sub_of a b n).net → value s rho (sub_of a b n).word ≡ wrap (length a) s (value s rho a -ℤ value s rho b)
value-sub s rho a b n some e m =
    let h = Subtracts-sub rho a b n e m in
    let r = sub_of a b n in
    let p : ℤ = pos (2 ^ length a) in
    value_wraps_at s rho r.word (length a) _ (length-sub a b n e) some
    (differs_then p (value s rho a -ℤ value s rho b) (pos (number rho a) -ℤ pos (number rho b)) (pos (number rho r.word))
    (differs_sub p (value s rho a) (pos (number rho a)) (value s rho b) (pos (number rho b)) (value_differs s rho a) (at_length (length b) (length a) (value s rho b) (pos (number rho b)) (sym e) (value_differs s rho b)))
    (borrowed (2 ^ length a) (literal_true rho r.carry) _ _ _ h.value))

pub value-neg : (s : Bool) (rho : ℕ → Bool) (a : List Lit) (n : Netlist) → 0 < length a → IsModel rho (neg_of a n).net → value s rho (neg_of a n).word ≡ wrap (length a) s (neg_ℤ (value s rho a))
value-neg s rho a n some m =
    let h = Negates-neg rho a n m in
    let r = neg_of a n in
    let p : ℤ = pos (2 ^ length a) in
    value_wraps_at s rho r.word (length a) _ (length-neg a n) some
    (subst (λ (x : ℤ). DiffersByMultiple p x (pos (number rho r.word))) (from_zero (value s rho a))
    (differs_then p (pos 0 -ℤ value s rho a) (pos 0 -ℤ pos (number rho a)) (pos (number rho r.word))
    (differs_sub p (pos 0) (pos 0) (value s rho a) (pos (number rho a)) (differs_same p (pos 0)) (value_differs s rho a))
    (borrowed (2 ^ length a) (literal_true rho r.carry) (number rho r.word) 0 (number rho a) (h.value ∙ plain (2 ^ length a)))))
  where
    plain : (p : ℕ) → p ≡ 0 + p
    plain p = omega arith

    from_zero : (x : ℤ) → pos 0 -ℤ x ≡ neg_ℤ x
    from_zero x = omega (arith, ints)

pub value-mul : (s : Bool) (rho : ℕ → Bool) (a b : List Lit) (n : Netlist) → 0 < length a → length a ≡ length b → IsModel rho (mul_of a b n).net → value s rho (mul_of a b n).word ≡ wrap (length a) s (value s rho a *ℤ value s rho b)
value-mul s rho a b n some e m =
    let h = Gives-mul rho a b n e m in
    let r = mul_of a b n in
    let p : ℤ = pos (2 ^ length a) in
    value_wraps_at s rho r.word (length a) _ h.long some
    (differs_then p (value s rho a *ℤ value s rho b) (pos (number rho a) *ℤ pos (number rho b)) (pos (number rho r.word))
    (differs_mul p (value s rho a) (pos (number rho a)) (value s rho b) (pos (number rho b)) (value_differs s rho a) (at_length (length b) (length a) (value s rho b) (pos (number rho b)) (sym e) (value_differs s rho b)))
    (subst (λ (x : ℤ). DiffersByMultiple p x (pos (number rho r.word))) (sym (pos-*ℤ-pos (number rho a) (number rho b)))
    (subst (λ (k : ℕ). DiffersByMultiple p (pos (number rho a * number rho b)) (pos k)) (sym h.number_is) (differs_mod (2 ^ length a) (number rho a * number rho b)))))
