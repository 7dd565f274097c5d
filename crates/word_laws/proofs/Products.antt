-- Multiplication as whole numbers, modulo the word's power of two; AND with one literal.
use Rattle.std.proofs.Common.{◌≡◌, ℕ, suc, ◌+◌, ◌*◌, ◌-◌, ◌^◌, ◌%◌, ◌≤◌, ◌<◌, Bool, true, false, not, ◌&&◌, refl, sym, ◌∙◌, ap, subst, List, [], ◌∷◌, length, take, drop, replicate, arith, length-append}
use Rattle.std.proofs.Math.Nat.{add-mul-mod_self_left, mod-add-mod, mod-eq_of_lt}
use Rattle.std.proofs.lemmas.Grind.{pow_more}
use Rattle.std.proofs.lemmas.List.{length-replicate, length-take}
use Rattle.clause_core.specs.declared.literal.Lit.{Lit}
use Rattle.clause_core.specs.Satisfaction.{literal_true}
use Rattle.gates.specs.Literals.{false_lit}
use Rattle.gates.specs.Models.{IsModel}
use Rattle.gates.specs.Netlists.{Netlist}
use Rattle.gates.specs.Rules.{and_of}
use Rattle.gates.proofs.NetLaws.{Means-and}
use Rattle.word_circuits.specs.declared.bits.BitOperator.{BitOperator}
use Rattle.word_circuits.specs.declared.bits.BitOperator.TheVariants.{And}
use Rattle.word_circuits.specs.Words.{zeros, bitwise_of}
use Rattle.word_circuits.specs.Sums.{add_of}
use Rattle.word_circuits.specs.Products.{row_of, mul_from, mul_of}
use Rattle.word_laws.specs.Numbers.{bit, number}
use Rattle.word_laws.proofs.Numbers.{number-lt, number-append, number-false, split_number, powers}
use Rattle.word_laws.proofs.Additions.{Adds-add, length-add}
use Rattle.word_laws.proofs.Orders.{Gives}

bit-and : (a b : Bool) → bit (a && b) ≡ bit b * bit a
bit-and true true = refl
bit-and true false = refl
bit-and false true = refl
bit-and false false = refl

times_step : (x r n m : ℕ) → r ≡ x * n → x * m + 2 * r ≡ x * (m + 2 * n)
times_step x r n m e = rw e (distribute x m n)
  where
    distribute : (x m n : ℕ) → x * m + 2 * (x * n) ≡ x * (m + 2 * n)
    distribute x m n = omega arith

bit-and_left : (a b : Bool) → bit (a && b) ≡ bit a * bit b
bit-and_left true true = refl
bit-and_left true false = refl
bit-and_left false true = refl
bit-and_left false false = refl

-- AND of each bit with one literal, on the right and on the left
pub Gives-and_all : (rho : ℕ → Bool) (a : List Lit) (l : Lit) (n : Netlist) → IsModel rho (bitwise_of And a (replicate (length a) l) n).net → Gives rho n (bitwise_of And a (replicate (length a) l) n) (length a) (bit (literal_true rho l) * number rho a)
Gives-and_all rho [] l n m = record { model = m; long = refl; number_is = omega arith }
Gives-and_all rho (a ∷ as') l n m =
    let x = and_of a l n in
    let r = Gives-and_all rho as' l x.net m in
    let y = Means-and rho a l n r.model in
    record {
      model = y.model;
      long = ap suc r.long;
      number_is = ap (λ z. bit z + 2 * number rho (bitwise_of And as' (replicate (length as') l) x.net).word) y.value
          ∙ ap (λ z. z + 2 * number rho (bitwise_of And as' (replicate (length as') l) x.net).word) (bit-and (literal_true rho a) (literal_true rho l))
          ∙ times_step (bit (literal_true rho l)) _ (number rho as') (bit (literal_true rho a)) r.number_is;
    }

pub Gives-mask : (rho : ℕ → Bool) (a : List Lit) (l : Lit) (n : Netlist) → IsModel rho (bitwise_of And (replicate (length a) l) a n).net → Gives rho n (bitwise_of And (replicate (length a) l) a n) (length a) (bit (literal_true rho l) * number rho a)
Gives-mask rho [] l n m = record { model = m; long = refl; number_is = omega arith }
Gives-mask rho (a ∷ as') l n m =
    let x = and_of l a n in
    let r = Gives-mask rho as' l x.net m in
    let y = Means-and rho l a n r.model in
    record {
      model = y.model;
      long = ap suc r.long;
      number_is = ap (λ z. bit z + 2 * number rho (bitwise_of And (replicate (length as') l) as' x.net).word) y.value
          ∙ ap (λ z. z + 2 * number rho (bitwise_of And (replicate (length as') l) as' x.net).word) (bit-and_left (literal_true rho l) (literal_true rho a))
          ∙ times_step (bit (literal_true rho l)) _ (number rho as') (bit (literal_true rho a)) r.number_is;
    }

regroup : (s r q y x : ℕ) → r + q ≡ x → s + r + 0 + y + q ≡ s + (x + y)
regroup s r q y x e = omega arith

nothing_more : (s p : ℕ) → s ≡ s + p * 0
nothing_more s p = omega arith

shifted : (p z n v : ℕ) → z ≡ 0 → v ≡ n → z + p * v ≡ p * n
shifted p z n v e f = rw (e, f) (omega arith)

pub Gives-row : (rho : ℕ → Bool) (a : List Lit) (i : ℕ) (l : Lit) (n : Netlist) → i ≤ length a → IsModel rho (row_of a i l n).net → Gives rho n (row_of a i l n) (length a) (2 ^ i * (bit (literal_true rho l) * number rho (take (length a - i) a)))
Gives-row rho a i l n h m =
    let r = Gives-and_all rho (take (length a - i) a) l n m in
    record {
      model = r.model;
      long = omega (arith, length-append (zeros i) (bitwise_of And (take (length a - i) a) (replicate (length (take (length a - i) a)) l) n).word, length-replicate i false_lit, r.long, length-take (length a - i) a);
      number_is = number-append rho (zeros i) (bitwise_of And (take (length a - i) a) (replicate (length (take (length a - i) a)) l) n).word
          ∙ ap (λ z. number rho (zeros i) + 2 ^ z * number rho (bitwise_of And (take (length a - i) a) (replicate (length (take (length a - i) a)) l) n).word) (length-replicate i false_lit)
          ∙ shifted (2 ^ i) _ _ _ (number-false rho i r.model.one) r.number_is;
    }

whole_row : (p q b t d : ℕ) → p * (b * (t + q * d)) ≡ p * (b * t) + p * q * (b * d)
whole_row p q b t d = omega arith

row_number : (rho : ℕ → Bool) (a : List Lit) (i b : ℕ) → i ≤ length a → 2 ^ i * (b * number rho a) ≡ 2 ^ i * (b * number rho (take (length a - i) a)) + 2 ^ length a * (b * number rho (drop (length a - i) a))
row_number rho a i b h =
    ap (λ z. 2 ^ i * (b * z)) (split_number rho a (length a - i) (omega arith))
    ∙ whole_row (2 ^ i) (2 ^ (length a - i)) b (number rho (take (length a - i) a)) (number rho (drop (length a - i) a))
    ∙ ap (λ z. 2 ^ i * (b * number rho (take (length a - i) a)) + z * (b * number rho (drop (length a - i) a))) (powers i (length a) h)

-- the sum of a word and a row
sum_mod : (w p c x : ℕ) → w < p → w + p * c ≡ x → w ≡ x % p
sum_mod w p c x h e = sym (mod-eq_of_lt h) ∙ sym (add-mul-mod_self_left w p c) ∙ ap (λ z. z % p) e

mul_step : (p s r q y x k : ℕ) → r + p * q ≡ x → ((s + r + 0) % p + y) % p ≡ (s + (x + y)) % p
mul_step p s r q y x k e =
    mod-add-mod (s + r + 0) p y
    ∙ sym (add-mul-mod_self_left (s + r + 0 + y) p q)
    ∙ ap (λ z. z % p) (regroup s r (p * q) y x e)

rest_turn : (i b a y : ℕ) → i * (b * a) + i * 2 * a * y ≡ i * a * (b + 2 * y)
rest_turn i b a y = omega arith

zero_more : (m n : ℕ) → m ≡ n → 0 + n ≡ m
zero_more m n e = omega arith

one_times : (a b : ℕ) → 0 + 1 * a * b ≡ a * b
one_times a b = omega arith

-- one turn: the row is added, and twice the rest follows
turn : (p s r w d i j b a y t : ℕ) → w ≡ (s + r + 0) % p → r ≡ i * (b * t) → i * (b * a) ≡ i * (b * t) + p * (b * d) → j ≡ i * 2 → (w + j * a * y) % p ≡ (s + i * a * (b + 2 * y)) % p
turn p s r w d i j b a y t f g h k =
    ap (λ z. (z + j * a * y) % p) f ∙ mul_step p s r (b * d) (j * a * y) (i * (b * a)) 0 (ap (λ z. z + p * (b * d)) g ∙ sym h)
    ∙ ap (λ z. (s + (i * (b * a) + z * a * y)) % p) k ∙ ap (λ z. (s + z) % p) (rest_turn i b a y)

pub length-bitwise : (o : BitOperator) (a b : List Lit) (n : Netlist) → length a ≡ length b → length (bitwise_of o a b n).word ≡ length a
length-bitwise o [] b n e = refl
length-bitwise o (a ∷ as') [] n e = absurd (omega arith)
length-bitwise o (a ∷ as') (b ∷ bs) n e = ap suc (length-bitwise o as' bs _ (omega arith))

length-row : (a : List Lit) (i : ℕ) (l : Lit) (n : Netlist) → i ≤ length a → length (row_of a i l n).word ≡ length a
length-row a i l n h =
    let low = take (length a - i) a in
    omega (arith, length-append (zeros i) (bitwise_of And low (replicate (length low) l) n).word, length-replicate i false_lit, length-bitwise And low (replicate (length low) l) n (sym (length-replicate (length low) l)), length-take (length a - i) a)

length-mul_from : (a : List Lit) (i : ℕ) (b sum : List Lit) (n : Netlist) → length sum ≡ length a → i + length b ≡ length a → length (mul_from a i b sum n).word ≡ length a
length-mul_from a i [] sum n e f = e
length-mul_from a i (b ∷ bs) sum n e f =
    let row = row_of a i b n in
    let long = length-row a i b n (omega arith) in
    let s = add_of sum row.word false_lit row.net in
    length-mul_from a (i + 1) bs s.word s.net (length-add sum row.word false_lit row.net (e ∙ sym long) ∙ e) (omega arith)

pub length-mul : (a b : List Lit) (n : Netlist) → length a ≡ length b → length (mul_of a b n).word ≡ length a
length-mul a b n e = length-mul_from a 0 b (zeros (length a)) n (length-replicate (length a) false_lit) (omega arith)

pub Gives-mul_from : (rho : ℕ → Bool) (a : List Lit) (i : ℕ) (b sum : List Lit) (n : Netlist) → length sum ≡ length a → i + length b ≡ length a → IsModel rho (mul_from a i b sum n).net → Gives rho n (mul_from a i b sum n) (length a) ((number rho sum + 2 ^ i * number rho a * number rho b) % 2 ^ length a)
Gives-mul_from rho a i [] sum n e f m = record {
  model = m;
  long = e;
  number_is = sym (mod-eq_of_lt (subst (λ z. number rho sum < 2 ^ z) e (number-lt rho sum))) ∙ ap (λ z. z % 2 ^ length a) (nothing_more (number rho sum) (2 ^ i * number rho a));
}
Gives-mul_from rho a i (b ∷ bs) sum n e f m =
    let row = row_of a i b n in
    let s = add_of sum row.word false_lit row.net in
    let h : i ≤ length a = omega arith in
    let same : length sum ≡ length row.word = e ∙ sym (length-row a i b n h) in
    let long : length s.word ≡ length a = length-add sum row.word false_lit row.net same ∙ e in
    let q = Gives-mul_from rho a (i + 1) bs s.word s.net long (omega arith) m in
    let t = Adds-add rho sum row.word false_lit row.net same q.model in
    let r = Gives-row rho a i b n h t.model in
    let p = 2 ^ length a in
    let no_carry : bit (literal_true rho false_lit) ≡ 0 = ap (λ z. bit (not z)) r.model.one in
    let sum_is : number rho s.word ≡ (number rho sum + number rho row.word + 0) % p =
    sum_mod (number rho s.word) p _ _ (subst (λ z. number rho s.word < 2 ^ z) long (number-lt rho s.word))
    (ap (λ z. number rho s.word + 2 ^ z * bit (literal_true rho s.carry)) (sym e) ∙ t.value ∙ ap (λ z. number rho sum + number rho row.word + z) no_carry) in
    record {
      model = r.model;
      long = q.long;
      number_is = q.number_is ∙ turn p (number rho sum) (number rho row.word) (number rho s.word) (number rho (drop (length a - i) a)) (2 ^ i) (2 ^ (i + 1)) (bit (literal_true rho b)) (number rho a) (number rho bs) (number rho (take (length a - i) a)) sum_is r.number_is (row_number rho a i (bit (literal_true rho b)) h) (pow_more 2 i);
    }

pub Gives-mul : (rho : ℕ → Bool) (a b : List Lit) (n : Netlist) → length a ≡ length b → IsModel rho (mul_of a b n).net → Gives rho n (mul_of a b n) (length a) ((number rho a * number rho b) % 2 ^ length a)
Gives-mul rho a b n e m =
    let r = Gives-mul_from rho a 0 b (zeros (length a)) n (length-replicate (length a) false_lit) (zero_more (length a) (length b) e) m in
    record {
      model = r.model;
      long = r.long;
      number_is = r.number_is ∙ ap (λ z. (z + 1 * number rho a * number rho b) % 2 ^ length a) (number-false rho (length a) r.model.one) ∙ ap (λ z. z % 2 ^ length a) (one_times (number rho a) (number rho b));
    }
