-- Division of words as unsigned numbers, one quotient bit at a time.
use Rattle.std.proofs.Common.{◌≡◌, ℕ, suc, ◌+◌, ◌*◌, ◌^◌, ◌<◌, Bool, true, false, refl, sym, ◌∙◌, ap, subst, List, [], ◌∷◌, ◌++◌, length, take, reverse, arith, length-append}
use Rattle.std.proofs.Math.Nat.{pow-succ'}
use Rattle.std.proofs.lemmas.List.{length-replicate, length-take-le}
use Rattle.std.proofs.lemmas.Grind.{reverse_onto}
use Rattle.clause_core.specs.declared.literal.Lit.{Lit}
use Rattle.clause_core.specs.Satisfaction.{literal_true}
use Rattle.gates.specs.Literals.{false_lit}
use Rattle.gates.specs.Models.{IsModel}
use Rattle.gates.specs.Netlists.{Netlist}
use Rattle.word_circuits.specs.Words.{zeros}
use Rattle.word_circuits.specs.Sums.{sub_of}
use Rattle.word_circuits.specs.Divisions.{MadeStep, MadeRatio, divide_step_of, divide_from, divide_of}
use Rattle.word_circuits.proofs.Growth.{extends_divide_from}
use Rattle.gates.proofs.Growth.{IsModel-front}
use Rattle.word_laws.specs.Numbers.{bit, number}
use Rattle.word_laws.proofs.Numbers.{bit_small, number-lt, number-take, number-top, number-false}
use Rattle.word_laws.proofs.Additions.{Subtracts-sub, length-sub}
use Rattle.word_laws.proofs.Orders.{Gives-choose, pick, length-choose}

pub record DividesBit (rho : ℕ → Bool) (x : Lit) (r b : List Lit) (n : Netlist) (s : MadeStep) : Type 0 where
  pub model : IsModel rho n
  pub long : length s.rest ≡ length b
  pub below : number rho s.rest < number rho b
  pub value : bit (literal_true rho s.goes) * number rho b + number rho s.rest ≡ bit (literal_true rho x) + 2 * number rho r

-- what is left, by whether b goes
record StepGives (goes : Bool) (b wide t u : ℕ) : Type 0 where
  pub below : pick goes t u < b
  pub value : bit goes * b + pick goes t u ≡ wide

by_goes : (goes : Bool) (d p q b wide t u : ℕ) → d < q → q ≡ 2 * p → b < p → wide < 2 * b → d + q * bit goes + b ≡ wide + q → (d < p → t ≡ d) → (wide < p → u ≡ wide) → StepGives goes b wide t u
unfolding pick
by_goes true d p q b wide t u h e small wide_small v low high =
    let is : t ≡ d = low (omega arith) in
    record { below = omega arith; value = omega arith }
by_goes false d p q b wide t u h e small wide_small v low high =
    let is : u ≡ wide = high (omega arith) in
    record { below = omega arith; value = omega arith }

pub length-step : (x : Lit) (r b : List Lit) (n : Netlist) → length r ≡ length b → length (divide_step_of x r b n).rest ≡ length b
unfolding divide_step_of
length-step x r b n e =
    let wide = x ∷ r in
    let d = sub_of wide (b ++ false_lit ∷ []) n in
    let same : length wide ≡ length (b ++ false_lit ∷ []) = omega (arith, length-append b (false_lit ∷ [])) in
    let long : length d.word ≡ length wide = length-sub wide (b ++ false_lit ∷ []) n same in
    length-choose d.carry (take (length b) d.word) (take (length b) wide) d.net (length-take-le (length b) d.word (omega arith) ∙ sym (length-take-le (length b) wide (omega arith))) ∙ length-take-le (length b) d.word (omega arith)

pub DividesBit-step : (rho : ℕ → Bool) (x : Lit) (r b : List Lit) (n : Netlist) → length r ≡ length b → number rho r < number rho b → IsModel rho (divide_step_of x r b n).net → DividesBit rho x r b n (divide_step_of x r b n)
unfolding divide_step_of
DividesBit-step rho x r b n e below m =
    let wide = x ∷ r in
    let d = sub_of wide (b ++ false_lit ∷ []) n in
    let same : length wide ≡ length (b ++ false_lit ∷ []) = omega (arith, length-append b (false_lit ∷ [])) in
    let long : length d.word ≡ length wide = length-sub wide (b ++ false_lit ∷ []) n same in
    let c = Gives-choose rho d.carry (take (length b) d.word) (take (length b) wide) d.net (length-take-le (length b) d.word (omega arith) ∙ sym (length-take-le (length b) wide (omega arith))) m in
    let s = Subtracts-sub rho wide (b ++ false_lit ∷ []) n same c.model in
    let g = by_goes (literal_true rho d.carry) (number rho d.word) (2 ^ length b) (2 ^ length wide) (number rho b) (number rho wide) (number rho (take (length b) d.word)) (number rho (take (length b) wide))
    (subst (λ z. number rho d.word < 2 ^ z) long (number-lt rho d.word))
    (ap (λ z. 2 ^ suc z) e ∙ pow-succ' 2 (length b)) (number-lt rho b) (omega (arith, bit_small (literal_true rho x)))
    (ap (λ z. number rho d.word + 2 ^ length wide * bit (literal_true rho d.carry) + z) (sym (number-top rho b s.model.one)) ∙ s.value)
    (number-take rho d.word (length b) (omega arith)) (number-take rho wide (length b) (omega arith)) in
    record {
      model = s.model;
      long = length-step x r b n e;
      below = subst (λ z. z < number rho b) (sym c.number_is) g.below;
      value = ap (λ z. bit (literal_true rho d.carry) * number rho b + z) c.number_is ∙ g.value;
    }

-- the number that bits spell from the top down, after v
abbrev top_number : (ℕ → Bool) → ℕ → List Lit → ℕ
top_number rho v [] = v
top_number rho v (x ∷ xs) = top_number rho (bit (literal_true rho x) + 2 * v) xs

pub record Divides (rho : ℕ → Bool) (n : Netlist) (r : MadeRatio) (b total : ℕ) : Type 0 where
  pub model : IsModel rho n
  pub below : number rho r.rest < b
  pub value : number rho r.quotient * b + number rho r.rest ≡ total

ratio_step : (g q b r' x r : ℕ) → g * b + r' ≡ x + 2 * r → (g + 2 * q) * b + r' ≡ x + 2 * (q * b + r)
ratio_step g q b r' x r e = omega arith

pub Divides-from : (rho : ℕ → Bool) (xs b r q : List Lit) (n : Netlist) → length r ≡ length b → number rho r < number rho b → IsModel rho (divide_from xs b r q n).net → Divides rho n (divide_from xs b r q n) (number rho b) (top_number rho (number rho q * number rho b + number rho r) xs)
Divides-from rho [] b r q n e below m = record { model = m; below = below; value = refl }
Divides-from rho (x ∷ xs) b r q n e below m =
    let s = divide_step_of x r b n in
    let h = DividesBit-step rho x r b n e below (IsModel-front rho s.net _ (extends_divide_from xs b s.rest (s.goes ∷ q) s.net) m) in
    let k = Divides-from rho xs b s.rest (s.goes ∷ q) s.net h.long h.below m in
    record {
      model = h.model;
      below = k.below;
      value = k.value ∙ ap (λ v. top_number rho v xs) (ratio_step (bit (literal_true rho s.goes)) (number rho q) (number rho b) (number rho s.rest) (bit (literal_true rho x)) (number rho r) h.value);
    }

top_number-append : (rho : ℕ → Bool) (v : ℕ) (xs ys : List Lit) → top_number rho v (xs ++ ys) ≡ top_number rho (top_number rho v xs) ys
top_number-append rho v [] ys = refl
top_number-append rho v (x ∷ xs) ys = top_number-append rho (bit (literal_true rho x) + 2 * v) xs ys

top_number-reverse : (rho : ℕ → Bool) (a : List Lit) → top_number rho 0 (reverse a) ≡ number rho a
top_number-reverse rho [] = refl
top_number-reverse rho (l ∷ ls) =
    ap (top_number rho 0) (reverse_onto ls l []) ∙ top_number-append rho 0 (reverse ls) (l ∷ []) ∙ ap (λ z. bit (literal_true rho l) + 2 * z) (top_number-reverse rho ls)

pub Divides-divide : (rho : ℕ → Bool) (a b : List Lit) (n : Netlist) → 0 < number rho b → IsModel rho (divide_of a b n).net → Divides rho n (divide_of a b n) (number rho b) (number rho a)
Divides-divide rho a b n h m =
    let one = m.one in
    let none = number-false rho (length b) one in
    let r = Divides-from rho (reverse a) b (zeros (length b)) [] n (length-replicate (length b) false_lit) (omega arith) m in
    record { model = r.model; below = r.below; value = r.value ∙ ap (λ v. top_number rho v (reverse a)) (omega arith) ∙ top_number-reverse rho a }

pub length-quotient : (xs b r q : List Lit) (n : Netlist) → length (divide_from xs b r q n).quotient ≡ length xs + length q
length-quotient [] b r q n = omega arith
length-quotient (x ∷ xs) b r q n =
    let s = divide_step_of x r b n in
    length-quotient xs b s.rest (s.goes ∷ q) s.net ∙ moved (length xs) (length q)
  where
    moved : (m n : ℕ) → m + suc n ≡ suc m + n
    moved m n = omega arith

pub length-rest : (xs b r q : List Lit) (n : Netlist) → length r ≡ length b → length (divide_from xs b r q n).rest ≡ length b
length-rest [] b r q n e = e
length-rest (x ∷ xs) b r q n e =
    let s = divide_step_of x r b n in
    length-rest xs b s.rest (s.goes ∷ q) s.net (length-step x r b n e)
