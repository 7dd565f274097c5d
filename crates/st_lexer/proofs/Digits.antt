-- Digits read one by one: the value so far, cut at a limit, and whether a digit must come next.
use Rattle.std.proofs.Common.{◌≡◌, ℕ, ◌+◌, ◌*◌, ◌<◌, ◌≤◌, Bool, true, false, cond, List, [], ◌∷◌, length, get_or, drop, Option, Some, None, min, refl, sym, ap, ◌∙◌, arith, add-one, drop-cons, inl, inr}
use Rattle.std.proofs.lemmas.List.{drop_all}
use Rattle.std.specs.Prelude.{option_map, ◌==◌, nat_lt, if◌then◌else◌}
use Rattle.std.proofs.Math.Nat.{mul-le-mul_left}
use Rattle.std.proofs.lemmas.Bool.{cases_lt}
use Rattle.std.proofs.lemmas.Bool.Decides.{nat_tests}
use Rattle.source_tree.specs.Numbers.{digit, is_digit_of, are_digits, value_after, based}

-- the value of digits behind a value; a digit must come next where the test is true
unfoldable pub digits : ℕ → ℕ → Bool → List ℕ → Option ℕ
digits base value true [] = None
digits base value false [] = Some value
digits base value needed (b ∷ bs) =
    if b == 95 then (if needed then None else digits base value true bs) else (if nat_lt (digit b) base then digits base (value * base + digit b) false bs else None)

abbrev pub cut : ℕ → Option ℕ → Option ℕ
cut limit o = option_map (λ v. min v limit) o

cut_step : (limit base s d : ℕ) → 1 ≤ base → min (s * base + d) limit ≡ min (min s limit * base + d) limit
cut_step limit base s d some =
    elim (cases_lt limit s) [
      | inl above ↦ (
          let a : limit * 1 ≤ limit * base = mul-le-mul_left limit some in
          let b : s * 1 ≤ s * base = mul-le-mul_left s some in
          let m : min s limit ≡ limit = omega arith in
          rw m (omega arith))
      | inr below ↦ (let m : min s limit ≡ s = omega arith in rw m refl)
    ]

pub cut_digits : (limit base s : ℕ) (needed : Bool) (bs : List ℕ) → 1 ≤ base → cut limit (digits base s needed bs) ≡ cut limit (digits base (min s limit) needed bs)
unfolding digits
cut_digits limit base s true [] some = refl
cut_digits limit base s false [] some = ap (λ (n : ℕ). Some n) (omega arith)
cut_digits limit base s true (b ∷ bs) some =
    elim (b == 95) as (λ x. cut limit (cond x None (cond (nat_lt (digit b) base) (digits base (s * base + digit b) false bs) None)) ≡ cut limit (cond x None (cond (nat_lt (digit b) base) (digits base (min s limit * base + digit b) false bs) None))) [
      | true ↦ refl
      | false ↦ elim (nat_lt (digit b) base) as (λ x. cut limit (cond x (digits base (s * base + digit b) false bs) None) ≡ cut limit (cond x (digits base (min s limit * base + digit b) false bs) None)) [
        | true ↦ both limit base s (digit b) bs some (cut_digits limit base (s * base + digit b) false bs some) (cut_digits limit base (min s limit * base + digit b) false bs some)
        | false ↦ refl
      ]
    ]
  where
    both : (limit base s d : ℕ) (bs : List ℕ) → 1 ≤ base → cut limit (digits base (s * base + d) false bs) ≡ cut limit (digits base (min (s * base + d) limit) false bs) → cut limit (digits base (min s limit * base + d) false bs) ≡ cut limit (digits base (min (min s limit * base + d) limit) false bs)
        → cut limit (digits base (s * base + d) false bs) ≡ cut limit (digits base (min s limit * base + d) false bs)
    both limit base s d bs some p q = p ∙ ap (λ (v : ℕ). cut limit (digits base v false bs)) (cut_step limit base s d some) ∙ sym q
cut_digits limit base s false (b ∷ bs) some =
    elim (b == 95) as (λ x. cut limit (cond x (digits base s true bs) (cond (nat_lt (digit b) base) (digits base (s * base + digit b) false bs) None)) ≡ cut limit (cond x (digits base (min s limit) true bs) (cond (nat_lt (digit b) base) (digits base (min s limit * base + digit b) false bs) None))) [
      | true ↦ cut_digits limit base s true bs some
      | false ↦ elim (nat_lt (digit b) base) as (λ x. cut limit (cond x (digits base (s * base + digit b) false bs) None) ≡ cut limit (cond x (digits base (min s limit * base + digit b) false bs) None)) [
        | true ↦ (cut_digits limit base (s * base + digit b) false bs some ∙ ap (λ (v : ℕ). cut limit (digits base v false bs)) (cut_step limit base s (digit b) some) ∙ sym (cut_digits limit base (min s limit * base + digit b) false bs some))
        | false ↦ refl
      ]
    ]

pub digits_step : (base v : ℕ) (needed : Bool) (text : List ℕ) (i : ℕ) → i < length text
    → digits base v needed (drop i text) ≡ (if get_or text i 0 == 95 then (if needed then None else digits base v true (drop (i + 1) text))
    else (if nat_lt (digit (get_or text i 0)) base then digits base (v * base + digit (get_or text i 0)) false (drop (i + 1) text) else None))
unfolding digits
digits_step base v true text i lt =
    let cut : drop i text ≡ get_or text i 0 ∷ drop (i + 1) text = rw add-one (drop-cons text i 0 lt) in ap (digits base v true) cut
digits_step base v false text i lt =
    let cut : drop i text ≡ get_or text i 0 ∷ drop (i + 1) text = rw add-one (drop-cons text i 0 lt) in ap (digits base v false) cut

pub digits_end : (base v : ℕ) (needed : Bool) (text : List ℕ) (i : ℕ) → length text ≤ i → digits base v needed (drop i text) ≡ (if needed then None else Some v)
unfolding digits
digits_end base v true text i le = ap (digits base v true) (drop_all i text le)
digits_end base v false text i le = ap (digits base v false) (drop_all i text le)

-- behind a digit, another may come next, or an underscore
no_underscore : (base value b : ℕ) (bs : List ℕ) → (b == 95) ≡ false → digits base value false (b ∷ bs) ≡ digits base value true (b ∷ bs)
unfolding digits
no_underscore base value b bs h = rw h refl

underscore : (base value b : ℕ) (bs : List ℕ) → (b == 95) ≡ true → digits base value false (b ∷ bs) ≡ digits base value true bs
unfolding digits
underscore base value b bs h = rw h refl

not_both : (base b : ℕ) → base ≤ 16 → is_digit_of base b ≡ true → (b == 95) ≡ false
not_both base b low h =
    elim (b == 95) as (λ x. (b == 95) ≡ x → x ≡ false) [
      | true ↦ λ e. absurd (let z : b ≡ 95 = grind (arith, nat_tests) in let k : is_digit_of base 95 ≡ true = rw z at h in let lt : 16 < base = grind (arith, nat_tests) in omega arith)
      | false ↦ λ e. refl
    ] refl

no_digit : (x : Bool) → cond x None (let o : Option ℕ = None in o) ≡ None
no_digit true = refl
no_digit false = refl

-- digits read one by one have the value that they stand for
pub digits_are : (base value : ℕ) (bs : List ℕ) → base ≤ 16 → digits base value true bs ≡ (if are_digits base bs then Some (value_after base value bs) else None)
unfolding digits are_digits value_after
digits_are base value [] low = refl
digits_are base value (b ∷ []) low =
    elim (is_digit_of base b) as (λ x. is_digit_of base b ≡ x → digits base value true (b ∷ []) ≡ cond (are_digits base (b ∷ [])) (Some (value_after base value (b ∷ []))) None) [
      | true ↦ λ e. let n = not_both base b low e in rw (n, e) refl
      | false ↦ λ e. rw e (no_digit (b == 95))
    ] refl
digits_are base value (b ∷ c ∷ bs) low =
    elim (is_digit_of base b) as (λ x. is_digit_of base b ≡ x → digits base value true (b ∷ c ∷ bs) ≡ cond (are_digits base (b ∷ c ∷ bs)) (Some (value_after base value (b ∷ c ∷ bs))) None) [
      | true ↦ λ e.
          let n = not_both base b low e in
          rw (n, e) (behind base (value * base + digit b) c bs (digits_are base (value * base + digit b) bs low) (digits_are base (value * base + digit b) (c ∷ bs) low))
      | false ↦ λ e. rw e (no_digit (b == 95))
    ] refl
  where
    behind : (base value c : ℕ) (bs : List ℕ)
        → digits base value true bs ≡ cond (are_digits base bs) (Some (value_after base value bs)) None
        → digits base value true (c ∷ bs) ≡ cond (are_digits base (c ∷ bs)) (Some (value_after base value (c ∷ bs))) None
        → digits base value false (c ∷ bs) ≡ cond (cond (c == 95) (are_digits base bs) (are_digits base (c ∷ bs))) (Some (value_after base value (c ∷ bs))) None
    behind base value c bs one two =
        elim (c == 95) as (λ x. (c == 95) ≡ x → digits base value false (c ∷ bs) ≡ cond (cond x (are_digits base bs) (are_digits base (c ∷ bs))) (Some (value_after base value (c ∷ bs))) None) [
          | true ↦ λ f. rw f one
          | false ↦ λ f. no_underscore base value c bs f ∙ two
        ] refl

pub based_is : (base : ℕ) (bs : List ℕ) → base ≤ 16 → digits base 0 true bs ≡ based base bs
based_is base bs low = digits_are base 0 bs low
