-- Numbers, read digit by digit.
use Rattle.std.proofs.Common.{◌≡◌, ◌≢◌, ℕ, zero, suc, ◌<◌, ◌≤◌, ◌+◌, ◌*◌, ◌/◌, ◌%◌, ◌^◌, ℤ, pos, negsuc, List, [], ◌∷◌, ◌++◌, length, get_or, refl, ap, sym, ◌∙◌, subst, arith, ◌⊎◌, append_assoc, length-append}
use Rattle.std.specs.Char.{digit_value}
use Rattle.std.specs.Fmt.{decimal, signed_decimal}
use Rattle.std.specs.Str.Parse.{AllDigits, IsNumeral, digits_value, digits_value_after}
use Rattle.std.proofs.lemmas.Fmt.{decimal_is_IsNumeral, decimal_digit, decimal_step, decimal_injective, first_decimal}
use Rattle.finding_lines.specs.Numbers.{IsNumber, IsMagnitude}
use Rattle.finding_lines.specs.Reading.{Opens, IsTaken, NoneTaken}
use Rattle.finding_lines.proofs.NumberLemmas.{number-below, number-from, is-number}
use Rattle.finding_lines.proofs.SpellingLemmas.{word-split, decimal-lacks_space}

-- digits were read, and what follows them is what is left of a magnitude's digits
pub record DigitsSoFar (bytes : List ℕ) (number : ℕ) (rest : List ℕ) : Type 0 where
  pub fits : IsMagnitude number
  pub whole : bytes ≡ decimal number ++ rest
  pub left : (n : ℕ) (more : List ℕ) → IsMagnitude n → Opens more → bytes ≡ decimal n ++ more → (ds : List ℕ) × AllDigits 10 ds × (rest ≡ ds ++ more) × (decimal n ≡ decimal number ++ ds) × (n ≡ digits_value_after 10 number ds)

start-left : (bytes rest ns more : List ℕ) (n c d : ℕ) → bytes ≡ c ∷ rest → decimal d ≡ c ∷ [] → digit_value c ≡ d → IsNumeral 10 ns → digits_value 10 ns ≡ n → bytes ≡ ns ++ more → (ds : List ℕ) × AllDigits 10 ds × (rest ≡ ds ++ more) × (ns ≡ decimal d ++ ds) × (n ≡ digits_value_after 10 d ds)
start-left bytes rest [] more n c d whole one is numeral value e = absurd (omega (arith, numeral.0))
start-left bytes rest (x ∷ ds) more n c d whole one is numeral value e =
    let heads : x ≡ c = cc in
    let tails : rest ≡ ds ++ more = cc in
    let same : 0 * 10 + digit_value x ≡ d = omega (arith, ap digit_value heads, is) in
    (ds, numeral.1.1, tails, ap (λ z. z ∷ ds) heads ∙ ap (λ z. z ++ ds) (sym one), sym value ∙ ap (λ z. digits_value_after 10 z ds) same)

one-digit : (c d : ℕ) → d < 10 → c ≡ 48 + d → decimal d ≡ c ∷ []
one-digit c d small e = decimal_digit d small ∙ ap (λ z. z ∷ []) (sym e)

pub digits-start : (bytes rest : List ℕ) (c d : ℕ) → bytes ≡ c ∷ rest → d < 10 → c ≡ 48 + d → digit_value c ≡ d → DigitsSoFar bytes d rest
digits-start bytes rest c d whole small e is = record {
  fits = omega arith;
  whole = whole ∙ ap (λ z. z ++ rest) (sym (one-digit c d small e));
  left = λ n more h opens f. let k = decimal_is_IsNumeral n (omega arith) in start-left bytes rest (decimal n) more n c d whole (one-digit c d small e) is k.0 k.1 f;
}

digits-first : (bytes rest ns more : List ℕ) (c : ℕ) → bytes ≡ c ∷ rest → 10 ≤ digit_value c → IsNumeral 10 ns → bytes ≢ ns ++ more
digits-first bytes rest [] more c whole bad numeral e = omega (arith, numeral.0)
digits-first bytes rest (x ∷ ds) more c whole bad numeral e =
    let heads : x ≡ c = cc in
    omega (arith, numeral.1.0, ap digit_value heads, bad)

-- no magnitude begins with a byte that is no digit, or is written by no byte
pub digits-none : (bytes rest : List ℕ) (c : ℕ) → bytes ≡ c ∷ rest → 10 ≤ digit_value c → NoneTaken IsMagnitude decimal bytes
digits-none bytes rest c whole bad n more h opens e = digits-first bytes rest (decimal n) more c whole bad (decimal_is_IsNumeral n (omega arith)).0 e

pub digits-nothing : (bytes : List ℕ) → length bytes ≡ 0 → NoneTaken IsMagnitude decimal bytes
digits-nothing bytes none n more h opens e =
    let k = (decimal_is_IsNumeral n (omega arith)).0.0 in
    let size = ap length e ∙ length-append (decimal n) more in
    omega (arith, k, size, none)

next-digit : (number b d : ℕ) → number ≢ 0 → number * 10 + d < 2 ^ 64 → d < 10 → b ≡ 48 + d → decimal (number * 10 + d) ≡ decimal number ++ b ∷ []
next-digit number b d some few small e =
    let m : ℕ = number * 10 + d in
    let front : m / 10 ≡ number = omega arith in
    let end : 48 + m % 10 ≡ b = omega arith in
    decimal_step m (omega arith) (omega arith) ∙ (λ i. decimal (front i) ++ (end i ∷ []))

-- what follows a byte other than a space
next-left : (rest back ds more : List ℕ) (b : ℕ) → rest ≡ b ∷ back → b ≢ 32 → Opens more → AllDigits 10 ds → rest ≡ ds ++ more → (es : List ℕ) × (ds ≡ b ∷ es) × (digit_value b < 10) × AllDigits 10 es × (back ≡ es ++ more)
next-left rest back [] [] b is apart opens all e = absurd (let size = ap length (sym is ∙ e) in omega (arith, size))
next-left rest back [] (m ∷ more) b is apart opens all e = let heads : b ≡ m = cc in absurd (apart (heads ∙ opens))
next-left rest back (x ∷ ds) more b is apart opens all e =
    let heads : x ≡ b = cc in
    let tails : back ≡ ds ++ more = cc in
    (ds, ap (λ z. z ∷ ds) heads, omega (arith, all.0, ap digit_value heads), all.1, tails)

pub digits-step : (bytes rest back : List ℕ) (number b d : ℕ) → DigitsSoFar bytes number rest → rest ≡ b ∷ back → b ≢ 32 → d < 10 → b ≡ 48 + d → digit_value b ≡ d → number ≢ 0 → IsMagnitude (number * 10 + d) → DigitsSoFar bytes (number * 10 + d) back
digits-step bytes rest back number b d so is apart small e value some few =
    let next = next-digit number b d some few small e in
    record {
      fits = few;
      whole = so.whole ∙ ap (λ z. decimal number ++ z) is ∙ sym (append_assoc (decimal number) (b ∷ []) back) ∙ ap (λ z. z ++ back) (sym next);
      left = λ n more h opens f.
          let l = so.left n more h opens f in
          let k = next-left rest back l.0 more b is apart opens l.1 l.2 in
          let same : number * 10 + digit_value b ≡ number * 10 + d = omega (arith, value) in (
            k.0,
            k.3,
            k.4,
            l.3 ∙ ap (λ z. decimal number ++ z) k.1 ∙ sym (append_assoc (decimal number) (b ∷ []) k.0) ∙ ap (λ z. z ++ k.0) (sym next),
            l.4 ∙ ap (digits_value_after 10 number) k.1 ∙ ap (λ z. digits_value_after 10 z k.0) same,
          );
    }

-- a byte that is neither a digit nor a space
pub stuck-other : (bytes rest back : List ℕ) (number b : ℕ) → DigitsSoFar bytes number rest → rest ≡ b ∷ back → b ≢ 32 → 10 ≤ digit_value b → NoneTaken IsMagnitude decimal bytes
stuck-other bytes rest back number b so is apart bad n more h opens e =
    let l = so.left n more h opens e in
    let k = next-left rest back l.0 more b is apart opens l.1 l.2 in
    omega (arith, k.2, bad)

no-zero-first : (n : ℕ) (ns es : List ℕ) (b : ℕ) → IsMagnitude n → decimal n ≡ ns → ns ≡ 48 ∷ b ∷ es → ⊥
no-zero-first zero ns es b h is e =
    let size = ap length (sym (decimal_digit 0 (omega arith)) ∙ is ∙ e) in
    omega (arith, size)
no-zero-first (suc n) ns es b h is e =
    let first = first_decimal (suc n) (omega arith) (omega arith) in
    let same = ap (λ z. get_or z 0 0) (is ∙ e) in
    omega (arith, first, same)

-- a zero before another digit
pub stuck-zero : (bytes rest back : List ℕ) (number b : ℕ) → DigitsSoFar bytes number rest → rest ≡ b ∷ back → b ≢ 32 → number ≡ 0 → NoneTaken IsMagnitude decimal bytes
stuck-zero bytes rest back number b so is apart none n more h opens e =
    let l = so.left n more h opens e in
    let k = next-left rest back l.0 more b is apart opens l.1 l.2 in
    let spelled = l.3 ∙ ap (λ z. decimal z ++ l.0) none ∙ ap (λ z. z ++ l.0) (decimal_digit 0 (omega arith)) ∙ ap (λ z. 48 ∷ z) k.1 in
    no-zero-first n (decimal n) k.0 b h refl spelled

value-grows : (n : ℕ) (ds : List ℕ) → n ≤ digits_value_after 10 n ds
value-grows n [] = omega arith
value-grows n (c ∷ cs) = omega (arith, value-grows (n * 10 + digit_value c) cs)

-- too many digits
pub stuck-large : (bytes rest back : List ℕ) (number b d : ℕ) → DigitsSoFar bytes number rest → rest ≡ b ∷ back → b ≢ 32 → digit_value b ≡ d → 2 ^ 64 ≤ number * 10 + d → NoneTaken IsMagnitude decimal bytes
stuck-large bytes rest back number b d so is apart digit many n more h opens e =
    let l = so.left n more h opens e in
    let k = next-left rest back l.0 more b is apart opens l.1 l.2 in
    let value = l.4 ∙ ap (digits_value_after 10 number) k.1 in
    omega (arith, value, value-grows (number * 10 + digit_value b) k.0)

pub digits-end : (bytes rest : List ℕ) (number : ℕ) → DigitsSoFar bytes number rest → Opens rest → IsTaken IsMagnitude decimal bytes number rest
digits-end bytes rest number so opens = record { good = so.fits; opens = opens; whole = so.whole }

-- the magnitude in front is determined
magnitude-split : (m n : ℕ) (a b : List ℕ) → IsMagnitude m → IsMagnitude n → Opens a → Opens b → decimal m ++ a ≡ decimal n ++ b → m ≡ n
magnitude-split m n a b fm fn oa ob e =
    let parts = word-split (decimal m) a (decimal n) b (decimal-lacks_space m (omega arith)) (decimal-lacks_space n (omega arith)) oa ob e in
    decimal_injective m n (omega arith) (omega arith) parts.0

-- numbers behind a minus
pub minus-none : (bytes digits : List ℕ) → bytes ≡ 45 ∷ digits → NoneTaken IsMagnitude decimal digits → NoneTaken IsNumber signed_decimal bytes
minus-none bytes digits whole none (pos n) more fits opens e =
    digits-none bytes digits 45 whole (omega arith) n more (number-below n fits) opens e
minus-none bytes digits whole none (negsuc n) more fits opens e =
    let from = number-from n fits in
    let tails : digits ≡ decimal (suc n) ++ more = cc in
    none (suc n) more (omega arith) opens tails

-- there is no number of that magnitude below 0
pub minus-wrong : (bytes digits rest : List ℕ) (m : ℕ) → bytes ≡ 45 ∷ digits → IsTaken IsMagnitude decimal digits m rest → (m ≡ 0) ⊎ (2 ^ 63 < m) → NoneTaken IsNumber signed_decimal bytes
minus-wrong bytes digits rest m whole taken wrong (pos n) more fits opens e =
    digits-none bytes digits 45 whole (omega arith) n more (number-below n fits) opens e
minus-wrong bytes digits rest m whole taken wrong (negsuc n) more fits opens e =
    let from = number-from n fits in
    let tails : digits ≡ decimal (suc n) ++ more = cc in
    let same = magnitude-split m (suc n) rest more taken.good (omega arith) taken.opens opens (sym taken.whole ∙ tails) in
    omega (arith, same, wrong)

pub minus-taken : (bytes digits rest : List ℕ) (m : ℕ) (n : ℤ) → bytes ≡ 45 ∷ digits → IsTaken IsMagnitude decimal digits m rest → IsNumber n → signed_decimal n ≡ 45 ∷ decimal m → IsTaken IsNumber signed_decimal bytes n rest
minus-taken bytes digits rest m n whole taken fits is = record {
  good = fits;
  opens = taken.opens;
  whole = whole ∙ ap (λ z. 45 ∷ z) taken.whole ∙ ap (λ z. z ++ rest) (sym is);
}

-- and without one
pub plus-none : (bytes : List ℕ) → ((more : List ℕ) → bytes ≢ 45 ∷ more) → NoneTaken IsMagnitude decimal bytes → NoneTaken IsNumber signed_decimal bytes
plus-none bytes bare none (pos n) more fits opens e = none n more (number-below n fits) opens e
plus-none bytes bare none (negsuc n) more fits opens e = bare (decimal (suc n) ++ more) e

pub plus-taken : (bytes rest : List ℕ) (m : ℕ) (n : ℤ) → IsTaken IsMagnitude decimal bytes m rest → n ≡ pos m → IsTaken IsNumber signed_decimal bytes n rest
plus-taken bytes rest m n taken is = record {
  good = subst IsNumber (sym is) (is-number m taken.good);
  opens = taken.opens;
  whole = taken.whole ∙ ap (λ z. signed_decimal z ++ rest) (sym is);
}
