-- Rows of numbers, read from the left.
use Rattle.std.proofs.Common.{◌≡◌, ◌≢◌, ℕ, ◌<◌, ℤ, pos, negsuc, List, [], ◌∷◌, ◌++◌, length, true, refl, ap, sym, ◌∙◌, arith, append_assoc, lit<, of_z}
use Rattle.std.specs.Int.{w128}
use Rattle.std.specs.Prelude.{codes, nat_lt, int_lt, ◌<ℤ◌, ◌≤ℤ◌}
use Rattle.std.specs.Int.RustNames.{unsigned_abs}
use Rattle.std.specs.List.{All}
use Rattle.std.proofs.lemmas.List.{append-nil}
use Rattle.std.proofs.lemmas.List.Elements.{All-nil, All-cons, All-head, All-tail, All-push}
use Rattle.std.proofs.lemmas.Fmt.{decimal_digit}
use Rattle.std.proofs.lemmas.Int.{ints}
use Rattle.std.proofs.lemmas.Bool.{false≢true, ltb-true, and_parts}
use Rattle.finding_lines.specs.Numbers.{IsNumber, AreNumbers}
use Rattle.finding_lines.specs.Form.{rises_from, all_positive, rises_above, are_ids}
use Rattle.finding_lines.specs.Spelling.{spaced, spaced_all, ended}
use Rattle.finding_lines.specs.Reading.{Opens, IsTaken, NoneTaken, AreNonzero}
use Rattle.finding_lines.proofs.NumberLemmas.{is-number, number-from}
use Rattle.finding_lines.proofs.SpellingLemmas.{spaced-split, Opens-spaced_all}

pub spaced_all-push : (ns : List ℤ) (n : ℤ) (more : List ℕ) → spaced_all (ns ++ n ∷ []) ++ more ≡ spaced_all ns ++ (spaced n ++ more)
spaced_all-push [] n more = ap (λ s. s ++ more) (append-nil (spaced n))
spaced_all-push (m ∷ ns) n more =
    append_assoc (spaced m) (spaced_all (ns ++ n ∷ [])) more ∙ ap (λ s. spaced m ++ s) (spaced_all-push ns n more) ∙ sym (append_assoc (spaced m) (spaced_all ns) (spaced n ++ more))

-- a 0 with the space before it
pub zero-spelled : spaced (pos 0) ≡ codes " 0"
zero-spelled = ap (λ s. 32 ∷ s) (decimal_digit 0 (lit< tt))

pub zero-fits : IsNumber (pos 0)
zero-fits = is-number 0 (lit< tt)

-- numbers were read, and what is left of a row of numbers is one
pub record RowSoFar (bytes : List ℕ) (numbers : List ℤ) (rest : List ℕ) : Type 0 where
  pub whole : bytes ≡ spaced_all numbers ++ rest
  pub good : AreNumbers numbers
  pub left : (ns : List ℤ) → AreNumbers ns → bytes ≡ spaced_all ns → (ms : List ℤ) × AreNumbers ms × (rest ≡ spaced_all ms)

pub row-start : (bytes : List ℕ) → RowSoFar bytes [] bytes
row-start bytes = record { whole = refl; good = All-nil _; left = λ ns good e. (ns, good, e) }

row-left : (rest more : List ℕ) (n : ℤ) → IsTaken IsNumber spaced rest n more → (ms : List ℤ) → AreNumbers ms → rest ≡ spaced_all ms → (ks : List ℤ) × AreNumbers ks × (more ≡ spaced_all ks)
row-left rest more n taken [] good e = let h = taken.whole in absurd cc
row-left rest more n taken (m ∷ ms) good e =
    let parts = spaced-split n m more (spaced_all ms) taken.good (All-head IsNumber m ms good) taken.opens (Opens-spaced_all ms) (sym taken.whole ∙ e) in
    (ms, All-tail IsNumber m ms good, parts.1)

pub row-step : (bytes rest more : List ℕ) (numbers : List ℤ) (n : ℤ) → RowSoFar bytes numbers rest → IsTaken IsNumber spaced rest n more → RowSoFar bytes (numbers ++ n ∷ []) more
row-step bytes rest more numbers n so taken = record {
  whole = so.whole ∙ ap (λ r. spaced_all numbers ++ r) taken.whole ∙ sym (spaced_all-push numbers n more);
  good = All-push IsNumber numbers n so.good taken.good;
  left = λ ns good e. let l = so.left ns good e in row-left rest more n taken l.0 l.1 l.2;
}

pub row-end : (bytes : List ℕ) (numbers : List ℤ) (rest : List ℕ) → RowSoFar bytes numbers rest → rest ≡ [] → bytes ≡ spaced_all numbers
row-end bytes numbers rest so e = so.whole ∙ ap (λ r. spaced_all numbers ++ r) e ∙ append-nil (spaced_all numbers)

row-stuck : (rest : List ℕ) → 0 < length rest → NoneTaken IsNumber spaced rest → (ms : List ℤ) → AreNumbers ms → rest ≢ spaced_all ms
row-stuck rest some none [] good e = let h = ap length e in omega (arith, h)
row-stuck rest some none (m ∷ ms) good e = none m (spaced_all ms) (All-head IsNumber m ms good) (Opens-spaced_all ms) e

pub row-none : (bytes : List ℕ) (numbers : List ℤ) (rest : List ℕ) → RowSoFar bytes numbers rest → 0 < length rest → NoneTaken IsNumber spaced rest → (ns : List ℤ) → AreNumbers ns → bytes ≢ spaced_all ns
row-none bytes numbers rest so some none ns good e = let l = so.left ns good e in row-stuck rest some none l.0 l.1 l.2

-- the same of numbers up to a 0
nonzero-nil : AreNonzero []
nonzero-nil = record { numbers = All-nil _; nonzero = All-nil _ }

nonzero-push : (ns : List ℤ) (n : ℤ) → AreNonzero ns → IsNumber n → n ≢ pos 0 → AreNonzero (ns ++ n ∷ [])
nonzero-push ns n good fits apart = record { numbers = All-push IsNumber ns n good.numbers fits; nonzero = All-push (λ k. k ≢ pos 0) ns n good.nonzero apart }

nonzero-head : (n : ℤ) (ns : List ℤ) → AreNonzero (n ∷ ns) → IsNumber n × (n ≢ pos 0)
nonzero-head n ns good = (All-head IsNumber n ns good.numbers, All-head (λ k. k ≢ pos 0) n ns good.nonzero)

nonzero-tail : (n : ℤ) (ns : List ℤ) → AreNonzero (n ∷ ns) → AreNonzero ns
nonzero-tail n ns good = record { numbers = All-tail IsNumber n ns good.numbers; nonzero = All-tail (λ k. k ≢ pos 0) n ns good.nonzero }

ended-nil : (more : List ℕ) → ended [] ++ more ≡ spaced (pos 0) ++ more
ended-nil more = ap (λ s. s ++ more) (sym zero-spelled)

ended-cons : (n : ℤ) (ns : List ℤ) (more : List ℕ) → ended (n ∷ ns) ++ more ≡ spaced n ++ (ended ns ++ more)
ended-cons n ns more = ap (λ s. s ++ more) (append_assoc (spaced n) (spaced_all ns) (codes " 0")) ∙ append_assoc (spaced n) (ended ns) more

Opens-before : (ns : List ℤ) (more : List ℕ) → Opens (ended ns ++ more)
Opens-before [] more = refl
Opens-before (n ∷ ns) more = refl

pub Opens-ended : (ns : List ℤ) → Opens (ended ns)
Opens-ended [] = refl
Opens-ended (n ∷ ns) = refl

pub ended-split : (ms ns : List ℤ) (a b : List ℕ) → AreNonzero ms → AreNonzero ns → Opens a → Opens b → ended ms ++ a ≡ ended ns ++ b → (ms ≡ ns) × (a ≡ b)
ended-split [] [] a b gm gn oa ob e = (refl, cc)
ended-split [] (n ∷ ns) a b gm gn oa ob e =
    let h = nonzero-head n ns gn in
    let parts = spaced-split (pos 0) n a (ended ns ++ b) zero-fits h.0 oa (Opens-before ns b) (sym (ended-nil a) ∙ e ∙ ended-cons n ns b) in
    absurd (h.1 (sym parts.0))
ended-split (m ∷ ms) [] a b gm gn oa ob e =
    let h = nonzero-head m ms gm in
    let parts = spaced-split m (pos 0) (ended ms ++ a) b h.0 zero-fits (Opens-before ms a) ob (sym (ended-cons m ms a) ∙ e ∙ ended-nil b) in
    absurd (h.1 parts.0)
ended-split (m ∷ ms) (n ∷ ns) a b gm gn oa ob e =
    let parts = spaced-split m n (ended ms ++ a) (ended ns ++ b) (nonzero-head m ms gm).0 (nonzero-head n ns gn).0 (Opens-before ms a) (Opens-before ns b) (sym (ended-cons m ms a) ∙ e ∙ ended-cons n ns b) in
    let more = ended-split ms ns a b (nonzero-tail m ms gm) (nonzero-tail n ns gn) oa ob parts.1 in
    let first : m ≡ n = parts.0 in
    let others : ms ≡ ns = more.0 in
    (cc, more.1)

pub record ListSoFar (bytes : List ℕ) (numbers : List ℤ) (rest : List ℕ) : Type 0 where
  pub whole : bytes ≡ spaced_all numbers ++ rest
  pub good : AreNonzero numbers
  pub left : (ns : List ℤ) (more : List ℕ) → AreNonzero ns → Opens more → bytes ≡ ended ns ++ more → (ms : List ℤ) × AreNonzero ms × (rest ≡ ended ms ++ more)

pub list-start : (bytes : List ℕ) → ListSoFar bytes [] bytes
list-start bytes = record { whole = refl; good = nonzero-nil; left = λ ns more good opens e. (ns, good, e) }

list-left : (rest back : List ℕ) (n : ℤ) → IsTaken IsNumber spaced rest n back → n ≢ pos 0 → (ms : List ℤ) (more : List ℕ) → AreNonzero ms → Opens more → rest ≡ ended ms ++ more → (ks : List ℤ) × AreNonzero ks × (back ≡ ended ks ++ more)
list-left rest back n taken apart [] more good opens e =
    let parts = spaced-split n (pos 0) back more taken.good zero-fits taken.opens opens (sym taken.whole ∙ e ∙ ended-nil more) in
    absurd (apart parts.0)
list-left rest back n taken apart (m ∷ ms) more good opens e =
    let parts = spaced-split n m back (ended ms ++ more) taken.good (nonzero-head m ms good).0 taken.opens (Opens-before ms more) (sym taken.whole ∙ e ∙ ended-cons m ms more) in
    (ms, nonzero-tail m ms good, parts.1)

pub list-step : (bytes rest back : List ℕ) (numbers : List ℤ) (n : ℤ) → ListSoFar bytes numbers rest → IsTaken IsNumber spaced rest n back → n ≢ pos 0 → ListSoFar bytes (numbers ++ n ∷ []) back
list-step bytes rest back numbers n so taken apart = record {
  whole = so.whole ∙ ap (λ r. spaced_all numbers ++ r) taken.whole ∙ sym (spaced_all-push numbers n back);
  good = nonzero-push numbers n so.good taken.good apart;
  left = λ ns more good opens e. let l = so.left ns more good opens e in list-left rest back n taken apart l.0 more l.1 opens l.2;
}

pub list-end : (bytes rest back : List ℕ) (numbers : List ℤ) (n : ℤ) → ListSoFar bytes numbers rest → IsTaken IsNumber spaced rest n back → n ≡ pos 0 → IsTaken AreNonzero ended bytes numbers back
list-end bytes rest back numbers n so taken e = record {
  good = so.good;
  opens = taken.opens;
  whole = so.whole ∙ ap (λ r. spaced_all numbers ++ r) (taken.whole ∙ ap (λ k. spaced k ++ back) e ∙ ap (λ s. s ++ back) zero-spelled) ∙ sym (append_assoc (spaced_all numbers) (codes " 0") back);
}

list-stuck : (rest : List ℕ) → NoneTaken IsNumber spaced rest → (ms : List ℤ) (more : List ℕ) → AreNonzero ms → Opens more → rest ≢ ended ms ++ more
list-stuck rest none [] more good opens e = none (pos 0) more zero-fits opens (e ∙ ended-nil more)
list-stuck rest none (m ∷ ms) more good opens e = none m (ended ms ++ more) (nonzero-head m ms good).0 (Opens-before ms more) (e ∙ ended-cons m ms more)

pub list-none : (bytes : List ℕ) (numbers : List ℤ) (rest : List ℕ) → ListSoFar bytes numbers rest → NoneTaken IsNumber spaced rest → NoneTaken AreNonzero ended bytes
list-none bytes numbers rest so none ns more good opens e = let l = so.left ns more good opens e in list-stuck rest none l.0 more l.1 opens l.2

-- literals that rise and hints above 0 are not 0
rises-nonzero : (low : ℕ) (ls : List ℤ) → rises_from low ls ≡ true → All (λ l. l ≢ pos 0) ls
rises-nonzero low [] h = All-nil _
rises-nonzero low (l ∷ ls) h =
    let parts = and_parts (nat_lt low (unsigned_abs l)) (rises_from (unsigned_abs l) ls) h in
    let above : low < unsigned_abs l = ltb-true low (unsigned_abs l) parts.0 in
    let apart : l ≢ pos 0 = λ e. let zero : unsigned_abs l ≡ 0 = ap unsigned_abs e in omega arith in
    All-cons (λ k. k ≢ pos 0) l ls apart (rises-nonzero (unsigned_abs l) ls parts.1)

positive-nonzero : (ns : List ℤ) → all_positive ns ≡ true → All (λ n. n ≢ pos 0) ns
positive-nonzero [] h = All-nil _
positive-nonzero (n ∷ ns) h =
    let parts = and_parts (int_lt (pos 0) n) (all_positive ns) h in
    let apart : n ≢ pos 0 = λ e. false≢true (sym (ap (λ k. int_lt (pos 0) k) e) ∙ parts.0) in
    All-cons (λ k. k ≢ pos 0) n ns apart (positive-nonzero ns parts.1)

pub literals-nonzero : (ls : List ℤ) → AreNumbers ls → rises_from 0 ls ≡ true → AreNonzero ls
literals-nonzero ls good h = record { numbers = good; nonzero = rises-nonzero 0 ls h }

pub hints-nonzero : (hs : List ℤ) → AreNumbers hs → all_positive hs ≡ true → AreNonzero hs
hints-nonzero hs good h = record { numbers = good; nonzero = positive-nonzero hs h }

-- and so are numbers that rise from above 0
lt_above : (x y : ℤ) → int_lt x y ≡ true → x <ℤ y
lt_above x y h = grind (arith, ints)

above-nonzero : (low : ℤ) (ns : List ℤ) → pos 0 ≤ℤ low → rises_above low ns ≡ true → All (λ n. n ≢ pos 0) ns
above-nonzero low [] from h = All-nil _
above-nonzero low (n ∷ ns) from h =
    let parts = and_parts (int_lt low n) (rises_above n ns) h in
    let above : low <ℤ n = lt_above low n parts.0 in
    All-cons (λ k. k ≢ pos 0) n ns (λ e. omega (arith, ints)) (above-nonzero n ns (omega (arith, ints)) parts.1)

pub ids-nonzero : (ns : List ℤ) → AreNumbers ns → are_ids ns ≡ true → AreNonzero ns
ids-nonzero [] good h = absurd (false≢true h)
ids-nonzero (n ∷ ns) good h = record { numbers = good; nonzero = above-nonzero (pos 0) (n ∷ ns) (omega (arith, ints)) h }

-- the test whether a number is 0
pub zero-from : (n : ℤ) → IsNumber n → of_z w128 n ≡ 0 → n ≡ pos 0
zero-from (pos n) fits e = ap pos e
zero-from (negsuc n) fits e = let from = number-from n fits in absurd (omega arith)
