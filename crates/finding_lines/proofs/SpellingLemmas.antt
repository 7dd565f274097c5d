-- A number's spelling holds no space, and what stands in front of a line is determined.
use Rattle.std.proofs.Common.{◌≡◌, ◌≢◌, ℕ, suc, ◌<◌, ◌^◌, ℤ, pos, negsuc, List, [], ◌∷◌, ◌++◌, get_or, refl, ap, sym, ◌∙◌, subst, arith}
use Rattle.std.specs.Fmt.{decimal, signed_decimal}
use Rattle.std.specs.Str.Parse.{AllDigits}
use Rattle.std.proofs.lemmas.List.{append-nil}
use Rattle.std.proofs.lemmas.List.Elements.{All-nil, All-cons, All-head, All-tail}
use Rattle.std.proofs.lemmas.Str.Parse.{digit_from_value}
use Rattle.std.proofs.lemmas.Fmt.{decimal_is_IsNumeral}
use Rattle.finding_lines.specs.declared.line.Asked.{Asked}
use Rattle.finding_lines.specs.declared.line.Asked.TheVariants as questions
use Rattle.finding_lines.specs.Numbers.{IsNumber}
use Rattle.finding_lines.specs.Form.{AskedFits}
use Rattle.finding_lines.specs.Spelling.{spaced, spaced_all, asked}
use Rattle.finding_lines.specs.Reading.{LacksSpace, Opens, IsLabel}
use Rattle.finding_lines.proofs.NumberLemmas.{number-below, number-from, number-spelling}

digits-lack_space : (ds : List ℕ) → AllDigits 10 ds → LacksSpace ds
digits-lack_space [] h = All-nil _
digits-lack_space (d ∷ ds) h =
    let at = digit_from_value d h.0 in
    All-cons (λ b. b ≢ 32) d ds (λ e. omega (arith, at, e)) (digits-lack_space ds h.1)

pub decimal-lacks_space : (n : ℕ) → n < 2 ^ 64 → LacksSpace (decimal n)
decimal-lacks_space n h = digits-lack_space (decimal n) (decimal_is_IsNumeral n h).0.1

pub number-lacks_space : (n : ℤ) → IsNumber n → LacksSpace (signed_decimal n)
number-lacks_space (pos n) h = decimal-lacks_space n (number-below n h)
number-lacks_space (negsuc n) h =
    let from = number-from n h in
    All-cons (λ b. b ≢ 32) 45 (decimal (suc n)) (λ e. omega (arith, e)) (decimal-lacks_space (suc n) (omega arith))

-- what stands before the first space is determined
pub word-split : (a b c d : List ℕ) → LacksSpace a → LacksSpace c → Opens b → Opens d → a ++ b ≡ c ++ d → (a ≡ c) × (b ≡ d)
word-split [] b [] d la lc ob od e = (refl, e)
word-split [] b (y ∷ c) d la lc ob od e = absurd (All-head (λ x. x ≢ 32) y c lc (subst Opens e ob))
word-split (x ∷ a) b [] d la lc ob od e = absurd (All-head (λ x. x ≢ 32) x a la (subst Opens (sym e) od))
word-split (x ∷ a) b (y ∷ c) d la lc ob od e =
    let heads : x ≡ y = cc in
    let tails : a ++ b ≡ c ++ d = cc in
    let more = word-split a b c d (All-tail (λ x. x ≢ 32) x a la) (All-tail (λ x. x ≢ 32) y c lc) ob od tails in
    let first : a ≡ c = more.0 in
    (cc, more.1)

-- a number before a space or the end, and what follows it
pub spaced-split : (m n : ℤ) (a b : List ℕ) → IsNumber m → IsNumber n → Opens a → Opens b → spaced m ++ a ≡ spaced n ++ b → (m ≡ n) × (a ≡ b)
spaced-split m n a b fm fn oa ob e =
    let tails : signed_decimal m ++ a ≡ signed_decimal n ++ b = cc in
    let parts = word-split (signed_decimal m) a (signed_decimal n) b (number-lacks_space m fm) (number-lacks_space n fn) oa ob tails in
    (number-spelling m n fm fn parts.0, parts.1)

-- a number where nothing follows
pub spaced-alone : (m n : ℤ) (a : List ℕ) → IsNumber m → IsNumber n → Opens a → spaced m ++ a ≡ spaced n → (m ≡ n) × (a ≡ [])
spaced-alone m n a fm fn oa e = spaced-split m n a [] fm fn oa tt (e ∙ sym (append-nil (spaced n)))

-- a label, and what follows it, begin with a space
pub Opens-label : (l more : List ℕ) → IsLabel l → Opens (l ++ more)
Opens-label [] more h = absurd h
Opens-label (b ∷ l) more h = h

pub Opens-spaced_all : (ns : List ℤ) → Opens (spaced_all ns)
Opens-spaced_all [] = tt
Opens-spaced_all (n ∷ ns) = refl

-- a query before a space or the end, and what follows it
pub asked-split : (p q : Asked) (a b : List ℕ) → AskedFits p → AskedFits q → Opens a → Opens b → asked p ++ a ≡ asked q ++ b → (p ≡ q) × (a ≡ b)
asked-split questions.First questions.First a b fp fq oa ob e = (refl, cc)
asked-split questions.Step questions.Step a b fp fq oa ob e = (refl, cc)
asked-split questions.Goal questions.Goal a b fp fq oa ob e = (refl, cc)
asked-split (questions.Deep m) (questions.Deep n) a b fp fq oa ob e =
    let tails : spaced m ++ a ≡ spaced n ++ b = cc in
    let parts = spaced-split m n a b fp fq oa ob tails in
    (ap questions.Deep parts.0, parts.1)
asked-split (questions.Walk m) (questions.Walk n) a b fp fq oa ob e =
    let tails : spaced m ++ a ≡ spaced n ++ b = cc in
    let parts = spaced-split m n a b fp fq oa ob tails in
    (ap questions.Walk parts.0, parts.1)
asked-split p q a b fp fq oa ob e = let letters = ap (λ (s : List ℕ). get_or s 1 0) e in absurd (omega (arith, letters))

pub asked-alone : (p q : Asked) (a : List ℕ) → AskedFits p → AskedFits q → Opens a → asked p ++ a ≡ asked q → (p ≡ q) × (a ≡ [])
asked-alone p q a fp fq oa e = asked-split p q a [] fp fq oa tt (e ∙ sym (append-nil (asked q)))
