-- Literals and words of a circuit: what stays one of a later circuit, and what is made without gates.
use Rattle.std.proofs.Common.{◌≡◌, ℕ, zero, suc, ◌+◌, ◌-◌, ◌<◌, ◌≤◌, ◌%◌, Bool, true, false, refl, ap, List, [], ◌∷◌, ◌++◌, length, take, drop, reverse, replicate, ℤ, pos, arith, length-append}
use Rattle.std.specs.Prelude.{nat_lt, min, if◌then◌else◌}
use Rattle.std.specs.Int.{int_div_euclid}
use Rattle.std.proofs.lemmas.Bool.{and_parts, and_from, ltb-true, lt-ltb}
use Rattle.std.proofs.lemmas.List.Elements.{All-nil, All-cons, All-head, All-tail, All-append, All-take, All-drop, All-replicate, All-map, All-weaker}
use Rattle.std.proofs.lemmas.List.Sorted.{All-permutation, IsPermutation-reverse}
use Rattle.clause_core.specs.declared.literal.Lit.{Lit}
use Rattle.clause_core.specs.Values.{negation}
use Rattle.gates.specs.Literals.{true_lit, false_lit}
use Rattle.gates.specs.Netlists.{Netlist, IsExtensionOf}
use Rattle.gates.specs.Order.{lit_below, end_of, IsOrdered, IsLiteralOf}
use Rattle.word_circuits.specs.Words.{zeros, is_odd, low_bit, constant_of, not_word, top_of}
use Rattle.word_circuits.specs.Shifts.{shl_of, shr_of, rol_of, ror_of}
use Rattle.word_circuits.specs.Conversions.{filler, resized}
use Rattle.word_circuits.specs.Comparisons.{flip_top, biased}
use Rattle.word_orders.specs.Orders.{IsWordOf}

lit_below-more : (x y : ℕ) (l : Lit) → x ≤ y → lit_below x l ≡ true → lit_below y l ≡ true
lit_below-more x y l le h =
    let (above, below) = and_parts (nat_lt 0 l.variable) (nat_lt l.variable x) h in
    let before : l.variable < x = ltb-true l.variable x below in
    and_from (nat_lt 0 l.variable) (nat_lt l.variable y) above (lt-ltb l.variable y (omega arith))

pub IsLiteralOf-later : (n later : Netlist) (l : Lit) → IsExtensionOf n later → IsLiteralOf n l → IsLiteralOf later l
IsLiteralOf-later n later l e h =
    record { below = lit_below-more (end_of n) (end_of later) l (omega (arith, e.first, ap length e.gates, length-append n.gates e.more)) h.below }

pub IsLiteralOf-negation : (n : Netlist) (l : Lit) → IsLiteralOf n l → IsLiteralOf n (negation l)
IsLiteralOf-negation n l h = record { below = h.below }

pub IsOrdered-empty : (free limit : ℕ) → IsOrdered (record { first = free + 2; limit = limit; gates = [] })
IsOrdered-empty free limit = record { one = omega arith; ordered = refl }

pub IsLiteralOf-variable : (n : Netlist) (x : ℕ) (negative : Bool) → 0 < x → x < end_of n → IsLiteralOf n (record { variable = x; negative = negative })
IsLiteralOf-variable n x negative above below = record { below = and_from (nat_lt 0 x) (nat_lt x (end_of n)) (lt-ltb 0 x above) (lt-ltb x (end_of n) below) }

one_below : (x : ℕ) (s : Bool) → 1 < x → lit_below x (record { variable = 1; negative = s }) ≡ true
one_below x s h = lt-ltb 1 x h

pub IsLiteralOf-true : (n : Netlist) → IsOrdered n → IsLiteralOf n true_lit
IsLiteralOf-true n h = record { below = one_below (end_of n) false (omega (arith, h.one)) }

pub IsLiteralOf-false : (n : Netlist) → IsOrdered n → IsLiteralOf n false_lit
IsLiteralOf-false n h = record { below = one_below (end_of n) true (omega (arith, h.one)) }

pub IsWordOf-later : (n later : Netlist) (w : List Lit) → IsExtensionOf n later → IsWordOf n w → IsWordOf later w
IsWordOf-later n later w e h = record { literals = All-weaker (IsLiteralOf n) (IsLiteralOf later) (λ l k. IsLiteralOf-later n later l e k) w h.literals }

pub IsWordOf-nil : (n : Netlist) → IsWordOf n []
IsWordOf-nil n = record { literals = All-nil (IsLiteralOf n) }

pub IsWordOf-cons : (n : Netlist) (l : Lit) (w : List Lit) → IsLiteralOf n l → IsWordOf n w → IsWordOf n (l ∷ w)
IsWordOf-cons n l w h k = record { literals = All-cons (IsLiteralOf n) l w h k.literals }

pub IsLiteralOf-head : (n : Netlist) (l : Lit) (w : List Lit) → IsWordOf n (l ∷ w) → IsLiteralOf n l
IsLiteralOf-head n l w h = All-head (IsLiteralOf n) l w h.literals

pub IsWordOf-tail : (n : Netlist) (l : Lit) (w : List Lit) → IsWordOf n (l ∷ w) → IsWordOf n w
IsWordOf-tail n l w h = record { literals = All-tail (IsLiteralOf n) l w h.literals }

pub IsWordOf-append : (n : Netlist) (a b : List Lit) → IsWordOf n a → IsWordOf n b → IsWordOf n (a ++ b)
IsWordOf-append n a b h k = record { literals = All-append (IsLiteralOf n) a b h.literals k.literals }

pub IsWordOf-push : (n : Netlist) (a : List Lit) (l : Lit) → IsWordOf n a → IsLiteralOf n l → IsWordOf n (a ++ l ∷ [])
IsWordOf-push n a l h k = IsWordOf-append n a (l ∷ []) h (IsWordOf-cons n l [] k (IsWordOf-nil n))

pub IsWordOf-take : (n : Netlist) (k : ℕ) (a : List Lit) → IsWordOf n a → IsWordOf n (take k a)
IsWordOf-take n k a h = record { literals = All-take (IsLiteralOf n) k a h.literals }

pub IsWordOf-drop : (n : Netlist) (k : ℕ) (a : List Lit) → IsWordOf n a → IsWordOf n (drop k a)
IsWordOf-drop n k a h = record { literals = All-drop (IsLiteralOf n) k a h.literals }

pub IsWordOf-replicate : (n : Netlist) (k : ℕ) (l : Lit) → IsLiteralOf n l → IsWordOf n (replicate k l)
IsWordOf-replicate n k l h = record { literals = All-replicate (IsLiteralOf n) k l h }

pub IsWordOf-reverse : (n : Netlist) (a : List Lit) → IsWordOf n a → IsWordOf n (reverse a)
IsWordOf-reverse n a h = record { literals = All-permutation (IsLiteralOf n) a (reverse a) (IsPermutation-reverse a) h.literals }

pub IsWordOf-zeros : (n : Netlist) (width : ℕ) → IsOrdered n → IsWordOf n (zeros width)
IsWordOf-zeros n width h = IsWordOf-replicate n width false_lit (IsLiteralOf-false n h)

IsLiteralOf-bit : (n : Netlist) (odd : Bool) → IsOrdered n → IsLiteralOf n (if odd then true_lit else false_lit)
IsLiteralOf-bit n true h = IsLiteralOf-true n h
IsLiteralOf-bit n false h = IsLiteralOf-false n h

pub IsWordOf-constant : (n : Netlist) (width : ℕ) (x : ℤ) → IsOrdered n → IsWordOf n (constant_of width x)
IsWordOf-constant n zero x h = IsWordOf-nil n
IsWordOf-constant n (suc width) x h =
    IsWordOf-cons n (low_bit x) (constant_of width (int_div_euclid x (pos 2))) (IsLiteralOf-bit n (is_odd x) h) (IsWordOf-constant n width (int_div_euclid x (pos 2)) h)

pub IsWordOf-not : (n : Netlist) (a : List Lit) → IsWordOf n a → IsWordOf n (not_word a)
IsWordOf-not n a h = record { literals = All-map (IsLiteralOf n) negation a (All-weaker (IsLiteralOf n) (λ l. IsLiteralOf n (negation l)) (IsLiteralOf-negation n) a h.literals) }

pub IsLiteralOf-top : (n : Netlist) (a : List Lit) → IsOrdered n → IsWordOf n a → IsLiteralOf n (top_of a)
IsLiteralOf-top n [] h k = IsLiteralOf-false n h
IsLiteralOf-top n (l ∷ []) h k = IsLiteralOf-head n l [] k
IsLiteralOf-top n (l ∷ m ∷ ls) h k = IsLiteralOf-top n (m ∷ ls) h (IsWordOf-tail n l (m ∷ ls) k)

IsWordOf-flip_top : (n : Netlist) (a : List Lit) → IsWordOf n a → IsWordOf n (flip_top a)
IsWordOf-flip_top n [] h = h
IsWordOf-flip_top n (l ∷ []) h = IsWordOf-cons n (negation l) [] (IsLiteralOf-negation n l (IsLiteralOf-head n l [] h)) (IsWordOf-nil n)
IsWordOf-flip_top n (l ∷ m ∷ ls) h = IsWordOf-cons n l (flip_top (m ∷ ls)) (IsLiteralOf-head n l (m ∷ ls) h) (IsWordOf-flip_top n (m ∷ ls) (IsWordOf-tail n l (m ∷ ls) h))

pub IsWordOf-biased : (n : Netlist) (s : Bool) (a : List Lit) → IsWordOf n a → IsWordOf n (biased s a)
IsWordOf-biased n true a h = IsWordOf-flip_top n a h
IsWordOf-biased n false a h = h

pub IsWordOf-shl : (n : Netlist) (k : ℕ) (a : List Lit) → IsOrdered n → IsWordOf n a → IsWordOf n (shl_of k a)
IsWordOf-shl n k a h w =
    let gone = min k (length a) in
    IsWordOf-append n (zeros gone) (take (length a - gone) a) (IsWordOf-zeros n gone h) (IsWordOf-take n (length a - gone) a w)

pub IsWordOf-shr : (n : Netlist) (k : ℕ) (a : List Lit) → IsOrdered n → IsWordOf n a → IsWordOf n (shr_of k a)
IsWordOf-shr n k a h w =
    let gone = min k (length a) in
    IsWordOf-append n (drop gone a) (zeros gone) (IsWordOf-drop n gone a w) (IsWordOf-zeros n gone h)

pub IsWordOf-rol : (n : Netlist) (k : ℕ) (a : List Lit) → IsWordOf n a → IsWordOf n (rol_of k a)
IsWordOf-rol n k a w =
    let low = length a - k % length a in
    IsWordOf-append n (drop low a) (take low a) (IsWordOf-drop n low a w) (IsWordOf-take n low a w)

pub IsWordOf-ror : (n : Netlist) (k : ℕ) (a : List Lit) → IsWordOf n a → IsWordOf n (ror_of k a)
IsWordOf-ror n k a w =
    let gone = k % length a in
    IsWordOf-append n (drop gone a) (take gone a) (IsWordOf-drop n gone a w) (IsWordOf-take n gone a w)

IsLiteralOf-filler : (n : Netlist) (s : Bool) (a : List Lit) → IsOrdered n → IsWordOf n a → IsLiteralOf n (filler s a)
IsLiteralOf-filler n true a h w = IsLiteralOf-top n a h w
IsLiteralOf-filler n false a h w = IsLiteralOf-false n h

pub IsWordOf-resized : (n : Netlist) (s : Bool) (width : ℕ) (a : List Lit) → IsOrdered n → IsWordOf n a → IsWordOf n (resized s width a)
IsWordOf-resized n s width a h w =
    let kept = min width (length a) in
    IsWordOf-append n (take kept a) (replicate (width - kept) (filler s a)) (IsWordOf-take n kept a w) (IsWordOf-replicate n (width - kept) (filler s a) (IsLiteralOf-filler n s a h w))
