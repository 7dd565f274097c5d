-- What stands ahead of bytes whose first line feed is known.
use Rattle.std.proofs.Common.{◌≡◌, ◌≢◌, ℕ, ◌+◌, ◌<◌, List, [], ◌∷◌, ◌++◌, length, take, drop, eqb, true, false, cond, refl, ap, sym, ◌∙◌, subst, ⊎_elim, arith}
use Rattle.std.proofs.lemmas.List.{take-append-drop, drop_more}
use Rattle.std.proofs.lemmas.List.Elements.{All-head, All-tail}
use Rattle.std.proofs.lemmas.Bool.Decides.{eqb_tells}
use Rattle.finding_file.specs.Ahead.{Ahead, nothing, ended, unended, with_byte, ahead, size}
use Rattle.finding_lines.specs.Reading.{LacksFeed}
use Rattle.finding_file.specs.Searching.{IsFirstFeed}

-- a byte that is no line feed, in front
pub ahead-byte : (b : ℕ) (bs : List ℕ) → b ≢ 10 → ahead (b ∷ bs) ≡ with_byte b (ahead bs)
ahead-byte b bs apart =
    ⊎_elim
    (λ (t : (eqb b 10 ≡ true) × (b ≡ 10)). absurd (apart t.1))
    (λ (f : (eqb b 10 ≡ false) × (b ≢ 10)). ap (λ t. cond t (ended [] bs) (with_byte b (ahead bs))) f.0)
    (eqb_tells b 10)

pub ahead-ended : (text rest : List ℕ) → LacksFeed text → ahead (text ++ 10 ∷ rest) ≡ ended text rest
ahead-ended [] rest lacks = refl
ahead-ended (b ∷ text) rest lacks =
    ahead-byte b (text ++ 10 ∷ rest) (All-head (λ k. k ≢ 10) b text lacks) ∙ ap (with_byte b) (ahead-ended text rest (All-tail (λ k. k ≢ 10) b text lacks))

pub ahead-unended : (b : ℕ) (bs : List ℕ) → LacksFeed (b ∷ bs) → ahead (b ∷ bs) ≡ unended (b ∷ bs)
ahead-unended b [] lacks = ahead-byte b [] (All-head (λ k. k ≢ 10) b [] lacks)
ahead-unended b (c ∷ cs) lacks =
    ahead-byte b (c ∷ cs) (All-head (λ k. k ≢ 10) b (c ∷ cs) lacks) ∙ ap (with_byte b) (ahead-unended c cs (All-tail (λ k. k ≢ 10) b (c ∷ cs) lacks))

pub ahead-some : (bs : List ℕ) → LacksFeed bs → 0 < length bs → ahead bs ≡ unended bs
ahead-some [] lacks some = absurd (omega arith)
ahead-some (b ∷ bs) lacks some = ahead-unended b bs lacks

size-with_byte : (b : ℕ) (a : Ahead) → size a < size (with_byte b a)
size-with_byte b nothing = omega arith
size-with_byte b (ended text rest) = omega arith
size-with_byte b (unended text) = omega arith

size-some : (bs : List ℕ) → 0 < length bs → 0 < size (ahead bs)
size-some [] some = absurd (omega arith)
size-some (b ∷ bs) some =
    ⊎_elim
    (λ (t : (eqb b 10 ≡ true) × (b ≡ 10)). subst (λ (a : Ahead). 0 < size a) (sym (ap (λ t. cond t (ended [] bs) (with_byte b (ahead bs))) t.0)) (omega arith))
    (λ (f : (eqb b 10 ≡ false) × (b ≢ 10)). subst (λ (a : Ahead). 0 < size a) (sym (ap (λ t. cond t (ended [] bs) (with_byte b (ahead bs))) f.0)) (let h = size-with_byte b (ahead bs) in omega arith))
    (eqb_tells b 10)

-- behind bytes without a line feed more follows: the line is longer than they are
pub size-beyond : (xs ys : List ℕ) → LacksFeed xs → 0 < length ys → length xs < size (ahead (xs ++ ys))
size-beyond [] ys lacks some = size-some ys some
size-beyond (x ∷ xs) ys lacks some =
    let shorter = size-beyond xs ys (All-tail (λ k. k ≢ 10) x xs lacks) some in
    let longer = size-with_byte x (ahead (xs ++ ys)) in
    let is = ap size (ahead-byte x (xs ++ ys) (All-head (λ k. k ≢ 10) x xs lacks)) in
    omega (arith, shorter, longer, is)

-- bytes that begin with a line
pub feed-split : (bytes : List ℕ) (place : ℕ) → IsFirstFeed bytes place → bytes ≡ take place bytes ++ 10 ∷ drop (place + 1) bytes
feed-split bytes place first =
    let within = first.inside in
    let at = drop_more bytes place 0 within in
    sym (take-append-drop place bytes) ∙ ap (λ r. take place bytes ++ r) (at ∙ ap (λ b. b ∷ drop (place + 1) bytes) first.feed)
