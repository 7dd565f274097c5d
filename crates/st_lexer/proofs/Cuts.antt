-- A text starts with one part, and so is cut in one way.
use Rattle.std.proofs.Common.{◌≡◌, ℕ, zero, suc, ◌+◌, ◌<◌, ◌≤◌, List, [], ◌∷◌, ◌++◌, length, length-append, drop, true, false, Option, Some, None, refl, sym, ap, ◌∙◌, subst, arith}
use Rattle.source_tree.specs.declared.token.TokenClass.TheVariants.{Word, Number, Sign}
use Rattle.source_tree.specs.Tokens.{Piece, gap, token, slice_of, is_formed}
use Rattle.st_lexer.specs.declared.front.Front.{Front}
use Rattle.st_lexer.specs.Fronts.{front_of, size_of}
use Rattle.st_lexer.specs.Parts.{Part, proper, stray, unclosed, bytes_of, opens_block, Starts, IsCut}
use Rattle.st_lexer.proofs.FrontLemmas.{piece_at}
use Rattle.st_lexer.proofs.Beginnings.{begins, begins_once, no_front}
use Rattle.st_lexer.proofs.Sizes.{IsSized, sized_front}

-- a text starts with one part
pub starts_once : (text : List ℕ) (p q : Part) (r s : List ℕ) → Starts text p r → Starts text q s → (p ≡ q) × (r ≡ s)
starts_once text (proper p) (proper q) r s h k = let same = begins_once text p q r s h k in (ap proper same.0, same.1)
starts_once text (proper p) (stray c) r s h k = absurd (k.2 p r h)
starts_once text (proper p) (unclosed y) r s h k = absurd (k.3 p r h)
starts_once text (stray b) (proper q) r s h k = absurd (h.2 q s k)
starts_once text (stray b) (stray c) r s h k =
    let e : b ∷ r ≡ c ∷ s = sym h.0 ∙ k.0 in
    let first : b ≡ c = cc in
    (ap stray first, cc)
starts_once text (stray b) (unclosed y) r s h k = absurd (let e : false ≡ true = sym h.1 ∙ k.2 in cc)
starts_once text (unclosed x) (proper q) r s h k = absurd (h.3 q s k)
starts_once text (unclosed x) (stray c) r s h k = absurd (let e : false ≡ true = sym k.1 ∙ h.2 in cc)
starts_once text (unclosed x) (unclosed y) r s h k = (ap unclosed (sym h.0 ∙ k.0), h.1 ∙ sym k.1)

formed_some : (p : Piece) → is_formed p ≡ true → 0 < length (slice_of p)
formed_some (gap []) h = absurd cc
formed_some (gap (b ∷ bs)) h = omega arith
formed_some (token Word []) h = absurd cc
formed_some (token Number []) h = absurd cc
formed_some (token Sign []) h = absurd cc
formed_some (token Word (b ∷ bs)) h = omega arith
formed_some (token Number (b ∷ bs)) h = omega arith
formed_some (token Sign (b ∷ bs)) h = omega arith

opened : (text : List ℕ) → opens_block text ≡ true → 0 < length text
opened [] h = absurd cc
opened (b ∷ bs) h = omega arith

-- a part has some bytes
pub part_some : (text : List ℕ) (p : Part) (r : List ℕ) → Starts text p r → 0 < length (bytes_of p)
part_some text (proper p) r h = formed_some p h.formed
part_some text (stray b) r h = omega arith
part_some text (unclosed x) r h = subst (λ s. 0 < length s) h.0 (opened text h.2)

length_joined : (text x r : List ℕ) → text ≡ x ++ r → length text ≡ length x + length r
length_joined text x r e = ap length e ∙ length-append x r

part_within : (text : List ℕ) (p : Part) (r : List ℕ) → Starts text p r → length text ≡ length (bytes_of p) + length r
part_within text (proper p) r h = length_joined text (slice_of p) r h.joined
part_within text (stray b) r h = let e = ap length h.0 in omega arith
part_within text (unclosed x) r h = let e = ap length h.0 in let z : length r ≡ 0 = ap length h.1 in omega arith

-- no part stands at the front of nothing
pub no_part : (text : List ℕ) (p : Part) (r : List ℕ) → Starts text p r → length text ≡ 0 → ⊥
no_part text p r h z = omega (arith, part_within text p r h, part_some text p r h)

-- what a text starts with
record Start (text : List ℕ) : Type 0 where
  part : Part
  rest : List ℕ
  starts : Starts text part rest

stuck_start : (b : ℕ) (bs : List ℕ) → front_of (b ∷ bs) ≡ None → Start (b ∷ bs)
stuck_start b bs f =
    elim (opens_block (b ∷ bs)) as (λ x. opens_block (b ∷ bs) ≡ x → Start (b ∷ bs)) [
      | true ↦ λ e. record { part = unclosed (b ∷ bs); rest = []; starts = (refl, refl, e, λ p r h. no_front (b ∷ bs) p r f h) }
      | false ↦ λ e. record { part = stray b; rest = bs; starts = (refl, e, λ p r h. no_front (b ∷ bs) p r f h) }
    ] refl

start_at : (b : ℕ) (bs : List ℕ) (o : Option Front) → front_of (b ∷ bs) ≡ o → Start (b ∷ bs)
start_at b bs None f = stuck_start b bs f
start_at b bs (Some front) f =
    let size = subst (IsSized (b ∷ bs)) f (sized_front (b ∷ bs)) in
    record { part = proper (piece_at front (b ∷ bs)); rest = drop (size_of front) (b ∷ bs); starts = begins (b ∷ bs) front (record { front = f; some = size.0; within = size.1 }) }

-- every text is cut
cut_within : (n : ℕ) (text : List ℕ) → length text ≤ n → (parts : List Part) × IsCut text parts
cut_within n [] h = ([], refl)
cut_within zero (b ∷ bs) h = absurd (omega arith)
cut_within (suc n) (b ∷ bs) h =
    let s = start_at b bs (front_of (b ∷ bs)) refl in
    let size = part_within (b ∷ bs) s.part s.rest s.starts in
    let some = part_some (b ∷ bs) s.part s.rest s.starts in
    let more = cut_within n s.rest (omega (arith, size, some)) in
    (s.part ∷ more.0, (s.rest, s.starts, more.1))

pub cut_of : (text : List ℕ) → (parts : List Part) × IsCut text parts
cut_of text = cut_within (length text) text (omega arith)

-- and in one way
pub cut_once : (text : List ℕ) (ps qs : List Part) → IsCut text ps → IsCut text qs → ps ≡ qs
cut_once text [] [] h k = refl
cut_once text [] (q ∷ qs) h (s, c, k) = absurd (no_part text q s c (ap length h))
cut_once text (p ∷ ps) [] (r, b, h) k = absurd (no_part text p r b (ap length k))
cut_once text (p ∷ ps) (q ∷ qs) (r, b, h) (s, c, k) =
    let same = starts_once text p q r s b c in
    let rest : ps ≡ qs = cut_once r ps qs h (subst (λ t. IsCut t qs) (sym same.1) k) in
    let first : p ≡ q = same.0 in
    cc
