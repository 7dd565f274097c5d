-- A text begins with the piece that stands at its front, and with no other.
use Rattle.std.proofs.Common.{◌≡◌, ℕ, ◌+◌, ◌<◌, ◌≤◌, List, [], ◌∷◌, ◌++◌, length, take, drop, Bool, true, false, ◌||◌, Option, Some, None, option_map, cond, refl, sym, ap, ◌∙◌, subst, arith}
use Rattle.std.specs.Prelude.{slice_index, IfSome}
use Rattle.std.specs.List.{prefix_len}
use Rattle.std.proofs.lemmas.List.{take-append-drop, length-take-le}
use Rattle.std.proofs.Math.Seq.{take-append_seam, drop-append_seam}
use Rattle.source_tree.specs.declared.token.TokenClass.TheVariants.{Word, Number, Sign}
use Rattle.source_tree.specs.Tokens.{Piece, gap, token, slice_of, is_formed, is_gap_piece, opens_comment, is_block_opening, is_line_opening, is_in_line, Begins}
use Rattle.st_lexer.specs.declared.front.Front.{Front}
use Rattle.st_lexer.specs.declared.front.Front.TheVariants.{Gap, Token}
use Rattle.st_lexer.specs.Fronts.{front_of, plain_front, closed_len, size_of}
use Rattle.st_lexer.proofs.FrontLemmas.{front_like, Covers, covers, covers_gap, covers_word, covers_number, two_sign, piece_at, formed_front}

-- what the code's front says of its size
pub record IsFront (text : List ℕ) (f : Front) : Type 0 where
  pub front : front_of text ≡ Some f
  pub some : 0 < size_of f
  pub within : size_of f ≤ length text

pub slice_at : (f : Front) (text : List ℕ) → slice_of (piece_at f text) ≡ take (size_of f) text
slice_at (Gap n) text = refl
slice_at (Token class n) text = refl

gap_chosen : (text : List ℕ) (x y : Bool) (o : Option ℕ) (n : ℕ) (u : Option Front) → x || y ≡ true
    → IfSome (cond x (option_map (λ n. Gap (n + 2)) o) (cond y (Some (Gap n)) u)) (λ f. is_gap_piece (piece_at f text) ≡ true)
gap_chosen text true y None n u h = tt
gap_chosen text true y (Some m) n u h = refl
gap_chosen text false true o n u h = refl
gap_chosen text false false o n u h = absurd cc

gap_front : (text : List ℕ) → opens_comment text ≡ true → IfSome (front_of text) (λ f. is_gap_piece (piece_at f text) ≡ true)
gap_front [] h = tt
gap_front (b ∷ bs) h = gap_chosen (b ∷ bs) (is_block_opening b (slice_index bs 0)) (is_line_opening b (slice_index bs 0)) (closed_len (drop 1 bs)) (prefix_len is_in_line bs + 1) (plain_front b bs) h

size_like : (p : Piece) (n : ℕ) → size_of (front_like p n) ≡ n
size_like (gap s) n = refl
size_like (token class s) n = refl

-- no piece at the front is longer
covered : (text : List ℕ) (f : Front) (other : Piece) → IsFront text f → Covers text other → length (slice_of other) ≤ size_of f
covered text f other h c =
    let same : Some (front_like other c.size) ≡ Some f = sym c.front ∙ h.front in
    let front : front_like other c.size ≡ f = cc in
    let size : size_of (front_like other c.size) ≡ size_of f = ap size_of front in
    omega (arith, size_like other c.size, c.within)

longest : (other : Piece) (behind : List ℕ) (f : Front) → IsFront (slice_of other ++ behind) f → is_formed other ≡ true → length (slice_of other) ≤ size_of f
longest (gap s) behind f h k = covered (s ++ behind) f (gap s) h (covers_gap s behind k)
longest (token Word s) behind f h k = covered (s ++ behind) f (token Word s) h (covers_word s behind k)
longest (token Number s) behind f h k = covered (s ++ behind) f (token Number s) h (covers_number s behind k)
longest (token Sign []) behind f h k = omega arith
longest (token Sign (b ∷ [])) behind f h k = omega (arith, h.some)
longest (token Sign (b ∷ c ∷ [])) behind f h k = covered (b ∷ c ∷ behind) f (token Sign (b ∷ c ∷ [])) h (two_sign b c behind k)
longest (token Sign (b ∷ c ∷ d ∷ bs)) behind f h k = absurd cc

at_some : (P : Front → Type 0) (o : Option Front) (f : Front) → o ≡ Some f → IfSome o P → P f
at_some P o f e h = subst (λ o. IfSome o P) e h

pub begins : (text : List ℕ) (f : Front) → IsFront text f → Begins text (piece_at f text) (drop (size_of f) text)
begins text f h =
    let size : length (slice_of (piece_at f text)) ≡ size_of f = ap length (slice_at f text) ∙ length-take-le (size_of f) text h.within in
    record {
      joined = sym (take-append-drop (size_of f) text) ∙ ap (λ s. s ++ drop (size_of f) text) (sym (slice_at f text));
      formed = at_some (λ f. is_formed (piece_at f text) ≡ true) (front_of text) f h.front (formed_front text);
      longest = λ other behind e k. let l : length (slice_of other) ≤ size_of f = longest other behind f (subst (λ t. IsFront t f) e h) k in omega (arith, l, size);
      comment = λ o. at_some (λ f. is_gap_piece (piece_at f text) ≡ true) (front_of text) f h.front (gap_front text o);
    }

pub covered_by : (text : List ℕ) (p : Piece) (rest : List ℕ) → Begins text p rest → Covers text p
covered_by text p rest b =
    let comment : opens_comment (slice_of p ++ rest) ≡ true → is_gap_piece p ≡ true = λ o. b.comment (subst (λ t. opens_comment t ≡ true) (sym b.joined) o) in
    subst (λ t. Covers t p) (sym b.joined) (covers p rest b.formed comment)

-- where nothing stands at the front, a text begins with no piece
pub no_front : (text : List ℕ) (p : Piece) (rest : List ℕ) → front_of text ≡ None → Begins text p rest → ⊥
no_front text p rest h b =
    let c = covered_by text p rest b in
    let e : None ≡ Some (front_like p c.size) = sym h ∙ c.front in
    cc

same_piece : (p q : Piece) (n m : ℕ) → front_like p n ≡ front_like q m → slice_of p ≡ slice_of q → p ≡ q
same_piece (gap s) (gap t) n m f e = ap gap e
same_piece (gap s) (token class t) n m f e = absurd cc
same_piece (token class s) (gap t) n m f e = absurd cc
same_piece (token class s) (token class' t) n m f e = cc

same_slice : (text x y r s : List ℕ) → text ≡ x ++ r → text ≡ y ++ s → length x ≡ length y → (x ≡ y) × (r ≡ s)
same_slice text x y r s e f l =
    let x_is : take (length x) text ≡ x = ap (take (length x)) e ∙ take-append_seam x r in
    let y_is : take (length y) text ≡ y = ap (take (length y)) f ∙ take-append_seam y s in
    let r_is : drop (length x) text ≡ r = ap (drop (length x)) e ∙ drop-append_seam x r in
    let s_is : drop (length y) text ≡ s = ap (drop (length y)) f ∙ drop-append_seam y s in
    (sym x_is ∙ ap (λ n. take n text) l ∙ y_is, sym r_is ∙ ap (λ n. drop n text) l ∙ s_is)

-- a text begins with one piece
pub begins_once : (text : List ℕ) (p q : Piece) (r s : List ℕ) → Begins text p r → Begins text q s → (p ≡ q) × (r ≡ s)
begins_once text p q r s b c =
    let x = covered_by text p r b in
    let y = covered_by text q s c in
    let front : front_like p x.size ≡ front_like q y.size = (let e : Some (front_like p x.size) ≡ Some (front_like q y.size) = sym x.front ∙ y.front in cc) in
    let above : length (slice_of q) ≤ length (slice_of p) = b.longest q s c.joined c.formed in
    let below : length (slice_of p) ≤ length (slice_of q) = c.longest p r b.joined b.formed in
    let same = same_slice text (slice_of p) (slice_of q) r s b.joined c.joined (omega (arith, above, below)) in
    (same_piece p q x.size y.size front same.0, same.1)

-- a front is a piece of its own form
pub front_formed : (text : List ℕ) (f : Front) → IsFront text f → is_formed (piece_at f text) ≡ true
front_formed text f h = (begins text f h).formed
