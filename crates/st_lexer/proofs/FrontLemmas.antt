-- What stands at the front of a text is its longest piece, and the only one.
use Rattle.std.proofs.Common.{◌≡◌, ℕ, suc, ◌+◌, ◌≤◌, List, [], ◌∷◌, ◌++◌, length, take, drop, Bool, true, false, ◌&&◌, ⊎_elim, Option, Some, None, option_map, cond, refl, arith, add-one}
use Rattle.std.specs.Prelude.{slice_index, IfSome}
use Rattle.std.specs.List.{list_all, prefix_len}
use Rattle.std.proofs.lemmas.Bool.Decides.{nat_tests}
use Rattle.std.proofs.lemmas.Bool.{and_parts, or_cases, false_from_ne_true, false≢true}
use Rattle.source_tree.specs.declared.token.TokenClass.TheVariants.{Word, Number, Sign}
use Rattle.source_tree.specs.Bytes.{is_word_byte, is_number_byte, is_letter, is_digit, is_sign, is_sign_pair, is_blank}
use Rattle.source_tree.specs.Tokens.{Piece, gap, token, slice_of, is_formed, is_gap_piece, is_gap, is_sign_text, opens_comment, is_block_opening, is_line_opening, ends_closed, is_in_line}
use Rattle.st_lexer.specs.declared.front.Front.{Front}
use Rattle.st_lexer.specs.declared.front.Front.TheVariants.{Gap, Token}
use Rattle.st_lexer.specs.Fronts.{closed_len, front_of, plain_front}
use Rattle.st_lexer.proofs.Fits.{prefix_fits, prefix_all, closed_here, closed_is}

-- a front of the sort of a piece, with a size
abbrev pub front_like : Piece → ℕ → Front
front_like (gap s) n = Gap n
front_like (token class s) n = Token class n

-- a text begins with a front of a piece's sort that is at least as long
pub record Covers (text : List ℕ) (piece : Piece) : Type 0 where
  pub size : ℕ
  pub front : front_of text ≡ Some (front_like piece size)
  pub within : length (slice_of piece) ≤ size

covers_block : (b c : ℕ) (bs rest : List ℕ) → is_block_opening b c && ends_closed bs ≡ true → Covers (b ∷ c ∷ bs ++ rest) (gap (b ∷ c ∷ bs))
covers_block b c bs rest h =
    let k = and_parts (is_block_opening b c) (ends_closed bs) h in
    record { size = length bs + 2; front = rw (k.0, closed_here bs rest k.1) refl; within = omega arith }

covers_line : (b c : ℕ) (bs rest : List ℕ) → is_line_opening b c && list_all is_in_line bs ≡ true → Covers (b ∷ c ∷ bs ++ rest) (gap (b ∷ c ∷ bs))
covers_line b c bs rest h =
    let k = and_parts (is_line_opening b c) (list_all is_in_line bs) h in
    let line : is_line_opening b c ≡ true = k.0 in
    let block : is_block_opening b c ≡ false = grind (arith, nat_tests) in
    let in_line : is_in_line c ≡ true = grind (arith, nat_tests) in
    let fits : length (c ∷ bs) ≤ prefix_len is_in_line (c ∷ bs ++ rest) = prefix_fits is_in_line (c ∷ bs) rest (rw in_line k.1) in
    record { size = prefix_len is_in_line (c ∷ bs ++ rest) + 1; front = rw (block, line) refl; within = omega arith }

pub covers_gap : (s rest : List ℕ) → is_formed (gap s) ≡ true → Covers (s ++ rest) (gap s)
covers_gap [] rest h = absurd cc
covers_gap (b ∷ []) rest h =
    let block : is_block_opening b (slice_index rest 0) ≡ false = grind (arith, nat_tests) in
    let line : is_line_opening b (slice_index rest 0) ≡ false = grind (arith, nat_tests) in
    record { size = 1; front = rw (block, line, h) refl; within = omega arith }
covers_gap (b ∷ c ∷ bs) rest h =
    ⊎_elim
    (λ (x : is_block_opening b c && ends_closed bs ≡ true). covers_block b c bs rest x)
    (λ (x : is_line_opening b c && list_all is_in_line bs ≡ true). covers_line b c bs rest x)
    (or_cases (is_block_opening b c && ends_closed bs) (is_line_opening b c && list_all is_in_line bs) h)

pub covers_word : (s rest : List ℕ) → is_formed (token Word s) ≡ true → Covers (s ++ rest) (token Word s)
covers_word [] rest h = absurd cc
covers_word (b ∷ bs) rest h =
    let k = and_parts (is_letter b) (list_all is_word_byte bs) h in
    let letter : is_letter b ≡ true = k.0 in
    let block : is_block_opening b (slice_index (bs ++ rest) 0) ≡ false = grind (arith, nat_tests) in
    let line : is_line_opening b (slice_index (bs ++ rest) 0) ≡ false = grind (arith, nat_tests) in
    let blank : is_blank b ≡ false = grind (arith, nat_tests) in
    let fits : length bs ≤ prefix_len is_word_byte (bs ++ rest) = prefix_fits is_word_byte bs rest k.1 in
    record { size = prefix_len is_word_byte (bs ++ rest) + 1; front = rw (block, line, blank, letter) refl; within = omega arith }

pub covers_number : (s rest : List ℕ) → is_formed (token Number s) ≡ true → Covers (s ++ rest) (token Number s)
covers_number [] rest h = absurd cc
covers_number (b ∷ bs) rest h =
    let k = and_parts (is_digit b) (list_all is_number_byte bs) h in
    let digit : is_digit b ≡ true = k.0 in
    let block : is_block_opening b (slice_index (bs ++ rest) 0) ≡ false = grind (arith, nat_tests) in
    let line : is_line_opening b (slice_index (bs ++ rest) 0) ≡ false = grind (arith, nat_tests) in
    let blank : is_blank b ≡ false = grind (arith, nat_tests) in
    let letter : is_letter b ≡ false = grind (arith, nat_tests) in
    let fits : length bs ≤ prefix_len is_number_byte (bs ++ rest) = prefix_fits is_number_byte bs rest k.1 in
    record { size = prefix_len is_number_byte (bs ++ rest) + 1; front = rw (block, line, blank, letter, digit) refl; within = omega arith }

one_sign : (b : ℕ) (rest : List ℕ) → is_sign b ≡ true → opens_comment (b ∷ rest) ≡ false → Covers (b ∷ rest) (token Sign (b ∷ []))
one_sign b rest sign plain =
    let block : is_block_opening b (slice_index rest 0) ≡ false = grind (arith, nat_tests) in
    let line : is_line_opening b (slice_index rest 0) ≡ false = grind (arith, nat_tests) in
    let blank : is_blank b ≡ false = grind (arith, nat_tests) in
    let letter : is_letter b ≡ false = grind (arith, nat_tests) in
    let digit : is_digit b ≡ false = grind (arith, nat_tests) in
    elim (is_sign_pair b (slice_index rest 0)) as (λ x. is_sign_pair b (slice_index rest 0) ≡ x → Covers (b ∷ rest) (token Sign (b ∷ []))) [
      | true ↦ λ pair. record { size = 2; front = rw (block, line, blank, letter, digit, pair) refl; within = omega arith }
      | false ↦ λ pair. record { size = 1; front = rw (block, line, blank, letter, digit, pair, sign) refl; within = omega arith }
    ] refl

pub two_sign : (b c : ℕ) (rest : List ℕ) → is_sign_pair b c ≡ true → Covers (b ∷ c ∷ rest) (token Sign (b ∷ c ∷ []))
two_sign b c rest pair =
    let block : is_block_opening b c ≡ false = grind (arith, nat_tests) in
    let line : is_line_opening b c ≡ false = grind (arith, nat_tests) in
    let blank : is_blank b ≡ false = grind (arith, nat_tests) in
    let letter : is_letter b ≡ false = grind (arith, nat_tests) in
    let digit : is_digit b ≡ false = grind (arith, nat_tests) in
    record { size = 2; front = rw (block, line, blank, letter, digit, pair) refl; within = omega arith }

pub covers_sign : (s rest : List ℕ) → is_formed (token Sign s) ≡ true → opens_comment (s ++ rest) ≡ false → Covers (s ++ rest) (token Sign s)
covers_sign [] rest h plain = absurd cc
covers_sign (b ∷ []) rest h plain = one_sign b rest h plain
covers_sign (b ∷ c ∷ []) rest h plain = two_sign b c rest h
covers_sign (b ∷ c ∷ d ∷ bs) rest h plain = absurd cc

-- a piece that a text may begin with is covered
pub covers : (p : Piece) (rest : List ℕ) → is_formed p ≡ true → (opens_comment (slice_of p ++ rest) ≡ true → is_gap_piece p ≡ true) → Covers (slice_of p ++ rest) p
covers (gap s) rest h comment = covers_gap s rest h
covers (token Word s) rest h comment = covers_word s rest h
covers (token Number s) rest h comment = covers_number s rest h
covers (token Sign s) rest h comment = covers_sign s rest h (false_from_ne_true (opens_comment (s ++ rest)) (λ e. false≢true (comment e)))

-- the piece of a front
abbrev pub piece_at : Front → List ℕ → Piece
piece_at (Gap n) text = gap (take n text)
piece_at (Token class n) text = token class (take n text)

-- a front, where there is one, is a piece of its own form
abbrev pub IsFormed : List ℕ → Option Front → Type 0
IsFormed text o = IfSome o (λ f. is_formed (piece_at f text) ≡ true)

chosen : (text : List ℕ) (x : Bool) (o u : Option Front) → (x ≡ true → IsFormed text o) → (x ≡ false → IsFormed text u) → IsFormed text (cond x o u)
chosen text true o u here there = here refl
chosen text false o u here there = there refl

closes : (b c : ℕ) (cs : List ℕ) (o : Option ℕ) → is_block_opening b c ≡ true → closed_len cs ≡ o → IsFormed (b ∷ c ∷ cs) (option_map (λ n. Gap (n + 2)) o)
closes b c cs None h e = tt
closes b c cs (Some n) h e =
    let i = closed_is cs n e in
    let size : n + 2 ≡ suc (suc n) = omega arith in
    rw (size, h, i.closed) refl

formed_block : (b : ℕ) (bs : List ℕ) → is_block_opening b (slice_index bs 0) ≡ true → IsFormed (b ∷ bs) (option_map (λ n. Gap (n + 2)) (closed_len (drop 1 bs)))
formed_block b [] h = absurd (let e : is_block_opening b 0 ≡ false = grind (arith, nat_tests) in cc)
formed_block b (c ∷ cs) h = closes b c cs (closed_len cs) h refl

formed_line : (b : ℕ) (bs : List ℕ) → is_line_opening b (slice_index bs 0) ≡ true → is_gap (take (prefix_len is_in_line bs + 1) (b ∷ bs)) ≡ true
formed_line b [] h = absurd (let e : is_line_opening b 0 ≡ false = grind (arith, nat_tests) in cc)
formed_line b (c ∷ cs) h =
    let line : is_line_opening b c ≡ true = h in
    let in_line : is_in_line c ≡ true = grind (arith, nat_tests) in
    let block : is_block_opening b c ≡ false = grind (arith, nat_tests) in
    let size : prefix_len is_in_line (c ∷ cs) + 1 ≡ suc (suc (prefix_len is_in_line cs)) = rw in_line (omega arith) in
    rw (size, block, line, prefix_all is_in_line cs) refl

formed_pair : (b : ℕ) (bs : List ℕ) → is_sign_pair b (slice_index bs 0) ≡ true → is_sign_text (take 2 (b ∷ bs)) ≡ true
formed_pair b [] h = absurd (let e : is_sign_pair b 0 ≡ false = grind (arith, nat_tests) in cc)
formed_pair b (c ∷ cs) h = h

formed_plain : (b : ℕ) (bs : List ℕ) → IsFormed (b ∷ bs) (plain_front b bs)
formed_plain b bs =
    chosen (b ∷ bs) (is_blank b) _ _ (λ e. e) (λ _.
    chosen (b ∷ bs) (is_letter b) _ _ (λ e. rw (add-one, e, prefix_all is_word_byte bs) refl) (λ _.
    chosen (b ∷ bs) (is_digit b) _ _ (λ e. rw (add-one, e, prefix_all is_number_byte bs) refl) (λ _.
    chosen (b ∷ bs) (is_sign_pair b (slice_index bs 0)) _ _ (λ e. formed_pair b bs e) (λ _.
    chosen (b ∷ bs) (is_sign b) _ _ (λ e. e) (λ _. tt)))))

pub formed_front : (text : List ℕ) → IsFormed text (front_of text)
formed_front [] = tt
formed_front (b ∷ bs) =
    chosen (b ∷ bs) (is_block_opening b (slice_index bs 0)) _ _ (λ e. formed_block b bs e) (λ _.
    chosen (b ∷ bs) (is_line_opening b (slice_index bs 0)) _ _ (λ e. formed_line b bs e) (λ _. formed_plain b bs))
