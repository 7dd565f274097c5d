-- What stands at the front of a text has some bytes of it.
use Rattle.std.proofs.Common.{◌≡◌, ℕ, ◌+◌, ◌<◌, ◌≤◌, List, [], ◌∷◌, length, drop, Bool, true, false, Option, Some, None, option_map, cond, refl, arith}
use Rattle.std.specs.Prelude.{slice_index, IfSome}
use Rattle.std.specs.List.{prefix_len}
use Rattle.std.proofs.lemmas.List.Sums.{prefix_len-le-length}
use Rattle.std.proofs.lemmas.Bool.Decides.{nat_tests}
use Rattle.source_tree.specs.declared.token.TokenClass.TheVariants.{Sign}
use Rattle.source_tree.specs.Bytes.{is_word_byte, is_number_byte, is_letter, is_digit, is_sign, is_sign_pair, is_blank}
use Rattle.source_tree.specs.Tokens.{is_block_opening, is_line_opening, is_in_line}
use Rattle.st_lexer.specs.declared.front.Front.{Front}
use Rattle.st_lexer.specs.declared.front.Front.TheVariants.{Gap, Token}
use Rattle.st_lexer.specs.Fronts.{closed_len, front_of, plain_front, size_of}
use Rattle.st_lexer.proofs.Fits.{closed_is}

abbrev pub IsSized : List ℕ → Option Front → Type 0
IsSized text o = IfSome o (λ f. (0 < size_of f) × (size_of f ≤ length text))

chosen : (text : List ℕ) (x : Bool) (o u : Option Front) → (x ≡ true → IsSized text o) → (x ≡ false → IsSized text u) → IsSized text (cond x o u)
chosen text true o u here there = here refl
chosen text false o u here there = there refl

block : (b : ℕ) (bs : List ℕ) (o : Option ℕ) → is_block_opening b (slice_index bs 0) ≡ true → closed_len (drop 1 bs) ≡ o → IsSized (b ∷ bs) (option_map (λ n. Gap (n + 2)) o)
block b [] o h e = absurd (let z : is_block_opening b 0 ≡ false = grind (arith, nat_tests) in cc)
block b (c ∷ cs) None h e = tt
block b (c ∷ cs) (Some n) h e = let i = closed_is cs n e in (omega arith, omega (arith, i.within))

pair : (b : ℕ) (bs : List ℕ) → is_sign_pair b (slice_index bs 0) ≡ true → IsSized (b ∷ bs) (Some (Token Sign 2))
pair b [] h = absurd (let e : is_sign_pair b 0 ≡ false = grind (arith, nat_tests) in cc)
pair b (c ∷ cs) h = (omega arith, omega arith)

run : (b : ℕ) (bs : List ℕ) (p : ℕ → Bool) → (0 < prefix_len p bs + 1) × (prefix_len p bs + 1 ≤ length (b ∷ bs))
run b bs p = let k = prefix_len-le-length p bs in (omega arith, omega arith)

plain : (b : ℕ) (bs : List ℕ) → IsSized (b ∷ bs) (plain_front b bs)
plain b bs =
    chosen (b ∷ bs) (is_blank b) _ _ (λ _. (omega arith, omega arith)) (λ _.
    chosen (b ∷ bs) (is_letter b) _ _ (λ _. run b bs is_word_byte) (λ _.
    chosen (b ∷ bs) (is_digit b) _ _ (λ _. run b bs is_number_byte) (λ _.
    chosen (b ∷ bs) (is_sign_pair b (slice_index bs 0)) _ _ (λ e. pair b bs e) (λ _.
    chosen (b ∷ bs) (is_sign b) _ _ (λ _. (omega arith, omega arith)) (λ _. tt)))))

pub sized_front : (text : List ℕ) → IsSized text (front_of text)
sized_front [] = tt
sized_front (b ∷ bs) =
    chosen (b ∷ bs) (is_block_opening b (slice_index bs 0)) _ _ (λ e. block b bs (closed_len (drop 1 bs)) e refl) (λ _.
    chosen (b ∷ bs) (is_line_opening b (slice_index bs 0)) _ _ (λ _. run b bs is_in_line) (λ _. plain b bs))
