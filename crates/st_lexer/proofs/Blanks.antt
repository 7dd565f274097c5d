-- Blanks at the front of a text are gaps, one by one.
use Rattle.std.proofs.Common.{◌≡◌, ℕ, suc, ◌+◌, ◌≤◌, List, [], ◌∷◌, drop, true, false, cond, refl, subst, sym, ◌∙◌, arith}
use Rattle.std.specs.Prelude.{slice_index}
use Rattle.std.specs.List.{prefix_len}
use Rattle.std.proofs.lemmas.List.{drop-drop}
use Rattle.std.proofs.lemmas.Bool.Decides.{nat_tests}
use Rattle.source_tree.specs.Bytes.{is_blank}
use Rattle.source_tree.specs.Tokens.{Lexeme, is_block_opening, is_line_opening}
use Rattle.st_lexer.specs.declared.front.Front.TheVariants.{Gap}
use Rattle.st_lexer.proofs.Beginnings.{IsFront}
use Rattle.st_lexer.proofs.Breaks.{IsRead, read_front}
use Rattle.st_lexer.proofs.Spellings.{IsLexed, lexed_gap_at}

blank_front : (b : ℕ) (bs : List ℕ) → is_blank b ≡ true → IsFront (b ∷ bs) (Gap 1)
blank_front b bs h =
    let block : is_block_opening b (slice_index bs 0) ≡ false = grind (arith, nat_tests) in
    let line : is_line_opening b (slice_index bs 0) ≡ false = grind (arith, nat_tests) in
    record { front = rw (block, line, h) refl; some = omega arith; within = omega arith }

-- what one blank leaves true, all that stand at the front do
over_blanks : (P : ℕ → List ℕ → Type 0) → ((at b : ℕ) (bs : List ℕ) → is_blank b ≡ true → P at (b ∷ bs) → P (at + 1) bs)
    → (at : ℕ) (rest : List ℕ) → P at rest → P (at + prefix_len is_blank rest) (drop (prefix_len is_blank rest) rest)
over_blanks P step at [] h = let here : at ≡ at + 0 = omega arith in subst (λ n. P n []) here h
over_blanks P step at (b ∷ bs) h =
    elim (is_blank b) as (λ x. is_blank b ≡ x → P (at + cond x (1 + prefix_len is_blank bs) 0) (drop (cond x (1 + prefix_len is_blank bs) 0) (b ∷ bs))) [
      | true ↦ λ e. (
          let place : at + 1 + prefix_len is_blank bs ≡ at + suc (prefix_len is_blank bs) = omega arith in
          let one : suc (prefix_len is_blank bs) ≡ 1 + prefix_len is_blank bs = omega arith in
          let more = over_blanks P step (at + 1) bs (step at b bs e h) in
          subst (λ n. P (at + n) (drop n (b ∷ bs))) one (subst (λ n. P n (drop (prefix_len is_blank bs) bs)) place more))
      | false ↦ λ e. (let here : at ≡ at + 0 = omega arith in subst (λ n. P n (b ∷ bs)) here h)
    ] refl

behind_gap : (P : ℕ → List ℕ → Type 0) (at size n : ℕ) (rest rest' : List ℕ) → n ≡ size + prefix_len is_blank (drop size rest) → rest' ≡ drop n rest
    → P (at + size + prefix_len is_blank (drop size rest)) (drop (prefix_len is_blank (drop size rest)) (drop size rest)) → P (at + n) rest'
behind_gap P at size n rest rest' e f h =
    let k : ℕ = prefix_len is_blank (drop size rest) in
    let place : at + size + k ≡ at + n = omega arith in
    let left : drop k (drop size rest) ≡ rest' = drop-drop k size rest ∙ subst (λ m. drop m rest ≡ rest') e (sym f) in
    subst (λ r. P (at + n) r) left (subst (λ m. P m (drop k (drop size rest))) place h)

pub read_gap : (text : List ℕ) (at size n : ℕ) (rest rest' : List ℕ) → IsFront rest (Gap size) → n ≡ size + prefix_len is_blank (drop size rest) → rest' ≡ drop n rest → IsRead text at rest → IsRead text (at + n) rest'
read_gap text at size n rest rest' f e behind h =
    behind_gap (IsRead text) at size n rest rest' e behind
    (over_blanks (IsRead text) (λ place b bs blank k. read_front text place (b ∷ bs) (Gap 1) bs (blank_front b bs blank) refl refl k) (at + size) (drop size rest)
    (read_front text at rest (Gap size) (drop size rest) f refl refl h))

pub lexed_blanks : (text : List ℕ) (at size n : ℕ) (rest rest' : List ℕ) (tokens : List Lexeme) → IsFront rest (Gap size) → n ≡ size + prefix_len is_blank (drop size rest) → rest' ≡ drop n rest
    → IsLexed text at rest tokens → IsLexed text (at + n) rest' tokens
lexed_blanks text at size n rest rest' tokens f e behind h =
    behind_gap (λ p r. IsLexed text p r tokens) at size n rest rest' e behind
    (over_blanks (λ p r. IsLexed text p r tokens) (λ place b bs blank k. lexed_gap_at text place 1 (b ∷ bs) bs tokens (blank_front b bs blank) refl k) (at + size) (drop size rest)
    (lexed_gap_at text at size rest (drop size rest) tokens f refl h))
