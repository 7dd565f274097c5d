-- Clap's words by place are those of the plain rules, where the words are texts.
use Rattle.std.proofs.lemmas.Bool.{cases_Bool}
use Rattle.std.proofs.lemmas.List.Elements.{All-head, All-tail}
use Rattle.std.proofs.lemmas.Str.{IsUtf8-string_bytes, encodes-chars}
use Rattle.std.proofs.Common.{cond, drop, eqb-true, option_and_then, subst, true≢false, ◌≡◌, ◌∙◌, ◌&&◌, ◌||◌, ◌==◌, inl, inr, ℕ, Bool, true, false, zero, suc, refl, sym, ap, arith, List, [], ◌∷◌, length, map, Option, Some, None, is_some, option_map, string_bytes, String}
use Rattle.std.specs.List.{All}
use Rattle.std.specs.Option.{option_map_or}
use Rattle.std.specs.Char.{encode_utf8}
use Rattle.std.specs.Prelude.{slice_get}
use Rattle.std.specs.Str.{IsUtf8, bytes_eq, chars, encode_utf8_all}
use Rattle.clap.specs.Lexer.{long_of_rest, short_of_rest, strip_byte}
use Rattle.clap.specs.Walk.{Text}
use Rattle.command_line.specs.Plain.{by_place, is_flag}
use Rattle.command_line.proofs.Steps.{dashes, flag_like, has_first_char}
use Rattle.command_line.proofs.WalkLaws.{placed}

-- a text goes on after its dash with a whole character
char_after_dash : (y : ℕ) (ys : Text) → IsUtf8 (45 ∷ y ∷ ys) → has_first_char (y ∷ ys) ≡ true
unfolding chars encode_utf8
char_after_dash y ys utf8 = go (chars (y ∷ ys)) refl
  where
    go : (cs : List ℕ) → chars (y ∷ ys) ≡ cs → is_some (slice_get cs 0) ≡ true
    go (c ∷ cs) e = refl
    go [] e =
        let head : chars (45 ∷ y ∷ ys) ≡ 45 ∷ [] = ap (λ cs. 45 ∷ cs) e in
        let whole : encode_utf8_all (45 ∷ []) ≡ 45 ∷ y ∷ ys = sym (ap encode_utf8_all head) ∙ encodes-chars (45 ∷ y ∷ ys) utf8 in
        let lengths : 1 ≡ suc (suc (length ys)) = ap length whole in
        absurd (omega (arith, lengths))

-- whether clap takes a word for a flag, by what follows its first dash
abbrev flag_after : Option Text → Bool
flag_after rest = is_some (option_and_then long_of_rest (option_and_then (strip_byte 45) rest)) || option_map_or has_first_char (option_and_then short_of_rest rest) false

-- and by whether a second dash follows
abbrev flag_after_second : ℕ → Text → Bool → Bool
flag_after_second y ys second = is_some (option_and_then long_of_rest (cond second (Some ys) None)) || option_map_or has_first_char (cond second None (Some (y ∷ ys))) false

one_byte : (b : Bool) → flag_after (cond b (Some []) None) ≡ false
one_byte true = refl
one_byte false = refl

second_dash : (x y : ℕ) (ys : Text) → bytes_eq (x ∷ y ∷ ys) dashes ≡ false → (x == 45) ≡ true → (y == 45) ≡ true → flag_after_second y ys true ≡ true
second_dash x y [] e first second = absurd (true≢false (sym (λ i. first i && (second i && true)) ∙ e))
second_dash x y (z ∷ zs) e first second = refl

dash_first : (x y : ℕ) (ys : Text) → IsUtf8 (x ∷ y ∷ ys) → bytes_eq (x ∷ y ∷ ys) dashes ≡ false → (x == 45) ≡ true → flag_after (Some (y ∷ ys)) ≡ true
dash_first x y ys utf8 e first = elim (cases_Bool (y == 45)) [
  | inl second ↦ ap (flag_after_second y ys) second ∙ second_dash x y ys e first second
  | inr none ↦ ap (flag_after_second y ys) none ∙ char_after_dash y ys (subst (λ n. IsUtf8 (n ∷ y ∷ ys)) (eqb-true x 45 first) utf8)
]

flag_is : (w : Text) → IsUtf8 w → bytes_eq w dashes ≡ false → flag_like w ≡ is_flag w
flag_is [] utf8 e = refl
flag_is (x ∷ []) utf8 e = one_byte (x == 45)
flag_is (x ∷ y ∷ ys) utf8 e = elim (cases_Bool (x == 45)) [
  | inl first ↦ ap (λ b. flag_after (cond b (Some (y ∷ ys)) None)) first ∙ dash_first x y ys utf8 e first ∙ sym first
  | inr none ↦ ap (λ b. flag_after (cond b (Some (y ∷ ys)) None)) none ∙ sym none
]

pub placed_is : (words : List Text) → All IsUtf8 words → placed words ≡ by_place words
placed_is [] utf8 = refl
placed_is (w ∷ rest) utf8 =
    let later = placed_is rest (All-tail IsUtf8 w rest utf8) in
    elim (cases_Bool (bytes_eq w dashes)) [
      | inl e ↦
          ap (λ b. cond b (Some rest) (cond (flag_like w) None (option_map (λ ws. w ∷ ws) (placed rest)))) e
          ∙ sym (ap (λ b. cond b (Some rest) (cond (is_flag w) None (option_map (λ ws. w ∷ ws) (by_place rest)))) e)
      | inr e ↦
          let flag = flag_is w (All-head IsUtf8 w rest utf8) e in
          (λ i. cond (bytes_eq w dashes) (Some rest) (cond (flag i) None (option_map (λ ws. w ∷ ws) (later i))))
    ]

pub texts_utf8 : {Z : Type 0} (words : List (String Z)) → All IsUtf8 (map string_bytes words)
texts_utf8 [] k d lt = absurd (omega (arith, lt))
texts_utf8 (w ∷ rest) zero d lt = IsUtf8-string_bytes w
texts_utf8 (w ∷ rest) (suc k) d lt = texts_utf8 rest k d (omega (arith, lt))

pub utf8_after : (words : List Text) → All IsUtf8 words → All IsUtf8 (drop 1 words)
utf8_after [] utf8 = utf8
utf8_after (w ∷ rest) utf8 = All-tail IsUtf8 w rest utf8
