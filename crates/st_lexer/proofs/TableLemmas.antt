-- What a table says of a text is what its entries that begin as the text say.
use Rattle.std.proofs.Common.{◌≡◌, ℕ, ◌<◌, ◌≤◌, List, [], ◌∷◌, ◌++◌, length, get_or, true, false, cond, ◌==◌, refl, ap, arith}
use Rattle.std.specs.Prelude.{bytes_eq, nat_le}
use Rattle.std.specs.List.{list_all}
use Rattle.std.proofs.lemmas.Bool.Decides.{nat_tests}
use Rattle.std.proofs.lemmas.Slice.Eq.{bytes_eq-Decides}
use Rattle.std.proofs.lemmas.Bool.{and_parts}
use Rattle.source_tree.specs.declared.token.Terminal.{Terminal}
use Rattle.source_tree.specs.declared.token.Terminal.TheVariants.{LeftOut}
use Rattle.source_tree.specs.Terminals.{Entry, entry_or, fixed_words, type_words, words, signs}
use Rattle.st_lexer.specs.Tables.{beginning_with}

unlike : (s t : List ℕ) → (length t == length s) ≡ false → bytes_eq s t ≡ false
unlike s t h =
    elim (bytes_eq s t) as (λ x. bytes_eq s t ≡ x → x ≡ false) [
      | true ↦ λ e. (let same : s ≡ t = (bytes_eq-Decides s t).0 e in let long : length s ≡ length t = ap length same in grind (arith, nat_tests))
      | false ↦ λ e. refl
    ] refl

apart : (s t : List ℕ) → (get_or t 0 0 == get_or s 0 0) ≡ false → bytes_eq s t ≡ false
apart s t h =
    elim (bytes_eq s t) as (λ x. bytes_eq s t ≡ x → x ≡ false) [
      | true ↦ λ e. (let same : s ≡ t = (bytes_eq-Decides s t).0 e in let first : get_or s 0 0 ≡ get_or t 0 0 = ap (λ (x : List ℕ). get_or x 0 0) same in grind (arith, nat_tests))
      | false ↦ λ e. refl
    ] refl

pub entry_or-beginning_with : (other : Terminal) (es : List Entry) (text : List ℕ) → entry_or other (beginning_with (get_or text 0 0) es) text ≡ entry_or other es text
entry_or-beginning_with other [] text = refl
entry_or-beginning_with other (e ∷ es) text =
    elim (get_or e.0 0 0 == get_or text 0 0) as (λ x. (get_or e.0 0 0 == get_or text 0 0) ≡ x → entry_or other (cond x (e ∷ beginning_with (get_or text 0 0) es) (beginning_with (get_or text 0 0) es)) text ≡ cond (bytes_eq text e.0) e.1 (entry_or other es text)) [
      | true ↦ λ h. ap (λ r. cond (bytes_eq text e.0) e.1 r) (entry_or-beginning_with other es text)
      | false ↦ λ h. rw (apart text e.0 h) (entry_or-beginning_with other es text)
    ] refl

-- what stands in neither of two tables is told by what is told of the second
entry_or-append : (other : Terminal) (es fs : List Entry) (text : List ℕ) → entry_or other (es ++ fs) text ≡ entry_or (entry_or other fs text) es text
entry_or-append other [] fs text = refl
entry_or-append other (e ∷ es) fs text = ap (λ r. cond (bytes_eq text e.0) e.1 r) (entry_or-append other es fs text)

pub entry_or-all_words : (other : Terminal) (text : List ℕ) → entry_or other words text ≡ entry_or (entry_or other type_words text) fixed_words text
unfolding words
entry_or-all_words other text = entry_or-append other fixed_words type_words text

-- no sign is empty, and none has more than two characters
pub no_sign : (text : List ℕ) → length text ≡ 0 → entry_or LeftOut signs text ≡ LeftOut
unfolding signs
no_sign [] h = refl
no_sign (b ∷ bs) h = absurd (omega arith)

past_all : (n : ℕ) (other : Terminal) (es : List Entry) (text : List ℕ) → list_all (λ e. nat_le (length e.0) n) es ≡ true → n < length text → entry_or other es text ≡ other
past_all n other [] text short h = refl
past_all n other (e ∷ es) text short h =
    let k = and_parts (nat_le (length e.0) n) (list_all (λ e. nat_le (length e.0) n) es) short in
    let apart : (length e.0 == length text) ≡ false = grind (arith, nat_tests) in
    rw (unlike text e.0 apart) (past_all n other es text k.1 h)

pub long_sign : (text : List ℕ) → 3 ≤ length text → entry_or LeftOut signs text ≡ LeftOut
unfolding signs
long_sign text h = past_all 2 LeftOut signs text refl (omega arith)
