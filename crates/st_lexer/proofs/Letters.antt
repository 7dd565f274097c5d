-- Tokens are ASCII, and so UTF-8.
use Rattle.std.proofs.Common.{◌≡◌, ℕ, ◌<◌, List, [], ◌∷◌, Bool, true, arith}
use Rattle.std.specs.Prelude.{IsUtf8, IsAscii}
use Rattle.std.specs.List.{list_all}
use Rattle.std.proofs.lemmas.Str.{IsUtf8-from_ascii}
use Rattle.std.proofs.lemmas.Str.Ascii.{IsAscii-nil, IsAscii-cons}
use Rattle.std.proofs.lemmas.Bool.Decides.{nat_tests}
use Rattle.std.proofs.lemmas.Bool.{and_parts}
use Rattle.source_tree.specs.declared.token.TokenClass.{TokenClass}
use Rattle.source_tree.specs.declared.token.TokenClass.TheVariants.{Word, Number, Sign}
use Rattle.source_tree.specs.Bytes.{is_word_byte, is_number_byte, is_letter, is_digit, is_sign, is_sign_pair}
use Rattle.source_tree.specs.Tokens.{token, is_formed}

all_ascii : (p : ℕ → Bool) (bs : List ℕ) → ((b : ℕ) → p b ≡ true → b < 128) → list_all p bs ≡ true → IsAscii bs
all_ascii p [] small h = IsAscii-nil
all_ascii p (b ∷ bs) small h = let k = and_parts (p b) (list_all p bs) h in IsAscii-cons b bs (small b k.0) (all_ascii p bs small k.1)

small_word : (b : ℕ) → is_word_byte b ≡ true → b < 128
small_word b h = grind (arith, nat_tests)

small_number : (b : ℕ) → is_number_byte b ≡ true → b < 128
small_number b h = grind (arith, nat_tests)

small_letter : (b : ℕ) → is_letter b ≡ true → b < 128
small_letter b h = grind (arith, nat_tests)

small_digit : (b : ℕ) → is_digit b ≡ true → b < 128
small_digit b h = grind (arith, nat_tests)

small_sign : (b : ℕ) → is_sign b ≡ true → b < 128
small_sign b h = grind (arith, nat_tests)

small_pair : (b c : ℕ) → is_sign_pair b c ≡ true → (b < 128) × (c < 128)
small_pair b c h = (grind (arith, nat_tests), grind (arith, nat_tests))

token_is_ascii : (class : TokenClass) (s : List ℕ) → is_formed (token class s) ≡ true → IsAscii s
token_is_ascii class [] h = IsAscii-nil
token_is_ascii Word (b ∷ bs) h = let k = and_parts (is_letter b) (list_all is_word_byte bs) h in IsAscii-cons b bs (small_letter b k.0) (all_ascii is_word_byte bs small_word k.1)
token_is_ascii Number (b ∷ bs) h = let k = and_parts (is_digit b) (list_all is_number_byte bs) h in IsAscii-cons b bs (small_digit b k.0) (all_ascii is_number_byte bs small_number k.1)
token_is_ascii Sign (b ∷ []) h = IsAscii-cons b [] (small_sign b h) IsAscii-nil
token_is_ascii Sign (b ∷ c ∷ []) h = let k = small_pair b c h in IsAscii-cons b (c ∷ []) k.0 (IsAscii-cons c [] k.1 IsAscii-nil)
token_is_ascii Sign (b ∷ c ∷ d ∷ bs) h = absurd cc

pub token_is_utf8 : (class : TokenClass) (s : List ℕ) → is_formed (token class s) ≡ true → IsUtf8 s
token_is_utf8 class s h = IsUtf8-from_ascii s (token_is_ascii class s h)
