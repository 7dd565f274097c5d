-- What stands at the front of a text: a gap or a token, and its size.
use Rattle.std.specs.Prelude.{ℕ, ◌+◌, List, [], ◌∷◌, drop, slice_index, Option, Some, None, option_map, if◌then◌else◌}
use Rattle.std.specs.List.{prefix_len}
use Rattle.source_tree.specs.declared.token.TokenClass.TheVariants.{Word, Number, Sign}
use Rattle.source_tree.specs.Bytes.{is_blank, is_letter, is_digit, is_word_byte, is_number_byte, is_sign, is_sign_pair}
use Rattle.source_tree.specs.Tokens.{is_block_opening, is_line_opening, is_closing, is_in_line}
use Rattle.rules.specs.declared.rule.Rule.{Rule}
use Rattle.rules.specs.declared.rule.Rule.TheVariants.{StrayByte, OpenComment}
use Rattle.st_lexer.specs.Parts.{opens_block}
use Rattle.st_lexer.specs.declared.front.Front.{Front}
use Rattle.st_lexer.specs.declared.front.Front.TheVariants.{Gap, Token}

abbrev pub size_of : Front → ℕ
size_of (Gap size) = size
size_of (Token class size) = size

-- how many bytes there are up to and with the first `*)`, where there is one
abbrev pub closed_len : List ℕ → Option ℕ
closed_len [] = None
closed_len (b ∷ bs) = if is_closing b (slice_index bs 0) then Some 2 else option_map (λ n. n + 1) (closed_len bs)

-- at a byte that opens no comment
abbrev pub plain_front : ℕ → List ℕ → Option Front
plain_front b bs =
    if is_blank b then Some (Gap 1)
    else (if is_letter b then Some (Token Word (prefix_len is_word_byte bs + 1))
    else (if is_digit b then Some (Token Number (prefix_len is_number_byte bs + 1))
    else (if is_sign_pair b (slice_index bs 0) then Some (Token Sign 2)
    else (if is_sign b then Some (Token Sign 1) else None))))

abbrev pub front_of : List ℕ → Option Front
front_of [] = None
front_of (b ∷ bs) =
    if is_block_opening b (slice_index bs 0) then option_map (λ n. Gap (n + 2)) (closed_len (drop 1 bs))
    else (if is_line_opening b (slice_index bs 0) then Some (Gap (prefix_len is_in_line bs + 1)) else plain_front b bs)

-- the rule that is broken where nothing stands at the front
abbrev pub stuck_rule : List ℕ → Rule
stuck_rule text = if opens_block text then OpenComment else StrayByte
