-- How many tokens a text has at most, and how many lines tokens are.
use Rattle.std.proofs.Common.{◌≡◌, ℕ, suc, ◌+◌, ◌*◌, ◌≤◌, true, sym, ◌∙◌, ap, List, [], ◌∷◌, ◌++◌, length, drop, length-append, length-drop, arith}
use Rattle.std.specs.Prelude.{Option, Some, None}
use Rattle.std.proofs.lemmas.Bool.{false≢true}
use Rattle.std.proofs.lemmas.List.{length-map}
use Rattle.program_tree.specs.Tree.{ProgramData}
use Rattle.scan_model.specs.declared.relation.InputLine.{InputLine}
use Rattle.scan_model.specs.Pairs.{RelationData}
use Rattle.source_tree.specs.declared.token.TokenClass.{TokenClass}
use Rattle.source_tree.specs.declared.token.TokenClass.TheVariants.{Word, Number, Sign}
use Rattle.source_tree.specs.declared.token.Mark.TheVariants.{Semicolon}
use Rattle.source_tree.specs.declared.token.Tok.{Tok}
use Rattle.source_tree.specs.Syntax.{Symbol, mark}
use Rattle.source_tree.specs.SyntaxView.{symbol}
use Rattle.source_tree.specs.Tokens.{Lexeme, Piece, gap, token, is_formed, AreJoined, lexemes, mark_len, Spells}
use Rattle.st_lexer.specs.Lexing.{lexeme_of, lexemes_of}
use Rattle.command_files.specs.front_end.Texts.{HasTokens}
use Rattle.relation_lines.specs.declared.line.Condition.{Condition}
use Rattle.relation_lines.specs.declared.line.Condition.TheVariants as conditions
use Rattle.relation_lines.specs.Lines.{ContentData, setting, faults, paired, single, clause, LineData}
use Rattle.relation_lines.specs.Prints.{print_content, print_line, print_lines}
use Rattle.candidates.specs.Candidates.{before}
use Rattle.relation_file.specs.Relations.{input_of, inputs_in, clause_of, clauses_in}
use Rattle.relation_file.specs.Stated.{IsRelation}
use Rattle.product_build.specs.Limits.{HasFewLines}

-- ---- tokens

some_byte : (k : TokenClass) (slice : List ℕ) → is_formed (token k slice) ≡ true → 1 ≤ length slice
some_byte Word [] h = absurd (false≢true h)
some_byte Number [] h = absurd (false≢true h)
some_byte Sign [] h = absurd (false≢true h)
some_byte k (b ∷ bs) h = omega arith

joined_few : (at : ℕ) (text : List ℕ) (pieces : List Piece) → AreJoined text pieces → length (lexemes at pieces) ≤ length text
joined_few at text [] h = omega arith
joined_few at text (gap slice ∷ pieces) h =
    let rest = joined_few (at + length slice) h.0 pieces h.2 in
    let long : length text ≡ length slice + length h.0 = ap (λ (bs : List ℕ). length bs) h.1.joined ∙ length-append slice h.0 in
    omega (arith, rest, long)
joined_few at text (token k slice ∷ pieces) h =
    let rest = joined_few (at + length slice) h.0 pieces h.2 in
    let long : length text ≡ length slice + length h.0 = ap (λ (bs : List ℕ). length bs) h.1.joined ∙ length-append slice h.0 in
    let some = some_byte k slice h.1.formed in
    omega (arith, rest, long, some)

tokens_few : (text : List ℕ) (toks : List Tok) → Spells text (lexemes_of toks) → length toks ≤ length text
tokens_few text toks h =
    let all = joined_few (mark_len text) (drop (mark_len text) text) h.0 h.1 in
    let same : length toks ≡ length (lexemes (mark_len text) h.0) = sym (length-map toks lexeme_of) ∙ ap (λ (ls : List Lexeme). length ls) h.2 in
    omega (arith, all, same, length-drop (mark_len text) text)

-- ---- lines

lines_few : (ls : List LineData) → 2 * length ls ≤ length (print_lines ls)
lines_few [] = omega arith
lines_few (l ∷ ls) =
    let rest = lines_few ls in
    let one = length-append (print_content l.content) (mark Semicolon ∷ []) in
    omega (arith, rest, one, length-append (print_line l) (print_lines ls))

one_before : {A : Type 0} (o : Option A) (xs : List A) (k : ℕ) → length xs ≤ k → length (before o xs) ≤ suc k
one_before None xs k h = omega arith
one_before (Some x) xs k h = omega arith

module _ (old new : ProgramData) where
  -- an INPUT line has four symbols at least
  input_few : (c : ContentData) (xs : List InputLine) → 4 * length (before (input_of old new c) xs) ≤ suc (length (print_content c ++ mark Semicolon ∷ [])) + 4 * length xs
  input_few (setting s value at) xs = omega arith
  input_few (faults equal at) xs = omega arith
  input_few (paired a at b) xs = omega (arith, one_before (input_of old new (paired a at b)) xs (length xs) (omega arith))
  input_few (single s at a) xs = omega (arith, one_before (input_of old new (single s at a)) xs (length xs) (omega arith))
  input_few (clause c e) xs = omega arith

  inputs_few : (ls : List LineData) → 4 * length (inputs_in old new ls) ≤ length (print_lines ls)
  inputs_few [] = omega arith
  inputs_few (l ∷ ls) =
      let rest = inputs_few ls in
      let one = input_few l.content (inputs_in old new ls) in
      omega (arith, rest, one, length-append (print_line l) (print_lines ls))

  clauses_few : (wanted : Condition) (ls : List LineData) → length (clauses_in old new wanted ls) ≤ length ls
  clauses_few wanted [] = omega arith
  clauses_few wanted (l ∷ ls) = one_before (clause_of old new wanted l.content) (clauses_in old new wanted ls) (length ls) (clauses_few wanted ls)

  pub few_lines : (text : List ℕ) (toks : List Tok) (rel : RelationData) → HasTokens text toks → IsRelation old new (length text) toks rel → HasFewLines (record { old = old; new = new; relation = rel })
  few_lines text toks rel h is =
      let tokens = tokens_few text toks h.spelled in
      let lines = lines_few is.lines in
      let printed : length toks ≡ length (print_lines is.lines) = sym (length-map toks symbol) ∙ ap (λ (ss : List Symbol). length ss) is.read.printed in
      let inputs = inputs_few is.lines in
      let environment = clauses_few conditions.Environment is.lines in
      let inputs_are : length rel.inputs ≡ length (inputs_in old new is.lines) = ap (λ (r : RelationData). length r.inputs) is.stated in
      let environment_is : length rel.environment ≡ length (clauses_in old new conditions.Environment is.lines) = ap (λ (r : RelationData). length r.environment) is.stated in
      record {
        inputs = omega (arith, tokens, printed, inputs, inputs_are, h.short);
        environment = omega (arith, tokens, lines, printed, environment, environment_is, h.short);
      }
