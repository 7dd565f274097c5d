-- What lines print is read as those lines.
use Rattle.std.proofs.Common.{◌≡◌, ℕ, zero, suc, ◌≤◌, Bool, false, List, [], ◌∷◌, ◌++◌, length, Some, None, refl, sym, ap, ◌∙◌, append_assoc, arith, length-append}
use Rattle.std.proofs.lemmas.List.{append-nil}
use Rattle.scan_model.specs.declared.side.Side.{Side}
use Rattle.plc_types.specs.declared.operator.Operator.TheVariants.{Equal}
use Rattle.source_tree.specs.declared.token.Mark.TheVariants.{Semicolon}
use Rattle.source_tree.specs.Syntax.{Symbol, name, number, operator, mark, Named}
use Rattle.source_tree.specs.Prints.{name_symbol}
use Rattle.grammar.specs.Marks.{same_mark}
use Rattle.grammar.specs.Ends.{goes_on}
use Rattle.grammar.specs.Reading.{after, numbered}
use Rattle.grammar_laws.proofs.Again.{step_named, expression_again}
use Rattle.relation_lines.specs.declared.word.FirstWord.{FirstWord}
use Rattle.relation_lines.specs.declared.word.FirstWord.TheVariants as words
use Rattle.relation_lines.specs.Lines.{ContentData, setting, faults, paired, single, clause, LineData}
use Rattle.relation_lines.specs.Words.{first_word_of}
use Rattle.relation_lines.specs.Prints.{word_of, side_word, faults_word, print_content, print_lines}
use Rattle.relation_lines.specs.Reading.{equal_sign, set_to, agreed, input, condition, content, line, lines, file}
use Rattle.relation_lines.proofs.WordsAre.{spelling, first_word_again, agreement_again, side_again}
use Rattle.relation_lines.proofs.Fits.{ContentFits, LinesFit, line_shape}

-- the first word that a line has
abbrev word_in : ContentData → FirstWord
word_in (setting s value at) = words.Setting s
word_in (faults equal at) = words.Faults
word_in (paired a at b) = words.Input
word_in (single s at a) = words.Input
word_in (clause c e) = words.Clause c

spelt : (c : ContentData) → word_of c ≡ spelling (word_in c)
spelt (setting s value at) = refl
spelt (faults equal at) = refl
spelt (paired a at b) = refl
spelt (single s at a) = refl
spelt (clause c e) = refl

step_number : (value at : ℕ) (ts : List Symbol) → numbered (number value at ∷ ts) ≡ Some ((value, at), ts)
unfolding numbered
step_number value at ts = refl

step_equal : (at : ℕ) (ts : List Symbol) → equal_sign (operator Equal at ∷ ts) ≡ Some (at, ts)
unfolding equal_sign
step_equal at ts = refl

no_equal : (n : Named) (ts : List Symbol) → equal_sign (name_symbol n ∷ ts) ≡ None
unfolding equal_sign
no_equal n ts = refl

step_semicolon : (ts : List Symbol) → after Semicolon (mark Semicolon ∷ ts) ≡ Some ts
unfolding after same_mark
step_semicolon ts = refl

semicolon_ends : (ts : List Symbol) → goes_on 7 (mark Semicolon ∷ ts) ≡ false
unfolding same_mark
semicolon_ends ts = refl

agreed_again : (equal : Bool) (at : ℕ) (rest : List Symbol) → agreed (name (faults_word equal) at ∷ rest) ≡ Some (faults equal at, rest)
unfolding agreed
agreed_again equal at rest = rw (step_named (record { text = faults_word equal; at = at }) rest, agreement_again equal) refl

paired_again : (a : Named) (at : ℕ) (b : Named) (rest : List Symbol) → input (name_symbol a ∷ operator Equal at ∷ name_symbol b ∷ rest) ≡ Some (paired a at b, rest)
unfolding input
paired_again a at b rest = rw (step_named a (operator Equal at ∷ name_symbol b ∷ rest), step_equal at (name_symbol b ∷ rest), step_named b rest) refl

single_again : (s : Side) (at : ℕ) (a : Named) (rest : List Symbol) → input (name (side_word s) at ∷ name_symbol a ∷ rest) ≡ Some (single s at a, rest)
unfolding input
single_again s at a rest =
    rw (step_named (record { text = side_word s; at = at }) (name_symbol a ∷ rest), no_equal a rest, side_again s, step_named a rest) refl

module _ (turns depth : ℕ) where
  content_again : (c : ContentData) (rest : List Symbol) → ContentFits c depth → length (print_content c ++ mark Semicolon ∷ rest) ≤ turns
      → content turns depth (word_in c) (print_content c ++ mark Semicolon ∷ rest) ≡ Some (c, mark Semicolon ∷ rest)
  unfolding content set_to condition
  content_again (setting s value at) rest fits len = rw (step_number value at (mark Semicolon ∷ rest)) refl
  content_again (faults equal at) rest fits len = agreed_again equal at (mark Semicolon ∷ rest)
  content_again (paired a at b) rest fits len = paired_again a at b (mark Semicolon ∷ rest)
  content_again (single s at a) rest fits len = single_again s at a (mark Semicolon ∷ rest)
  content_again (clause c e) rest fits len = rw (expression_again turns e depth (mark Semicolon ∷ rest) fits (semicolon_ends rest) len) refl

  first_again : (c : ContentData) → first_word_of (word_of c) ≡ Some (word_in c)
  first_again c = ap first_word_of (spelt c) ∙ first_word_again (word_in c)

  line_again : (l : LineData) (rest : List Symbol) → ContentFits l.content depth → length (print_content l.content ++ mark Semicolon ∷ rest) ≤ turns
      → line turns depth (name (word_of l.content) l.at ∷ (print_content l.content ++ mark Semicolon ∷ rest)) ≡ Some (l, rest)
  unfolding line
  line_again l rest fits len =
      rw (step_named (record { text = word_of l.content; at = l.at }) (print_content l.content ++ mark Semicolon ∷ rest), first_again l.content, content_again l.content rest fits len, step_semicolon rest) refl

  lines_again : (n : ℕ) (before ls : List LineData) → LinesFit ls depth → length (print_lines ls) ≤ n → length (print_lines ls) ≤ turns → lines turns depth n before (print_lines ls) ≡ Some (before ++ ls, [])
  unfolding lines
  lines_again zero before [] fits le len = ap (λ (x : List LineData). Some (x, [])) (sym (append-nil before))
  lines_again zero before (l ∷ ls) fits le len = absurd (omega arith)
  lines_again (suc n) before [] fits le len = ap (λ (x : List LineData). Some (x, [])) (sym (append-nil before))
  lines_again (suc n) before (l ∷ ls) fits le len =
      let shape : print_lines (l ∷ ls) ≡ name (word_of l.content) l.at ∷ (print_content l.content ++ mark Semicolon ∷ print_lines ls) = line_shape l (print_lines ls) in
      let enough : length (print_content l.content ++ mark Semicolon ∷ print_lines ls) ≤ turns = omega (arith, ap length shape) in
      let l1 = length-append (print_content l.content) (mark Semicolon ∷ print_lines ls) in
      let less : length (print_lines ls) ≤ n = omega (arith, ap length shape, l1) in
      let fewer : length (print_lines ls) ≤ turns = omega (arith, ap length shape, l1) in
      rw (shape, line_again l (print_lines ls) fits.0 enough)
      (lines_again n (before ++ l ∷ []) ls fits.1 less fewer ∙ ap (λ (x : List LineData). Some (x, [])) (append_assoc before (l ∷ []) ls))

pub file_again : (turns depth : ℕ) (ls : List LineData) → LinesFit ls depth → length (print_lines ls) ≤ turns → file turns depth (print_lines ls) ≡ Some ls
unfolding file
file_again turns depth ls fits len = rw (lines_again turns depth turns [] ls fits len len) refl
