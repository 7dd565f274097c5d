-- What is read of lines prints the symbols that were taken.
use Rattle.std.proofs.Common.{◌≡◌, ℕ, zero, suc, Bool, true, false, cond, List, [], ◌∷◌, ◌++◌, codes, Option, Some, None, refl, sym, ap, subst, ◌∙◌, append_assoc}
use Rattle.std.proofs.lemmas.List.{append-nil}
use Rattle.plc_types.specs.declared.operator.Operator.TheVariants.{Equal}
use Rattle.source_tree.specs.declared.token.Mark.TheVariants.{Semicolon}
use Rattle.source_tree.specs.Syntax.{Symbol, name, operator, mark, Named}
use Rattle.source_tree.specs.Prints.{name_symbol}
use Rattle.grammar.specs.Reading.{◌>>=◌, after, named, numbered}
use Rattle.grammar.specs.Expressions.{expression}
use Rattle.grammar_laws.proofs.Steps.{bind_some, some_is, after_is, named_is, numbered_is}
use Rattle.grammar_laws.proofs.Sound.{expression_is}
use Rattle.relation_lines.specs.declared.line.Setting.{Setting}
use Rattle.relation_lines.specs.declared.line.Condition.{Condition}
use Rattle.relation_lines.specs.declared.word.FirstWord.{FirstWord}
use Rattle.relation_lines.specs.declared.word.FirstWord.TheVariants as words
use Rattle.relation_lines.specs.Lines.{ContentData, setting, faults, paired, single, clause, LineData}
use Rattle.relation_lines.specs.Words.{first_word_of, agreement_of, side_of}
use Rattle.relation_lines.specs.Prints.{word_of, setting_word, condition_word, print_content, print_line, print_lines}
use Rattle.relation_lines.specs.Reading.{equal_sign, set_to, agreed, input_or, input, condition, content, line, has_ended, lines, ended, file}
use Rattle.relation_lines.proofs.WordsAre.{spelling, first_word_is, agreement_is, side_is}
use Rattle.relation_lines.proofs.Fits.{ContentFits, LinesFit, line_shape}

equal_sign_is : (ts : List Symbol) (at : ℕ) (rest : List Symbol) → equal_sign ts ≡ Some (at, rest) → ts ≡ operator Equal at ∷ rest
unfolding equal_sign
equal_sign_is (operator Equal p ∷ ts) at rest e = ap (λ (x : ℕ × List Symbol). operator Equal x.0 ∷ x.1) (some_is (p, ts) (at, rest) e)
equal_sign_is ts at rest e = absurd cc

-- What is read behind a first word prints the symbols that were taken, and the line has this first word.
pub record ContentIs (first : List ℕ) (depth : ℕ) (ts : List Symbol) (y : ContentData × List Symbol) : Type 0 where
  pub word : word_of y.0 ≡ first
  pub printed : ts ≡ print_content y.0 ++ y.1
  pub fits : ContentFits y.0 depth

module _ (depth : ℕ) where
  set_to_is : (s : Setting) (ts : List Symbol) (y : ContentData × List Symbol) → set_to s ts ≡ Some y → ContentIs (setting_word s) depth ts y
  unfolding set_to
  set_to_is s ts y e =
      let n = bind_some (numbered ts) _ y e in
      let whole : ContentIs (setting_word s) depth ts (setting s n.0.0.0 n.0.0.1, n.0.1) = record { word = refl; printed = numbered_is ts n.0.0.0 n.0.0.1 n.0.1 n.1; fits = tt } in
      subst (ContentIs (setting_word s) depth ts) (some_is (setting s n.0.0.0 n.0.0.1, n.0.1) y n.2) whole

  agreed_is : (ts : List Symbol) (y : ContentData × List Symbol) → agreed ts ≡ Some y → ContentIs (codes "FAULTS") depth ts y
  unfolding agreed
  agreed_is ts y e =
      let n = bind_some (named ts) _ y e in
      let a = bind_some (agreement_of n.0.0.text) _ y n.2 in
      let printed = named_is ts n.0.0 n.0.1 n.1 ∙ ap (λ (x : List ℕ). name x n.0.0.at ∷ n.0.1) (agreement_is n.0.0.text a.0 a.1) in
      let whole : ContentIs (codes "FAULTS") depth ts (faults a.0 n.0.0.at, n.0.1) = record { word = refl; printed = printed; fits = tt } in
      subst (ContentIs (codes "FAULTS") depth ts) (some_is (faults a.0 n.0.0.at, n.0.1) y a.2) whole

  input_or_is : (first : Named) (ts : List Symbol) (o : Option (ℕ × List Symbol)) (y : ContentData × List Symbol) → equal_sign ts ≡ o → input_or first ts o ≡ Some y → ContentIs (codes "INPUT") depth (name_symbol first ∷ ts) y
  input_or_is first ts (Some sign) y is e =
      let n = bind_some (named sign.1) _ y e in
      let printed = equal_sign_is ts sign.0 sign.1 is ∙ ap (λ (x : List Symbol). operator Equal sign.0 ∷ x) (named_is sign.1 n.0.0 n.0.1 n.1) in
      let whole : ContentIs (codes "INPUT") depth (name_symbol first ∷ ts) (paired first sign.0 n.0.0, n.0.1) = record { word = refl; printed = ap (λ (x : List Symbol). name_symbol first ∷ x) printed; fits = tt } in
      subst (ContentIs (codes "INPUT") depth (name_symbol first ∷ ts)) (some_is (paired first sign.0 n.0.0, n.0.1) y n.2) whole
  input_or_is first ts None y is e =
      let s = bind_some (side_of first.text) _ y e in
      let n = bind_some (named ts) _ y s.2 in
      let printed = ap (λ (x : List Symbol). name_symbol first ∷ x) (named_is ts n.0.0 n.0.1 n.1) ∙ ap (λ (x : List ℕ). name x first.at ∷ name_symbol n.0.0 ∷ n.0.1) (side_is first.text s.0 s.1) in
      let whole : ContentIs (codes "INPUT") depth (name_symbol first ∷ ts) (single s.0 first.at n.0.0, n.0.1) = record { word = refl; printed = printed; fits = tt } in
      subst (ContentIs (codes "INPUT") depth (name_symbol first ∷ ts)) (some_is (single s.0 first.at n.0.0, n.0.1) y n.2) whole

  input_is : (ts : List Symbol) (y : ContentData × List Symbol) → input ts ≡ Some y → ContentIs (codes "INPUT") depth ts y
  unfolding input
  input_is ts y e =
      let n = bind_some (named ts) _ y e in
      subst (λ (x : List Symbol). ContentIs (codes "INPUT") depth x y) (sym (named_is ts n.0.0 n.0.1 n.1)) (input_or_is n.0.0 n.0.1 (equal_sign n.0.1) y refl n.2)

  module _ (turns : ℕ) where
    condition_is : (c : Condition) (ts : List Symbol) (y : ContentData × List Symbol) → condition turns depth c ts ≡ Some y → ContentIs (condition_word c) depth ts y
    unfolding condition
    condition_is c ts y e =
        let a = bind_some (expression turns depth ts) _ y e in
        let found = expression_is turns depth ts a.0.0 a.0.1 a.1 in
        let whole : ContentIs (condition_word c) depth ts (clause c a.0.0, a.0.1) = record { word = refl; printed = found.0; fits = found.1 } in
        subst (ContentIs (condition_word c) depth ts) (some_is (clause c a.0.0, a.0.1) y a.2) whole

    content_is : (first : FirstWord) (ts : List Symbol) (y : ContentData × List Symbol) → content turns depth first ts ≡ Some y → ContentIs (spelling first) depth ts y
    unfolding content
    content_is (words.Setting s) ts y e = set_to_is s ts y e
    content_is words.Faults ts y e = agreed_is ts y e
    content_is words.Input ts y e = input_is ts y e
    content_is (words.Clause c) ts y e = condition_is c ts y e

    abbrev LineIs : List Symbol → LineData × List Symbol → Type 0
    LineIs ts y = (ts ≡ print_line y.0 ++ y.1) × ContentFits y.0.content depth

    line_is : (ts : List Symbol) (y : LineData × List Symbol) → line turns depth ts ≡ Some y → LineIs ts y
    unfolding line
    line_is ts y e =
        let n = bind_some (named ts) _ y e in
        let w = bind_some (first_word_of n.0.0.text) _ y n.2 in
        let c = bind_some (content turns depth w.0 n.0.1) _ y w.2 in
        let s = bind_some (after Semicolon c.0.1) _ y c.2 in
        let inside = content_is w.0 n.0.1 c.0 c.1 in
        let found : LineData = record { at = n.0.0.at; content = c.0.0 } in
        let word : n.0.0.text ≡ word_of c.0.0 = first_word_is n.0.0.text w.0 w.1 ∙ sym inside.word in
        let behind : n.0.1 ≡ print_content c.0.0 ++ mark Semicolon ∷ s.0 = inside.printed ∙ ap (λ (x : List Symbol). print_content c.0.0 ++ x) (after_is Semicolon c.0.1 s.0 s.1) in
        let printed = named_is ts n.0.0 n.0.1 n.1 ∙ ap (λ (x : List ℕ). name x n.0.0.at ∷ n.0.1) word ∙ ap (λ (x : List Symbol). name (word_of c.0.0) n.0.0.at ∷ x) behind in
        let whole : LineIs ts (found, s.0) = (printed ∙ sym (line_shape found s.0), inside.fits) in
        subst (LineIs ts) (some_is (found, s.0) y s.2) whole

    abbrev LinesAre : List LineData → List Symbol → List LineData × List Symbol → Type 0
    LinesAre before ts y = (extra : List LineData) × (y.0 ≡ before ++ extra) × (ts ≡ print_lines extra ++ y.1) × LinesFit extra depth

    lines_stop : (before : List LineData) (ts : List Symbol) (y : List LineData × List Symbol) → (let o : Option (List LineData × List Symbol) = Some (before, ts) in o) ≡ Some y → LinesAre before ts y
    lines_stop before ts y e =
        let whole : LinesAre before ts (before, ts) = ([], sym (append-nil before), refl, tt) in
        subst (LinesAre before ts) (some_is (before, ts) y e) whole

    lines_go : (n : ℕ) (before : List LineData) (ts : List Symbol) (y : List LineData × List Symbol) (b : Bool)
        → cond b (Some (before, ts)) (line turns depth ts >>= λ l. lines turns depth n (before ++ l.0 ∷ []) l.1) ≡ Some y
        → ((before : List LineData) (ts : List Symbol) → lines turns depth n before ts ≡ Some y → LinesAre before ts y) → LinesAre before ts y
    lines_go n before ts y true e below = lines_stop before ts y e
    lines_go n before ts y false e below =
        let a = bind_some (line turns depth ts) (λ (l : LineData × List Symbol). lines turns depth n (before ++ l.0 ∷ []) l.1) y e in
        let l = line_is ts a.0 a.1 in
        let b = below (before ++ a.0.0 ∷ []) a.0.1 a.2 in (
          a.0.0 ∷ b.0,
          b.1 ∙ append_assoc before (a.0.0 ∷ []) b.0,
          l.0 ∙ ap (λ (x : List Symbol). print_line a.0.0 ++ x) b.2 ∙ sym (append_assoc (print_line a.0.0) (print_lines b.0) y.1),
          (l.1, b.3),
        )

    lines_are : (n : ℕ) (before : List LineData) (ts : List Symbol) (y : List LineData × List Symbol) → lines turns depth n before ts ≡ Some y → LinesAre before ts y
    unfolding lines
    lines_are zero before ts y e = lines_stop before ts y e
    lines_are (suc n) before ts y e = lines_go n before ts y (has_ended ts) e (λ before ts e. lines_are n before ts y e)

    ended_is : (ls : List LineData) (ts : List Symbol) (found : List LineData) → ended turns depth ls ts ≡ Some found → (ts ≡ []) × (ls ≡ found)
    ended_is ls [] found e = (refl, some_is ls found e)
    ended_is ls (s ∷ ts) found e = absurd cc

pub file_is : (turns depth : ℕ) (ts : List Symbol) (found : List LineData) → file turns depth ts ≡ Some found → (ts ≡ print_lines found) × LinesFit found depth
unfolding file
file_is turns depth ts found e =
    let a = bind_some (lines turns depth turns [] ts) (λ (ls : List LineData × List Symbol). ended turns depth ls.0 ls.1) found e in
    let p = lines_are depth turns turns [] ts a.0 a.1 in
    let end = ended_is depth turns a.0.0 a.0.1 found a.2 in
    let same : p.0 ≡ found = sym p.1 ∙ end.1 in
    (p.2 ∙ ap (λ (x : List Symbol). print_lines p.0 ++ x) end.0 ∙ append-nil (print_lines p.0) ∙ ap print_lines same, subst (λ (x : List LineData). LinesFit x depth) same p.3)
