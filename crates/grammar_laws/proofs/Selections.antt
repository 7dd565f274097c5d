-- Labels that are read print the symbols that were taken, and what labels print is read as those labels.
use Rattle.std.proofs.Common.{◌≡◌, ℕ, zero, suc, ◌<◌, ◌≤◌, true, false, List, [], ◌∷◌, ◌++◌, length, Option, Some, None, refl, sym, ap, subst, ◌∙◌, append_assoc, arith, length-append}
use Rattle.source_tree.specs.declared.token.Mark.TheVariants.{Comma, Colon, Range, Hash}
use Rattle.plc_types.specs.declared.operator.UnaryOperator.TheVariants as signs
use Rattle.source_tree.specs.declared.syntax.Literal.{Literal}
use Rattle.source_tree.specs.declared.syntax.Literal.TheVariants as literals
use Rattle.source_tree.specs.Syntax.{Symbol, mark, Named, Tree, literal, path, enumerator, paren, unary, chain, call, LabelData}
use Rattle.source_tree.specs.Prints.{name_symbol, print_members, print_literal, print, print_high, print_label, print_more_labels, print_labels}
use Rattle.source_tree.specs.Levels.{IsConstant, IsInitialFormed, IsLabelFormed, AreLabelsFormed, AreLabels}
use Rattle.grammar.specs.Marks.{same_mark}
use Rattle.grammar.specs.Ends.{is_label, begins_where, ends_entries}
use Rattle.grammar.specs.Reading.{after}
use Rattle.grammar.specs.Declarations.{initial_value}
use Rattle.grammar.specs.Labels.{high_or, high, label, labels_step, labels}
use Rattle.grammar_laws.proofs.Steps.{bind_some, some_is, after_is}
use Rattle.grammar_laws.proofs.DeclarationSound.{initial_value_is}
use Rattle.grammar_laws.proofs.DeclarationAgain.{value_again, after_range}

-- ---- what is read

abbrev HighIs : List Symbol → Option Tree × List Symbol → Type 0
HighIs ts y = (ts ≡ print_high y.0 ++ y.1) × IsInitialFormed y.0

high_go : (ts : List Symbol) (y : Option Tree × List Symbol) (o : Option (List Symbol)) → after Range ts ≡ o → high_or ts o ≡ Some y → HighIs ts y
high_go ts y None is e =
    let whole : HighIs ts (None, ts) = (refl, tt) in
    subst (HighIs ts) (some_is (None, ts) y e) whole
high_go ts y (Some r) is e =
    let a = bind_some (initial_value r) (λ (v : Tree × List Symbol). Some (Some v.0, v.1)) y e in
    let c = initial_value_is r a.0 a.1 in
    let whole : HighIs ts (Some a.0.0, a.0.1) = (after_is Range ts r is ∙ ap (λ (x : List Symbol). mark Range ∷ x) c.0, c.1) in
    subst (HighIs ts) (some_is (Some a.0.0, a.0.1) y a.2) whole

high_is : (ts : List Symbol) (y : Option Tree × List Symbol) → high ts ≡ Some y → HighIs ts y
unfolding high
high_is ts y e = high_go ts y (after Range ts) refl e

abbrev LabelIs : List Symbol → LabelData × List Symbol → Type 0
LabelIs ts y = (ts ≡ print_label y.0 ++ y.1) × IsLabelFormed y.0

label_is : (ts : List Symbol) (y : LabelData × List Symbol) → label ts ≡ Some y → LabelIs ts y
unfolding label
label_is ts y e =
    let a = bind_some (initial_value ts) _ y e in
    let b = bind_some (high a.0.1) _ y a.2 in
    let c = initial_value_is ts a.0 a.1 in
    let h = high_is a.0.1 b.0 b.1 in
    let found : LabelData = record { low = a.0.0; high = b.0.0 } in
    let printed = c.0 ∙ ap (λ (x : List Symbol). print a.0.0 ++ x) h.0 ∙ sym (append_assoc (print a.0.0) (print_high b.0.0) b.0.1) in
    let whole : LabelIs ts (found, b.0.1) = (printed, (c.1, h.1)) in
    subst (LabelIs ts) (some_is (found, b.0.1) y b.2) whole

-- labels behind those that were read, of which there is at least one
abbrev LabelsAre : List LabelData → List Symbol → List LabelData × List Symbol → Type 0
LabelsAre before ts y =
    (l : LabelData) × (more : List LabelData) × (y.0 ≡ before ++ l ∷ more) × (ts ≡ print_label l ++ (print_more_labels more ++ y.1)) × IsLabelFormed l × AreLabelsFormed more

labels_go : (n : ℕ) (before : List LabelData) (l : LabelData) (ts next : List Symbol) (y : List LabelData × List Symbol) (o : Option (List Symbol)) → ts ≡ print_label l ++ next → IsLabelFormed l → after Comma next ≡ o
    → labels_step (labels n) (before ++ l ∷ []) next o ≡ Some y → ((before : List LabelData) (ts : List Symbol) → labels n before ts ≡ Some y → LabelsAre before ts y) → LabelsAre before ts y
labels_go n before l ts next y None parts formed is e below =
    let whole : LabelsAre before ts (before ++ l ∷ [], next) = (l, [], refl, parts, formed, tt) in
    subst (LabelsAre before ts) (some_is (before ++ l ∷ [], next) y e) whole
labels_go n before l ts next y (Some r) parts formed is e below =
    let b = below (before ++ l ∷ []) r e in (
      l,
      b.0 ∷ b.1,
      b.2 ∙ append_assoc before (l ∷ []) (b.0 ∷ b.1),
      parts ∙ ap (λ (x : List Symbol). print_label l ++ x) (after_is Comma next r is ∙ ap (λ (x : List Symbol). mark Comma ∷ x) (b.3 ∙ sym (append_assoc (print_label b.0) (print_more_labels b.1) y.1))),
      formed,
      (b.4, b.5),
    )

labels_are : (n : ℕ) (before : List LabelData) (ts : List Symbol) (y : List LabelData × List Symbol) → labels n before ts ≡ Some y → LabelsAre before ts y
unfolding labels
labels_are zero before ts y e = absurd cc
labels_are (suc n) before ts y e =
    let a = bind_some (label ts) (λ (l : LabelData × List Symbol). labels_step (labels n) (before ++ l.0 ∷ []) l.1 (after Comma l.1)) y e in
    let l = label_is ts a.0 a.1 in
    labels_go n before a.0.0 ts a.0.1 y (after Comma a.0.1) l.0 l.1 refl a.2 (λ before ts e. labels_are n before ts y e)

pub labels_is : (n : ℕ) (ts : List Symbol) (y : List LabelData × List Symbol) → labels n [] ts ≡ Some y → (ts ≡ print_labels y.0 ++ y.1) × AreLabels y.0
labels_is n ts y e =
    let a = labels_are n [] ts y e in
    let printed : ts ≡ print_labels (a.0 ∷ a.1) ++ y.1 = a.3 ∙ sym (append_assoc (print_label a.0) (print_more_labels a.1) y.1) in
    let formed : AreLabels (a.0 ∷ a.1) = (a.4, a.5) in
    subst (λ (ls : List LabelData). (ts ≡ print_labels ls ++ y.1) × AreLabels ls) (sym a.2) (printed, formed)

-- ---- what is printed

after_comma : (rest : List Symbol) → after Comma (mark Comma ∷ rest) ≡ Some rest
unfolding after same_mark
after_comma rest = refl

no_comma : (rest : List Symbol) → after Comma (mark Colon ∷ rest) ≡ None
unfolding after same_mark
no_comma rest = refl

high_again : (h : Option Tree) (rest : List Symbol) → IsInitialFormed h → after Hash rest ≡ None → after Range rest ≡ None → high (print_high h ++ rest) ≡ Some (h, rest)
unfolding high
high_again None rest is hash range = rw range refl
high_again (Some e) rest is hash range = rw (after_range (print e ++ rest), value_again e rest is hash) refl

no_hash_high : (h : Option Tree) (rest : List Symbol) → after Hash rest ≡ None → after Hash (print_high h ++ rest) ≡ None
unfolding after same_mark
no_hash_high None rest hash = hash
no_hash_high (Some e) rest hash = refl

label_again : (l : LabelData) (rest : List Symbol) → IsLabelFormed l → after Hash rest ≡ None → after Range rest ≡ None → label (print_label l ++ rest) ≡ Some (l, rest)
unfolding label
label_again l rest is hash range =
    rw (append_assoc (print l.low) (print_high l.high) rest, value_again l.low (print_high l.high ++ rest) is.0 (no_hash_high l.high rest hash), high_again l.high rest is.1 hash range) refl

no_hash_more : (ls : List LabelData) (rest : List Symbol) → after Hash (print_more_labels ls ++ mark Colon ∷ rest) ≡ None
unfolding after same_mark
no_hash_more [] rest = refl
no_hash_more (l ∷ ls) rest = refl

no_range_more : (ls : List LabelData) (rest : List Symbol) → after Range (print_more_labels ls ++ mark Colon ∷ rest) ≡ None
unfolding after same_mark
no_range_more [] rest = refl
no_range_more (l ∷ ls) rest = refl

labels_behind : (n : ℕ) (before : List LabelData) (l : LabelData) (more : List LabelData) (rest : List Symbol) → IsLabelFormed l → AreLabelsFormed more → length more < n
    → labels n before (print_label l ++ (print_more_labels more ++ mark Colon ∷ rest)) ≡ Some (before ++ l ∷ more, mark Colon ∷ rest)
unfolding labels
labels_behind zero before l more rest is are lt = absurd (omega arith)
labels_behind (suc n) before l [] rest is are lt = rw (label_again l (mark Colon ∷ rest) is (no_hash_more [] rest) (no_range_more [] rest), no_comma rest) refl
labels_behind (suc n) before l (k ∷ ks) rest is are lt =
    let tail : List Symbol = print_more_labels ks ++ mark Colon ∷ rest in
    let shape : print_more_labels (k ∷ ks) ++ mark Colon ∷ rest ≡ mark Comma ∷ (print_label k ++ tail) = ap (λ (x : List Symbol). mark Comma ∷ x) (append_assoc (print_label k) (print_more_labels ks) (mark Colon ∷ rest)) in
    rw (label_again l (print_more_labels (k ∷ ks) ++ mark Colon ∷ rest) is (no_hash_more (k ∷ ks) rest) (no_range_more (k ∷ ks) rest), shape, after_comma (print_label k ++ tail))
    (labels_behind n (before ++ l ∷ []) k ks rest are.0 are.1 (omega arith) ∙ ap (λ (x : List LabelData). Some (x, mark Colon ∷ rest)) (append_assoc before (l ∷ []) (k ∷ ks)))

length_more : (ls : List LabelData) → length ls ≤ length (print_more_labels ls)
length_more [] = omega arith
length_more (l ∷ ls) = omega (arith, length_more ls, length-append (print_label l) (print_more_labels ls))

pub labels_again : (turns : ℕ) (ls : List LabelData) (rest : List Symbol) → AreLabels ls → length (print_labels ls ++ mark Colon ∷ rest) ≤ turns → labels turns [] (print_labels ls ++ mark Colon ∷ rest) ≡ Some (ls, mark Colon ∷ rest)
labels_again turns [] rest is len = absurd is
labels_again turns (l ∷ ls) rest is len =
    let shape : print_labels (l ∷ ls) ++ mark Colon ∷ rest ≡ print_label l ++ (print_more_labels ls ++ mark Colon ∷ rest) = append_assoc (print_label l) (print_more_labels ls) (mark Colon ∷ rest) in
    let l1 = length-append (print_label l) (print_more_labels ls ++ mark Colon ∷ rest) in
    let l2 = length-append (print_more_labels ls) (mark Colon ∷ rest) in
    let enough : length ls < turns = omega (arith, ap length shape, l1, l2, length_more ls) in
    rw shape (labels_behind turns [] l ls rest is.0 is.1 enough)

-- ---- labels begin no statement, and end no entries

literal_begins : (l : Literal) (rest : List Symbol) → begins_where true (print_literal l ++ rest) ≡ false
literal_begins (literals.Number value at) rest = refl
literal_begins (literals.Truth value at) rest = refl
literal_begins (literals.TypedNumber kind at m value value_at) rest = refl
literal_begins (literals.TypedTruth kind at value value_at) rest = refl

path_begins : (n : Named) (ns : List Named) (rest : List Symbol) → ns ≡ [] → is_label rest ≡ true → begins_where true (name_symbol n ∷ (print_members ns ++ rest)) ≡ false
path_begins n [] rest none h = rw h refl
path_begins n (m ∷ ns) rest none h = absurd cc

constant_begins : (e : Tree) (rest : List Symbol) → IsConstant e → is_label rest ≡ true → begins_where true (print e ++ rest) ≡ false
unfolding same_mark
constant_begins (literal l) rest is h = literal_begins l rest
constant_begins (path p) rest is h = path_begins p.first p.members rest is h
constant_begins (enumerator n v) rest is h = refl
constant_begins (paren at e) rest is h = absurd is
constant_begins (unary signs.Minus at e) rest is h = refl
constant_begins (unary signs.Not at e) rest is h = absurd is
constant_begins (chain e ls) rest is h = absurd is
constant_begins (call n at args) rest is h = absurd is

more_is_label : (ls : List LabelData) (rest : List Symbol) → is_label (print_more_labels ls ++ mark Colon ∷ rest) ≡ true
unfolding same_mark
more_is_label [] rest = refl
more_is_label (l ∷ ls) rest = refl

high_is_label : (h : Option Tree) (rest : List Symbol) → is_label rest ≡ true → is_label (print_high h ++ rest) ≡ true
unfolding same_mark
high_is_label None rest is = is
high_is_label (Some e) rest is = refl

pub labels_begin : (ls : List LabelData) (rest : List Symbol) → AreLabels ls → begins_where true (print_labels ls ++ mark Colon ∷ rest) ≡ false
labels_begin [] rest is = absurd is
labels_begin (l ∷ ls) rest is =
    let tail : List Symbol = print_more_labels ls ++ mark Colon ∷ rest in
    let shape : print_labels (l ∷ ls) ++ mark Colon ∷ rest ≡ print l.low ++ (print_high l.high ++ tail) = append_assoc (print_label l) (print_more_labels ls) (mark Colon ∷ rest) ∙ append_assoc (print l.low) (print_high l.high) tail in
    ap (begins_where true) shape ∙ constant_begins l.low (print_high l.high ++ tail) is.0.0 (high_is_label l.high tail (more_is_label ls rest))

literal_ends : (l : Literal) (rest : List Symbol) → ends_entries (print_literal l ++ rest) ≡ false
literal_ends (literals.Number value at) rest = refl
literal_ends (literals.Truth value at) rest = refl
literal_ends (literals.TypedNumber kind at m value value_at) rest = refl
literal_ends (literals.TypedTruth kind at value value_at) rest = refl

constant_ends : (e : Tree) (rest : List Symbol) → IsConstant e → ends_entries (print e ++ rest) ≡ false
constant_ends (literal l) rest is = literal_ends l rest
constant_ends (path p) rest is = refl
constant_ends (enumerator n v) rest is = refl
constant_ends (paren at e) rest is = absurd is
constant_ends (unary signs.Minus at e) rest is = refl
constant_ends (unary signs.Not at e) rest is = absurd is
constant_ends (chain e ls) rest is = absurd is
constant_ends (call n at args) rest is = absurd is

pub labels_end : (ls : List LabelData) (rest : List Symbol) → AreLabels ls → ends_entries (print_labels ls ++ mark Colon ∷ rest) ≡ false
labels_end [] rest is = absurd is
labels_end (l ∷ ls) rest is =
    let tail : List Symbol = print_more_labels ls ++ mark Colon ∷ rest in
    let shape : print_labels (l ∷ ls) ++ mark Colon ∷ rest ≡ print l.low ++ (print_high l.high ++ tail) = append_assoc (print_label l) (print_more_labels ls) (mark Colon ∷ rest) ∙ append_assoc (print l.low) (print_high l.high) tail in
    ap ends_entries shape ∙ constant_ends l.low (print_high l.high ++ tail) is.0.0
