-- No input gets two numbers, and inputs that get one number are alike.
use Rattle.std.proofs.Common.{◌≡◌, ◌≢◌, ℕ, List, [], ◌∷◌, ◌++◌, Bool, true, false, not, ◌||◌, Option, Some, None, refl, sym, ap, subst, ◌∙◌, append-nil, All, arith}
use Rattle.std.specs.Prelude.{slice_get, if◌then◌else◌}
use Rattle.std.specs.List.{AllPairs}
use Rattle.std.specs.Str.{bytes_eq}
use Rattle.std.proofs.lemmas.List.Elements.{All-nil, All-cons}
use Rattle.std.proofs.lemmas.List.Kept.{AllPairs-cons}
use Rattle.std.proofs.lemmas.Slice.Eq.{bytes_eq-Decides}
use Rattle.rules.specs.declared.rule.Rule.TheVariants.{WrongUse, InputCount, InputsDiffer}
use Rattle.plc_types.specs.Enumerations.{paired_type}
use Rattle.source_tree.specs.Syntax.{Named}
use Rattle.program_tree.specs.Cells.{is_input}
use Rattle.program_tree.specs.Tree.{CellData, ProgramData}
use Rattle.scan_model.specs.declared.side.Side.{Side}
use Rattle.scan_model.specs.declared.side.Side.TheVariants as sides
use Rattle.scan_model.specs.declared.relation.InputLine.{InputLine}
use Rattle.scan_model.specs.declared.relation.InputLine.TheVariants.{Both}
use Rattle.relation_lines.specs.Lines.{ContentData, setting, faults, paired, single, clause, LineData}
use Rattle.candidates.specs.ByPath.{cell_named, is_among}
use Rattle.candidates.specs.Candidates.{before}
use Rattle.candidates.proofs.PlacedLemmas.{HasPath, has_path}
use Rattle.relation_file.specs.Refusals.{breaks, unless}
use Rattle.relation_file.specs.Inputs.{names_in, named_by, broken_at_cell, broken_input, are_alike}
use Rattle.relation_file.specs.Broken.{program_at, broken_name, broken_pair, broken_parts, broken_line, broken_behind, broken_lines}
use Rattle.relation_file.specs.Relations.{input_of, inputs_in, both_line, single_line}
use Rattle.relation_file.specs.WellFormed.{cell_of, cells_of, IsAlike}
use Rattle.relation_file.proofs.BelongsLemmas.{or_nothing, nothing_of_both, holds}

-- ---- a name of an INPUT line that breaks nothing

not_again : (b again : Bool) (n : Named) → (if b then unless (not again) InputCount n.at else breaks WrongUse n.at) ≡ [] → again ≡ false
not_again true true n h = absurd (let e : ⊥ = cc in e)
not_again true false n h = refl
not_again false again n h = absurd (let e : ⊥ = cc in e)

is_one_input : (b again : Bool) (n : Named) → (if b then unless (not again) InputCount n.at else breaks WrongUse n.at) ≡ [] → b ≡ true
is_one_input true again n h = refl
is_one_input false again n h = absurd (let e : ⊥ = cc in e)

-- it is that of an input, and no line before has it
record IsFresh (cells : List CellData) (names : List (List ℕ)) (n : Named) : Type 0 where
  pub cell : ℕ × CellData
  pub found : cell_named n.text cells ≡ Some cell
  pub input : is_input cell.1.part ≡ true
  pub fresh : is_among names n.text ≡ false

fresh_at : (cells : List CellData) (names : List (List ℕ)) (without : Bool) (n : Named) (o : Option (ℕ × CellData)) → cell_named n.text cells ≡ o
    → broken_at_cell (is_among names n.text) without n o ≡ [] → IsFresh cells names n
fresh_at cells names true n None is h = absurd (let e : ⊥ = cc in e)
fresh_at cells names false n None is h = absurd (let e : ⊥ = cc in e)
fresh_at cells names without n (Some p) is h = record {
  cell = p;
  found = is;
  input = is_one_input (is_input p.1.part) (is_among names n.text) n h;
  fresh = not_again (is_input p.1.part) (is_among names n.text) n h;
}

is_fresh : (names : List (List ℕ)) (program : ProgramData) (n : Named) → broken_input names program n ≡ [] → IsFresh program.cells names n
is_fresh names program n h = fresh_at program.cells names (is_among program.without_cell n.text) n (cell_named n.text program.cells) refl h

-- ---- texts

pub same_text : (s t : List ℕ) → bytes_eq s t ≡ true → s ≡ t
same_text s t h = (bytes_eq-Decides s t).0 h

other_text : (names : List (List ℕ)) (s t : List ℕ) → is_among names s ≡ true → is_among names t ≡ false → s ≢ t
other_text names s t h k e = let both : true ≡ false = sym h ∙ ap (is_among names) e ∙ k in cc

among_more : (names others : List (List ℕ)) (t : List ℕ) → is_among others t ≡ true → is_among (names ++ others) t ≡ true
among_more [] others t h = h
among_more (n ∷ names) others t h = ap (λ b. bytes_eq n t || b) (among_more names others t h) ∙ or_true (bytes_eq n t)
  where
    or_true : (b : Bool) → (b || true) ≡ true
    or_true true = refl
    or_true false = refl

among_first : (t : List ℕ) (names : List (List ℕ)) → is_among (t ∷ names) t ≡ true
among_first t names = ap (λ b. b || is_among names t) ((bytes_eq-Decides t t).1 refl)

-- two texts are paths of two cells
other_place : (cells : List CellData) (s t : List ℕ) (p q : ℕ × CellData) → HasPath cells s p → HasPath cells t q → s ≢ t → p.0 ≢ q.0
other_place cells s t p q h k apart e =
    let one : Some p.1 ≡ Some q.1 = sym h.there ∙ ap (slice_get cells) e ∙ k.there in
    let cell : p.1 ≡ q.1 = cc in
    apart (sym (same_text p.1.path s h.named) ∙ ap (λ (c : CellData). c.path) cell ∙ same_text q.1.path t k.named)

-- ---- the lines of one program

module _ (old new : ProgramData) where
  pub cells_behind : (side : Side) (o : Option InputLine) (ls : List InputLine) → cells_of side (before o ls) ≡ cells_of side (before o []) ++ cells_of side ls
  cells_behind side None ls = refl
  cells_behind side (Some l) ls = ap (λ cs. cs ++ cells_of side ls) (sym (append-nil (cell_of side l)))

  -- what a line names of a program: nothing, or one input that no line before names
  pub data NamesOne (side : Side) (above : List LineData) (texts : List (List ℕ)) (cells : List ℕ) : Type 0 where
    nothing : texts ≡ [] → cells ≡ [] → NamesOne side above texts cells
    one : (t : List ℕ) (p : ℕ × CellData) → texts ≡ t ∷ [] → cells ≡ p.0 ∷ [] → HasPath (program_at old new side).cells t p → is_input p.1.part ≡ true
        → is_among (names_in side above) t ≡ false → NamesOne side above texts cells

  of_fresh : (side : Side) (above : List LineData) (n : Named) (texts : List (List ℕ)) (cells : List ℕ) (h : IsFresh (program_at old new side).cells (names_in side above) n)
      → texts ≡ n.text ∷ [] → cells ≡ h.cell.0 ∷ [] → NamesOne side above texts cells
  of_fresh side above n texts cells h e f = one n.text h.cell e f (has_path n.text (program_at old new side).cells h.cell h.found) h.input h.fresh

  both-found : (a b : Option (ℕ × CellData)) (p q : ℕ × CellData) → a ≡ Some p → b ≡ Some q → both_line a b ≡ Some (Both p.1.range p.0 q.0)
  both-found a b p q e f = ap (λ o. both_line o b) e ∙ ap (both_line (Some p)) f

  of_pair : (side : Side) (above : List LineData) (a b : Named) (h : IsFresh old.cells (names_in sides.Old above) a) (k : IsFresh new.cells (names_in sides.New above) b) (place : ℕ)
      → NamesOne side above (named_by side (paired a place b)) (cells_of side (before (input_of old new (paired a place b)) []))
  of_pair sides.Old above a b h k place =
      of_fresh sides.Old above a _ _ h refl (ap (λ o. cells_of sides.Old (before o [])) (both-found _ _ h.cell k.cell h.found k.found))
  of_pair sides.New above a b h k place =
      of_fresh sides.New above b _ _ k refl (ap (λ o. cells_of sides.New (before o [])) (both-found _ _ h.cell k.cell h.found k.found))

  parts_of_pair : (above : List LineData) (a b : Named) → broken_pair old new above a b ≡ [] → (broken_name old new sides.Old above a ≡ []) × (broken_name old new sides.New above b ≡ [])
  parts_of_pair above a b h =
      let alike = are_alike (paired_type old.types new.types) (cell_named a.text old.cells) (cell_named b.text new.cells) in
      let both = or_nothing (broken_name old new sides.Old above a ++ broken_name old new sides.New above b) (unless alike InputsDiffer a.at) h in
      nothing_of_both (broken_name old new sides.Old above a) (broken_name old new sides.New above b) both.0

  of_single_old : (side : Side) (above : List LineData) (at : ℕ) (a : Named) (h : IsFresh old.cells (names_in sides.Old above) a)
      → NamesOne side above (named_by side (single sides.Old at a)) (cells_of side (before (input_of old new (single sides.Old at a)) []))
  of_single_old sides.Old above at a h = of_fresh sides.Old above a _ _ h refl (ap (λ o. cells_of sides.Old (before (single_line sides.Old o) [])) h.found)
  of_single_old sides.New above at a h = nothing refl (ap (λ o. cells_of sides.New (before (single_line sides.Old o) [])) h.found)

  of_single_new : (side : Side) (above : List LineData) (at : ℕ) (a : Named) (h : IsFresh new.cells (names_in sides.New above) a)
      → NamesOne side above (named_by side (single sides.New at a)) (cells_of side (before (input_of old new (single sides.New at a)) []))
  of_single_new sides.Old above at a h = nothing refl (ap (λ o. cells_of sides.Old (before (single_line sides.New o) [])) h.found)
  of_single_new sides.New above at a h = of_fresh sides.New above a _ _ h refl (ap (λ o. cells_of sides.New (before (single_line sides.New o) [])) h.found)

  pub names_one : (side : Side) (above : List LineData) (c : ContentData) → broken_parts old new above c ≡ [] → NamesOne side above (named_by side c) (cells_of side (before (input_of old new c) []))
  names_one side above (setting s value at) h = nothing refl refl
  names_one side above (faults equal at) h = nothing refl refl
  names_one side above (paired a at b) h =
      let parts = parts_of_pair above a b h in
      of_pair side above a b (is_fresh (names_in sides.Old above) old a parts.0) (is_fresh (names_in sides.New above) new b parts.1) at
  names_one side above (single sides.Old at a) h = of_single_old side above at a (is_fresh (names_in sides.Old above) old a h)
  names_one side above (single sides.New at a) h = of_single_new side above at a (is_fresh (names_in sides.New above) new a h)
  names_one side above (clause c e) h = nothing refl refl

  -- ---- no cell twice

  pub behind_line : (end : ℕ) (above ls : List LineData) (l : LineData) → broken_behind old new end above (l ∷ ls) ≡ [] → (broken_parts old new above l.content ≡ []) × (broken_behind old new end (l ∷ above) ls ≡ [])
  behind_line end above ls l h =
      let e = nothing_of_both (broken_line old new above l) (broken_behind old new end (l ∷ above) ls) h in
      ((or_nothing (broken_parts old new above l.content) _ e.0).0, e.1)

  -- a cell that is named already is not that of a line that follows
  apart_line : (side : Side) (above : List LineData) (t : List ℕ) (p : ℕ × CellData) (texts : List (List ℕ)) (cells rest : List ℕ) → HasPath (program_at old new side).cells t p
      → is_among (names_in side above) t ≡ true → NamesOne side above texts cells → All (λ q. p.0 ≢ q) rest → All (λ q. p.0 ≢ q) (cells ++ rest)
  apart_line side above t p texts cells rest path there (nothing e f) h = subst (λ cs. All (λ q. p.0 ≢ q) (cs ++ rest)) (sym f) h
  apart_line side above t p texts cells rest path there (one u q e f other input fresh) h =
      subst (λ cs. All (λ r. p.0 ≢ r) (cs ++ rest)) (sym f)
      (All-cons (λ r. p.0 ≢ r) q.0 rest (other_place (program_at old new side).cells t u p q path other (other_text (names_in side above) t u there fresh)) h)

  apart : (side : Side) (end : ℕ) (above ls : List LineData) (t : List ℕ) (p : ℕ × CellData) → HasPath (program_at old new side).cells t p → is_among (names_in side above) t ≡ true
      → broken_behind old new end above ls ≡ [] → All (λ q. p.0 ≢ q) (cells_of side (inputs_in old new ls))
  apart side end above [] t p path there h = All-nil (λ q. p.0 ≢ q)
  apart side end above (l ∷ ls) t p path there h =
      let e = behind_line end above ls l h in
      let rest = apart side end (l ∷ above) ls t p path (among_more (named_by side l.content) (names_in side above) t there) e.1 in
      subst (All (λ q. p.0 ≢ q)) (sym (cells_behind side (input_of old new l.content) (inputs_in old new ls)))
      (apart_line side above t p (named_by side l.content) _ (cells_of side (inputs_in old new ls)) path there (names_one side above l.content e.0) rest)

  -- a line before lines of distinct cells
  distinct_line : (side : Side) (end : ℕ) (above ls : List LineData) (l : LineData) (texts : List (List ℕ)) (cells : List ℕ) → named_by side l.content ≡ texts
      → NamesOne side above texts cells → broken_behind old new end (l ∷ above) ls ≡ [] → AllPairs (λ p q. p ≢ q) (cells_of side (inputs_in old new ls))
      → AllPairs (λ p q. p ≢ q) (cells ++ cells_of side (inputs_in old new ls))
  distinct_line side end above ls l texts cells named (nothing e f) behind h = subst (λ cs. AllPairs (λ p q. p ≢ q) (cs ++ cells_of side (inputs_in old new ls))) (sym f) h
  distinct_line side end above ls l texts cells named (one t p e f path input fresh) behind h =
      let there : is_among (names_in side (l ∷ above)) t ≡ true = ap (λ ns. is_among (ns ++ names_in side above) t) (named ∙ e) ∙ among_first t (names_in side above) in
      subst (λ cs. AllPairs (λ p q. p ≢ q) (cs ++ cells_of side (inputs_in old new ls))) (sym f)
      (AllPairs-cons (λ p q. p ≢ q) p.0 (cells_of side (inputs_in old new ls)) (apart side end (l ∷ above) ls t p path there behind) h)

  distinct_behind : (side : Side) (end : ℕ) (above ls : List LineData) → broken_behind old new end above ls ≡ [] → AllPairs (λ p q. p ≢ q) (cells_of side (inputs_in old new ls))
  distinct_behind side end above [] h = λ i j d below within. absurd (omega arith)
  distinct_behind side end above (l ∷ ls) h =
      let e = behind_line end above ls l h in
      subst (AllPairs (λ p q. p ≢ q)) (sym (cells_behind side (input_of old new l.content) (inputs_in old new ls)))
      (distinct_line side end above ls l (named_by side l.content) _ refl (names_one side above l.content e.0) e.1 (distinct_behind side end (l ∷ above) ls e.1))

  pub once : (side : Side) (end : ℕ) (ls : List LineData) → broken_lines old new end ls ≡ [] → AllPairs (λ p q. p ≢ q) (cells_of side (inputs_in old new ls))
  once side end ls h = distinct_behind side end [] ls h

  -- ---- alike

  abbrev IfAlike : Option InputLine → Type 0
  IfAlike None = Unit {0}
  IfAlike (Some l) = IsAlike old new l

  pair_alike : (a b : Named) (p q : Option (ℕ × CellData)) → cell_named a.text old.cells ≡ p → cell_named b.text new.cells ≡ q → are_alike (paired_type old.types new.types) p q ≡ true → IfAlike (both_line p q)
  pair_alike a b None q f g h = tt
  pair_alike a b (Some p) None f g h = tt
  pair_alike a b (Some p) (Some q) f g h =
      record {
        of_old = p.1;
        of_new = q.1;
        at_old = (has_path a.text old.cells p f).there;
        at_new = (has_path b.text new.cells q g).there;
        alike = h;
      }

  old_alike : (o : Option (ℕ × CellData)) → IfAlike (single_line sides.Old o)
  old_alike None = tt
  old_alike (Some p) = tt

  new_alike : (o : Option (ℕ × CellData)) → IfAlike (single_line sides.New o)
  new_alike None = tt
  new_alike (Some p) = tt

  input_alike : (above : List LineData) (c : ContentData) → broken_parts old new above c ≡ [] → IfAlike (input_of old new c)
  input_alike above (setting s value at) h = tt
  input_alike above (faults equal at) h = tt
  input_alike above (paired a at b) h =
      let alike = are_alike (paired_type old.types new.types) (cell_named a.text old.cells) (cell_named b.text new.cells) in
      let none = or_nothing (broken_name old new sides.Old above a ++ broken_name old new sides.New above b) (unless alike InputsDiffer a.at) h in
      pair_alike a b _ _ refl refl (holds alike InputsDiffer a.at none.1)
  input_alike above (single sides.Old at a) h = old_alike (cell_named a.text old.cells)
  input_alike above (single sides.New at a) h = new_alike (cell_named a.text new.cells)
  input_alike above (clause c e) h = tt

  before_alike : (o : Option InputLine) (ls : List InputLine) → IfAlike o → All (IsAlike old new) ls → All (IsAlike old new) (before o ls)
  before_alike None ls h rest = rest
  before_alike (Some l) ls h rest = All-cons (IsAlike old new) l ls h rest

  alike_behind : (end : ℕ) (above ls : List LineData) → broken_behind old new end above ls ≡ [] → All (IsAlike old new) (inputs_in old new ls)
  alike_behind end above [] h = All-nil (IsAlike old new)
  alike_behind end above (l ∷ ls) h =
      let e = behind_line end above ls l h in
      before_alike (input_of old new l.content) (inputs_in old new ls) (input_alike above l.content e.0) (alike_behind end (l ∷ above) ls e.1)

  pub all_alike : (end : ℕ) (ls : List LineData) → broken_lines old new end ls ≡ [] → All (IsAlike old new) (inputs_in old new ls)
  all_alike end ls h = alike_behind end [] ls h
