-- Lines that break nothing name inputs alone, and each input.
use Rattle.std.proofs.Common.{◌≡◌, ⊎_elim, inl, inr, ℕ, zero, suc, List, [], ◌∷◌, ◌++◌, Bool, true, false, ◌||◌, Some, refl, sym, ap, subst, ◌∙◌, All, arith}
use Rattle.std.specs.Prelude.{◌⊎◌, slice_get}
use Rattle.std.specs.List.{Contains, list_all}
use Rattle.std.specs.Str.{bytes_eq}
use Rattle.std.proofs.lemmas.Bool.{and_parts}
use Rattle.std.proofs.lemmas.List.Elements.{All-nil, All-cons, Contains-append_right}
use Rattle.std.proofs.lemmas.List.Folds.{list_any-append}
use Rattle.rules.specs.declared.rule.Rule.TheVariants.{InputCount}
use Rattle.program_tree.specs.Cells.{is_input}
use Rattle.program_tree.specs.Tree.{CellData, ProgramData}
use Rattle.scan_model.specs.declared.side.Side.{Side}
use Rattle.scan_model.specs.declared.side.Side.TheVariants as sides
use Rattle.relation_lines.specs.Lines.{LineData}
use Rattle.clause_types.specs.PlacesByPath.{place_by_path}
use Rattle.candidates.specs.ByPath.{is_among}
use Rattle.candidates.proofs.PlacedLemmas.{HasPath}
use Rattle.candidates.specs.Candidates.{before}
use Rattle.relation_file.specs.Inputs.{names_in, named_by, is_listed, all_listed}
use Rattle.relation_file.specs.Broken.{program_at, broken_behind, broken_lines, missing_ranks, missing_inputs}
use Rattle.relation_file.specs.Relations.{input_of, inputs_in}
use Rattle.relation_file.specs.WellFormed.{cells_of, IsInputAt, HasPlaceOf}
use Rattle.relation_file.proofs.BelongsLemmas.{nothing_of_both, holds}
use Rattle.relation_file.proofs.OnceLemmas.{same_text, cells_behind, NamesOne, nothing, one, names_one, behind_line}

or_cases : (a b : Bool) → (a || b) ≡ true → (a ≡ true) ⊎ (b ≡ true)
or_cases true b h = inl refl
or_cases false b h = inr h

each_passes : (test : CellData → Bool) (cs : List CellData) (n : ℕ) (c : CellData) → list_all test cs ≡ true → slice_get cs n ≡ Some c → test c ≡ true
each_passes test [] n c h there = absurd (let e : ⊥ = cc in e)
each_passes test (d ∷ cs) zero c h there = let same : d ≡ c = cc in ap test (sym same) ∙ (and_parts (test d) (list_all test cs) h).0
each_passes test (d ∷ cs) (suc n) c h there = each_passes test cs n c (and_parts (test d) (list_all test cs) h).1 there

input_named : (is_named : List ℕ → Bool) (c : CellData) → is_listed is_named c ≡ true → is_input c.part ≡ true → is_named c.path ≡ true
input_named is_named c h input = let k : is_named c.path ≡ true = rw input at h in k

module _ (old new : ProgramData) where
  abbrev cells_at : Side → List CellData
  cells_at side = (program_at old new side).cells

  -- ---- inputs alone

  input_at : (cs : List CellData) (t : List ℕ) (p : ℕ × CellData) → HasPath cs t p → is_input p.1.part ≡ true → IsInputAt cs p.0
  input_at cs t p h input = record { cell = p.1; there = h.there; input = input }

  inputs_line : (side : Side) (above : List LineData) (texts : List (List ℕ)) (cells rest : List ℕ) → NamesOne old new side above texts cells → All (IsInputAt (cells_at side)) rest → All (IsInputAt (cells_at side)) (cells ++ rest)
  inputs_line side above texts cells rest (nothing e f) h = subst (λ cs. All (IsInputAt (cells_at side)) (cs ++ rest)) (sym f) h
  inputs_line side above texts cells rest (one t p e f path input fresh) h =
      subst (λ cs. All (IsInputAt (cells_at side)) (cs ++ rest)) (sym f) (All-cons (IsInputAt (cells_at side)) p.0 rest (input_at (cells_at side) t p path input) h)

  inputs_behind : (side : Side) (end : ℕ) (above ls : List LineData) → broken_behind old new end above ls ≡ [] → All (IsInputAt (cells_at side)) (cells_of side (inputs_in old new ls))
  inputs_behind side end above [] h = All-nil (IsInputAt (cells_at side))
  inputs_behind side end above (l ∷ ls) h =
      let e = behind_line old new end above ls l h in
      subst (All (IsInputAt (cells_at side))) (sym (cells_behind old new side (input_of old new l.content) (inputs_in old new ls)))
      (inputs_line side above (named_by side l.content) _ (cells_of side (inputs_in old new ls)) (names_one old new side above l.content e.0) (inputs_behind side end (l ∷ above) ls e.1))

  pub only_inputs : (side : Side) (end : ℕ) (ls : List LineData) → broken_lines old new end ls ≡ [] → All (IsInputAt (cells_at side)) (cells_of side (inputs_in old new ls))
  only_inputs side end ls h = inputs_behind side end [] ls h

  -- ---- each input

  all_named : (side : Side) (end : ℕ) (above : List LineData) → missing_inputs old new end above ≡ [] → all_listed (is_among (names_in side above)) (cells_at side) ≡ true
  all_named sides.Old end above h = (and_parts (all_listed (is_among (names_in sides.Old above)) old.cells) (all_listed (is_among (names_in sides.New above)) new.cells) (holds _ InputCount end h)).0
  all_named sides.New end above h = (and_parts (all_listed (is_among (names_in sides.Old above)) old.cells) (all_listed (is_among (names_in sides.New above)) new.cells) (holds _ InputCount end h)).1

  -- a text that a line has is the path of the cell that the line names
  place_in_line : (side : Side) (above : List LineData) (texts : List (List ℕ)) (cells rest : List ℕ) (t : List ℕ) → NamesOne old new side above texts cells → is_among texts t ≡ true → HasPlaceOf (cells_at side) (cells ++ rest) t
  place_in_line side above texts cells rest t (nothing e f) there = absurd (let none : false ≡ true = sym (ap (λ ns. is_among ns t) e) ∙ there in let h : ⊥ = cc in h)
  place_in_line side above texts cells rest t (one u p e f path input fresh) there =
      let named : (bytes_eq u t || false) ≡ true = sym (ap (λ ns. is_among ns t) e) ∙ there in
      let same : u ≡ t = ⊎_elim (λ is. same_text u t is) (λ none. absurd (let h : ⊥ = cc in h)) (or_cases (bytes_eq u t) false named) in
      record {
        place = p.0;
        first = ap (λ s. place_by_path s (cells_at side)) (sym same) ∙ path.first;
        listed = subst (λ cs. Contains (cs ++ rest) p.0) (sym f) (0, omega arith, refl);
      }

  place_later : (cs : List CellData) (front rest : List ℕ) (t : List ℕ) → HasPlaceOf cs rest t → HasPlaceOf cs (front ++ rest) t
  place_later cs front rest t h = record { place = h.place; first = h.first; listed = Contains-append_right front rest h.place h.listed }

  abbrev IsNamedOrListed : Side → List LineData → List LineData → List ℕ → Type 0
  IsNamedOrListed side above ls t = (is_among (names_in side above) t ≡ true) ⊎ HasPlaceOf (cells_at side) (cells_of side (inputs_in old new ls)) t

  -- an input that is named by a line and those above it, or stands in those behind it
  named_or_listed : (side : Side) (above ls : List LineData) (l : LineData) (t : List ℕ) → NamesOne old new side above (named_by side l.content) (cells_of side (before (input_of old new l.content) []))
      → IsNamedOrListed side (l ∷ above) ls t → IsNamedOrListed side above (l ∷ ls) t
  named_or_listed side above ls l t line known =
      let rest = cells_of side (inputs_in old new ls) in
      let whole = sym (cells_behind old new side (input_of old new l.content) (inputs_in old new ls)) in
      let named = list_any-append (λ n. bytes_eq n t) (named_by side l.content) (names_in side above) in
      ⊎_elim
      (λ some.
      ⊎_elim (λ here. inr (subst (λ ps. HasPlaceOf (cells_at side) ps t) whole (place_in_line side above (named_by side l.content) _ rest t line here))) (λ earlier. inl earlier)
      (or_cases (is_among (named_by side l.content) t) (is_among (names_in side above) t) (sym named ∙ some)))
      (λ later. inr (subst (λ ps. HasPlaceOf (cells_at side) ps t) whole (place_later (cells_at side) _ rest t later)))
      known

  input_behind : (side : Side) (end : ℕ) (above ls : List LineData) → broken_behind old new end above ls ≡ [] → (place : ℕ) (c : CellData) → slice_get (cells_at side) place ≡ Some c → is_input c.part ≡ true
      → IsNamedOrListed side above ls c.path
  input_behind side end above [] h place c there input =
      let missing = nothing_of_both (missing_ranks old new end above) (missing_inputs old new end above) h in
      let is_named = is_among (names_in side above) in
      inl (input_named is_named c (each_passes (is_listed is_named) (cells_at side) place c (all_named side end above missing.1) there) input)
  input_behind side end above (l ∷ ls) h place c there input =
      let e = behind_line old new end above ls l h in
      named_or_listed side above ls l c.path (names_one old new side above l.content e.0) (input_behind side end (l ∷ above) ls e.1 place c there input)

  pub every_input : (side : Side) (end : ℕ) (ls : List LineData) → broken_lines old new end ls ≡ [] → (place : ℕ) (c : CellData) → slice_get (cells_at side) place ≡ Some c → is_input c.part ≡ true
      → HasPlaceOf (cells_at side) (cells_of side (inputs_in old new ls)) c.path
  every_input side end ls h place c there input = ⊎_elim (λ none. absurd (let e : ⊥ = cc in e)) (λ listed. listed) (input_behind side end [] ls h place c there input)
