-- Where no two cells have one path, the cell of a path is the only one, and is found.
use Rattle.std.proofs.Common.{◌≡◌, ℕ, zero, suc, ◌+◌, Bool, true, false, if◌then◌else◌, List, [], ◌∷◌, Option, Some, None, option_map, refl, sym, ap, ◌∙◌, arith, subst}
use Rattle.std.specs.Prelude.{codes, pos}
use Rattle.std.specs.List.{AllByRecursion, slice_get}
use Rattle.std.specs.Str.{bytes_eq}
use Rattle.std.proofs.lemmas.Bool.{false≢true}
use Rattle.std.proofs.lemmas.Slice.Eq.{bytes_eq-Decides}
use Rattle.plc_types.specs.declared.data_type.DataType.{DataType}
use Rattle.plc_types.specs.declared.range.Range.{Range}
use Rattle.plc_types.specs.DataTypes.{is_same_type}
use Rattle.plc_types.specs.Enumerations.{value_named}
use Rattle.source_tree.specs.Syntax.{Named, PathData}
use Rattle.program_tree.specs.Tree.{CellData, ProgramData}
use Rattle.scan_model.specs.Pairs.{CandidateData}
use Rattle.scan_model.specs.Candidates.{same_if, same_as}
use Rattle.typing.specs.declared.scope.Place.{Place}
use Rattle.typing.specs.declared.scope.Place.TheVariants as places
use Rattle.typing.specs.declared.scope.Meaning.{Meaning}
use Rattle.typing.specs.Typing.{by_path}
use Rattle.typing.specs.Programs.{or_meaning, joined, cell_meaning, cell_among, value_member, value_among, own_type, pair_means}
use Rattle.candidates.specs.ByPath.{placed, cell_named}
use Rattle.candidates.proofs.PlacedLemmas.{named_at}
use Rattle.found_cells.specs.Clauses.{of_program, in_clause}
use Rattle.found_cells.proofs.Paths.{Apart}
use Rattle.accepted_cells.specs.OnlyCells.{IsOnlyCell}

-- what holds of each cell holds of the one at a place
each_at : (P : CellData → Type 0) (cs : List CellData) (n : ℕ) (d : CellData) → AllByRecursion P cs → slice_get cs n ≡ Some d → P d
each_at P [] n d all is = absurd (let h : ⊥ = cc in h)
each_at P (c ∷ cs) zero d all is = let same : c ≡ d = cc in subst P same all.0
each_at P (c ∷ cs) (suc n) d all is = each_at P cs n d all.1 is

-- the first cell has another path than one behind it
first_differs : (c : CellData) (cs : List CellData) → Apart (c ∷ cs) → (n : ℕ) (d : CellData) → slice_get cs n ≡ Some d → bytes_eq c.path d.path ≡ false
first_differs c cs apart n d is = each_at (λ e. bytes_eq c.path e.path ≡ false) cs n d apart.0 is

differ : (c d : CellData) → bytes_eq c.path d.path ≡ false → c.path ≡ d.path → ⊥
differ c d other same = false≢true (sym other ∙ (bytes_eq-Decides c.path d.path).1 same)

only_place : (cs : List CellData) → Apart cs → (a b : ℕ) (c d : CellData) → slice_get cs a ≡ Some c → slice_get cs b ≡ Some d → c.path ≡ d.path → a ≡ b
only_place [] apart a b c d at to same = absurd (let h : ⊥ = cc in h)
only_place (x ∷ cs) apart zero zero c d at to same = refl
only_place (x ∷ cs) apart zero (suc b) c d at to same =
    let first : x ≡ c = cc in
    absurd (differ x d (first_differs x cs apart b d to) (ap (λ (e : CellData). e.path) first ∙ same))
only_place (x ∷ cs) apart (suc a) zero c d at to same =
    let first : x ≡ d = cc in
    absurd (differ x c (first_differs x cs apart a c at) (ap (λ (e : CellData). e.path) first ∙ sym same))
only_place (x ∷ cs) apart (suc a) (suc b) c d at to same = let rest = only_place cs apart.1 a b c d at to same in omega (arith, rest)

-- ---- the look-up by path

module _ (path : List ℕ) where
  meant_here : (start : ℕ) (c : CellData) (cs : List CellData) → c.path ≡ path → cell_among own_type path start (c ∷ cs) ≡ Some (cell_meaning own_type start c)
  meant_here start c cs is = let test : bytes_eq c.path path ≡ true = (bytes_eq-Decides c.path path).1 is in rw test refl

  meant_later : (start : ℕ) (c : CellData) (cs : List CellData) → bytes_eq c.path path ≡ false → cell_among own_type path start (c ∷ cs) ≡ cell_among own_type path (start + 1) cs
  meant_later start c cs test = rw test refl

  first_meant : (start : ℕ) (cs : List CellData) → Apart cs → (n : ℕ) (d : CellData) → slice_get cs n ≡ Some d → d.path ≡ path → cell_among own_type path start cs ≡ Some (cell_meaning own_type (start + n) d)
  first_meant start [] apart n d is named = absurd (let h : ⊥ = cc in h)
  first_meant start (c ∷ cs) apart zero d is named =
      let same : c ≡ d = cc in
      let place : start ≡ start + 0 = omega arith in
      meant_here start c cs (ap (λ (e : CellData). e.path) same ∙ named) ∙ ap (λ (e : CellData). Some (cell_meaning own_type start e)) same ∙ ap (λ (s : ℕ). Some (cell_meaning own_type s d)) place
  first_meant start (c ∷ cs) apart (suc n) d is named =
      let other : bytes_eq c.path path ≡ false = subst (λ (l : List ℕ). bytes_eq c.path l ≡ false) named (first_differs c cs apart n d is) in
      let place : start + 1 + n ≡ start + suc n = omega arith in
      meant_later start c cs other ∙ first_meant (start + 1) cs apart.1 n d is named ∙ ap (λ (s : ℕ). Some (cell_meaning own_type s d)) place

  first_named : (cs : List CellData) → Apart cs → (n : ℕ) (d : CellData) → slice_get cs n ≡ Some d → d.path ≡ path → cell_named path cs ≡ Some (placed n d)
  first_named cs apart n d is named =
      let place : 0 + n ≡ n = omega arith in
      named_at path cs n d (first_meant 0 cs apart n d is named ∙ ap (λ (s : ℕ). Some (cell_meaning own_type s d)) place) is

pub only_cell : (cells : List CellData) → Apart cells → (place : ℕ) (cell : CellData) (path : List ℕ) (kind : DataType) (range : Range) → slice_get cells place ≡ Some cell → cell.path ≡ path → cell.kind ≡ kind
    → cell.range ≡ range → IsOnlyCell cells place path kind range
only_cell cells apart place cell path kind range there named typed ranged =
    record {
      cell = cell;
      there = there;
      named = named;
      typed = typed;
      ranged = ranged;
      found = first_named path cells apart place cell there named;
      only = λ other c at is. only_place cells apart other place c cell at there (is ∙ sym named);
    }

-- ---- `SAME P`

module _ (pair_type : DataType → DataType) (c : CellData) (place : ℕ) where
  abbrev compared : ℕ → CellData → List CandidateData
  compared behind d = same_if c place behind (is_same_type c.kind (pair_type d.kind))

  same_here : (behind : ℕ) (d : CellData) (ds : List CellData) → d.path ≡ c.path → same_as pair_type c place behind (d ∷ ds) ≡ compared behind d
  same_here behind d ds is = let test : bytes_eq d.path c.path ≡ true = (bytes_eq-Decides d.path c.path).1 is in rw test refl

  same_later : (behind : ℕ) (d : CellData) (ds : List CellData) → bytes_eq d.path c.path ≡ false → same_as pair_type c place behind (d ∷ ds) ≡ same_as pair_type c place (behind + 1) ds
  same_later behind d ds test = rw test refl

  pub first_same : (behind : ℕ) (ds : List CellData) → Apart ds → (j : ℕ) (d : CellData) → slice_get ds j ≡ Some d → d.path ≡ c.path → same_as pair_type c place behind ds ≡ compared (behind + j) d
  first_same behind [] apart j d is named = absurd (let h : ⊥ = cc in h)
  first_same behind (x ∷ ds) apart zero d is named =
      let same : x ≡ d = cc in
      let at : behind ≡ behind + 0 = omega arith in
      same_here behind x ds (ap (λ (e : CellData). e.path) same ∙ named) ∙ ap (λ (e : CellData). compared behind e) same ∙ ap (λ (b : ℕ). compared b d) at
  first_same behind (x ∷ ds) apart (suc j) d is named =
      let other : bytes_eq x.path c.path ≡ false = subst (λ (l : List ℕ). bytes_eq x.path l ≡ false) named (first_differs x ds apart j d is) in
      let at : behind + 1 + j ≡ behind + suc j = omega arith in
      same_later behind x ds other ∙ first_same (behind + 1) ds apart.1 j d is named ∙ ap (λ (b : ℕ). compared b d) at

-- ---- what clauses find

-- what is found by a path is a cell of that path
record IsFoundAt (paired : DataType → DataType) (path : List ℕ) (start : ℕ) (cs : List CellData) (m : Meaning) : Type 0 where
  place : ℕ
  cell : CellData
  there : slice_get cs place ≡ Some cell
  named : cell.path ≡ path
  is : m ≡ cell_meaning paired (start + place) cell

module _ (paired : DataType → DataType) (path : List ℕ) (m : Meaning) where
  found_by : (b : Bool) (start : ℕ) (c : CellData) (cs : List CellData) → bytes_eq c.path path ≡ b
      → (let o : Option Meaning = if b then Some (cell_meaning paired start c) else cell_among paired path (start + 1) cs in o) ≡ Some m
      → (cell_among paired path (start + 1) cs ≡ Some m → IsFoundAt paired path (start + 1) cs m) → IsFoundAt paired path start (c ∷ cs) m
  found_by true start c cs test found more =
      let alone : (let o : Option Meaning = Some (cell_meaning paired start c) in o) ≡ Some m = found in
      let same : cell_meaning paired start c ≡ m = cc in
      let at : start ≡ start + 0 = omega arith in
      record { place = 0; cell = c; there = refl; named = (bytes_eq-Decides c.path path).0 test; is = sym same ∙ ap (λ (s : ℕ). cell_meaning paired s c) at }
  found_by false start c cs test found more =
      let rest = more found in
      let at : start + 1 + rest.place ≡ start + suc rest.place = omega arith in
      record { place = suc rest.place; cell = rest.cell; there = rest.there; named = rest.named; is = rest.is ∙ ap (λ (s : ℕ). cell_meaning paired s rest.cell) at }

  found_at : (start : ℕ) (cs : List CellData) → cell_among paired path start cs ≡ Some m → IsFoundAt paired path start cs m
  found_at start [] found = absurd (let h : ⊥ = cc in h)
  found_at start (c ∷ cs) found = found_by (bytes_eq c.path path) start c cs refl found (found_at (start + 1) cs)

-- a value stands in no cell
no_value : (paired : DataType → DataType) (o : Option (ℕ × ℕ)) (m : Meaning) (c : ℕ) → m.place ≡ places.Cell c → option_map (value_member paired) o ≡ Some m → ⊥
no_value paired None m c at is = let h : ⊥ = cc in h
no_value paired (Some v) m c at is =
    let alone : (let o : Option Meaning = Some (value_member paired v) in o) ≡ Some m = is in
    let same : value_member paired v ≡ m = cc in
    let place : (let x : Place = places.Value (pos v.1) in x) ≡ places.Cell c = ap (λ (x : Meaning). x.place) same ∙ at in
    let h : ⊥ = cc in h

no_value_among : (paired : DataType → DataType) (ns : List Named) (types : List (List (List ℕ))) (m : Meaning) (c : ℕ) → m.place ≡ places.Cell c → value_among paired ns types ≡ Some m → ⊥
no_value_among paired [] types m c at is = let h : ⊥ = cc in h
no_value_among paired (n ∷ []) types m c at is = no_value paired (value_named n.text 0 types) m c at is
no_value_among paired (n ∷ k ∷ ns) types m c at is = let h : ⊥ = cc in h

first_or : (o v : Option Meaning) (m : Meaning) → or_meaning o v ≡ Some m → (v ≡ Some m → ⊥) → o ≡ Some m
first_or (Some x) v m is none = is
first_or None v m is none = absurd (none is)

abbrev pub old_word : Named
old_word = record { text = codes "OLD"; at = 0 }

-- the cell that a clause means by `old.path` is the only one of that path
pub only_found : (p new : ProgramData) → Apart p.cells → (q : PathData) (m : Meaning) (c : ℕ) → pair_means p new (by_path (of_program old_word q)) ≡ Some (in_clause own_type c m)
    → IsOnlyCell p.cells c (joined (q.first ∷ q.members)) m.kind m.range
only_found p new apart q m c means =
    let path = joined (q.first ∷ q.members) in
    let values = value_among own_type (q.first ∷ q.members) p.types in
    let meant = in_clause own_type c m in
    let given : or_meaning (cell_among own_type path 0 p.cells) values ≡ Some meant = means in
    let found = first_or (cell_among own_type path 0 p.cells) values meant given (no_value_among own_type (q.first ∷ q.members) p.types meant c refl) in
    let at = found_at own_type path meant 0 p.cells found in
    let place : (let x : Place = places.Cell c in x) ≡ places.Cell (0 + at.place) = ap (λ (x : Meaning). x.place) at.is in
    let same : c ≡ 0 + at.place = cc in
    let here : at.place ≡ c = omega (arith, same) in
    subst (λ (n : ℕ). IsOnlyCell p.cells n path m.kind m.range) here
    (only_cell p.cells apart at.place at.cell path m.kind m.range at.there at.named (sym (ap (λ (x : Meaning). x.kind) at.is)) (sym (ap (λ (x : Meaning). x.range) at.is)))
