-- What names behind `old` or `new` stand for fits the cells of the pair, and is whole.
use Rattle.std.proofs.Common.{◌≡◌, ◌<◌, ◌+◌, ℕ, suc, ℤ, pos, Bool, true, false, List, [], ◌∷◌, length, map, Option, Some, None, option_map, refl, sym, ap, subst, arith, if◌then◌else◌}
use Rattle.std.specs.Prelude.{not}
use Rattle.std.specs.List.{AllByRecursion}
use Rattle.std.specs.Str.{bytes_eq}
use Rattle.std.proofs.lemmas.Bool.{false≢true}
use Rattle.plc_types.specs.declared.data_type.DataType.{DataType}
use Rattle.plc_types.specs.declared.data_type.DataType.TheVariants as kinds
use Rattle.plc_types.specs.declared.range.Range.{Range}
use Rattle.plc_types.specs.Types.{in_range}
use Rattle.plc_types.specs.Enumerations.{place_of_name, or_in_later, value_named, names_at}
use Rattle.plc_types.proofs.TypeRanges.{value_in}
use Rattle.source_tree.specs.Syntax.{Named}
use Rattle.program_tree.specs.Tree.{CellData, ProgramData}
use Rattle.program_tree.specs.declared.scratch.Scratch.{Scratch}
use Rattle.program_tree.specs.Places.{of_cell, place_at}
use Rattle.typing.specs.declared.scope.Meaning.{Meaning}
use Rattle.typing.specs.Typing.{is_unknown}
use Rattle.typing.specs.Programs.{or_meaning, joined, cell_meaning, cell_among, value_member, value_among, member_of}
use Rattle.typed_programs.specs.Scopes.{BodyScope}
use Rattle.stated_cells.specs.typed_scopes.Types.{IsPlaceOf}
use Rattle.stated_cells.specs.typed_scopes.Fitting.{MeaningFits}
use Rattle.stated_cells.proofs.typed_cells.Occurrences.{Occurs, occurs_first, occurs_right, occurs_within}
use Rattle.stated_cells.specs.whole_files.WholeScopes.{is_whole_meaning}
use Rattle.stated_cells.specs.StatedCells.{last_number, last_of, has_values, IsOfTypes, IsStatedCell, HasStatedCells}
use Rattle.typed_relations.proofs.PairTypes.{IsPaired, placed_too}

-- the cells of a pair are read, and nothing is set or called
abbrev pub over : List Scratch → BodyScope
over places = record { first = 0; places = places; settable = 0; pous = 0 }

pub record Fits (places : List Scratch) (last : ℕ → ℤ) (m : Meaning) : Type 0 where
  pub fits : MeaningFits (over places) last m
  pub whole : is_whole_meaning (Some m) ≡ true

-- a name is that of a type that is known
known_whole : (t : DataType) → is_unknown t ≡ false → not (is_unknown t) ≡ true
known_whole t known = rw known refl

-- the first of two that is found
cell_by : (P : Meaning → Type 0) (b : Bool) (x : Meaning) (rest : Option Meaning) (m : Meaning) → (if b then Some x else rest) ≡ Some m → P x → (rest ≡ Some m → P m) → P m
cell_by P true x rest m h here later = let e : x ≡ m = cc in subst (λ (y : Meaning). P y) e here
cell_by P false x rest m h here later = later h

-- ---- values

below_by : (b : Bool) (place k size : ℕ) (later : Option ℕ) → (if b then Some place else later) ≡ Some k → (later ≡ Some k → k < place + 1 + size) → k < place + suc size
below_by true place k size later h rest = let same : place ≡ k = cc in omega (arith, same)
below_by false place k size later h rest = let low = rest h in omega (arith, low)

place_below : (text : List ℕ) (place : ℕ) (ns : List (List ℕ)) (k : ℕ) → place_of_name text place ns ≡ Some k → k < place + length ns
place_below text place [] k h = absurd (let n : ⊥ = cc in n)
place_below text place (n ∷ ns) k h = below_by (bytes_eq n text) place k (length ns) (place_of_name text (place + 1) ns) h (place_below text (place + 1) ns k)

record IsValue (all : List (List (List ℕ))) (number : ℕ) (v : ℕ × ℕ) : Type 0 where
  kind : ℕ
  is : v.0 ≡ number + kind
  below : v.1 < length (names_at all kind)

first_by : (ns : List (List ℕ)) (rest : List (List (List ℕ))) (number : ℕ) (v : ℕ × ℕ) (o : Option ℕ) (later : Option (ℕ × ℕ)) → ((k : ℕ) → o ≡ Some k → k < length ns) → or_in_later o number later ≡ Some v
    → (later ≡ Some v → IsValue rest (number + 1) v) → IsValue (ns ∷ rest) number v
first_by ns rest number v (Some k) later low h others =
    let e : (let x : ℕ × ℕ = (number, k) in x) ≡ v = cc in
    let a : number ≡ v.0 = ap (λ (x : ℕ × ℕ). x.0) e in
    let b : k ≡ v.1 = ap (λ (x : ℕ × ℕ). x.1) e in
    let c = low k refl in
    record { kind = 0; is = omega (arith, a); below = omega (arith, b, c) }
first_by ns rest number v None later low h others = let r = others h in let e = r.is in record { kind = suc r.kind; is = omega (arith, e); below = r.below }

value_there : (text : List ℕ) (number : ℕ) (all : List (List (List ℕ))) (v : ℕ × ℕ) → value_named text number all ≡ Some v → IsValue all number v
value_there text number [] v h = absurd (let n : ⊥ = cc in n)
value_there text number (ns ∷ rest) v h =
    first_by ns rest number v (place_of_name text 0 ns) (value_named text (number + 1) rest) (λ k is. let low = place_below text 0 ns k is in omega (arith, low)) h (value_there text (number + 1) rest v)

inside : (ns : List (List ℕ)) (k : ℕ) → k < length ns → in_range (pos k) (record { low = pos 0; high = last_number ns }) ≡ true
inside [] k low = absurd (omega (arith, low))
inside (n ∷ ns) k low = value_in k (length ns) (omega (arith, low))

some_values : (ns : List (List ℕ)) (k : ℕ) → k < length ns → has_values ns ≡ true
some_values [] k low = absurd (omega (arith, low))
some_values (n ∷ ns) k low = refl

-- ---- one program of a pair

module _ (places : List Scratch) (last : ℕ → ℤ) (paired : DataType → DataType) (p : ProgramData) (stated : HasStatedCells p) (each : (t : DataType) → IsOfTypes p.types t → IsPaired (last_of p.types) last t (paired t)) where
  value_fits : (v : ℕ × ℕ) → v.1 < length (names_at p.types v.0) → Fits places last (value_member paired v)
  value_fits v low =
      let pair = each (kinds.Enumeration v.0) (some_values (names_at p.types v.0) v.1 low) in
      record {
        fits = λ whole known.
            (pair.known (stated.few v.0), subst (λ (r : Range). in_range (pos v.1) r ≡ true) (sym pair.range) (inside (names_at p.types v.0) v.1 low), refl);
        whole = known_whole (paired (kinds.Enumeration v.0)) pair.named;
      }

  value_of : (text : List ℕ) (o : Option (ℕ × ℕ)) → value_named text 0 p.types ≡ o → (m : Meaning) → option_map (value_member paired) o ≡ Some m → Fits places last m
  value_of text None is m h = absurd (let n : ⊥ = cc in n)
  value_of text (Some v) is m h =
      let r = value_there text 0 p.types v is in
      let same : r.kind ≡ v.0 = let e = r.is in omega (arith, e) in
      let e : value_member paired v ≡ m = cc in
      subst (λ (x : Meaning). Fits places last x) e (value_fits v (subst (λ (t : ℕ). v.1 < length (names_at p.types t)) same r.below))

  values_fit : (ns : List Named) (m : Meaning) → value_among paired ns p.types ≡ Some m → Fits places last m
  values_fit [] m h = absurd (let n : ⊥ = cc in n)
  values_fit (n ∷ []) m h = value_of n.text (value_named n.text 0 p.types) refl m h
  values_fit (n ∷ k ∷ ns) m h = absurd (let e : ⊥ = cc in e)

  cell_fits : (c : CellData) (cs : List CellData) (place : ℕ) → IsStatedCell p.types c → Occurs (map of_cell (c ∷ cs)) places place → Fits places last (cell_meaning paired place c)
  cell_fits c cs place cell at =
      let pair = each c.kind cell.among in
      let here : place_at places place ≡ of_cell c = occurs_first (of_cell c) (map of_cell cs) places place at in
      let bound = occurs_within (map of_cell (c ∷ cs)) places place at in
      record {
        fits = λ whole known. (
          (omega arith, omega (arith, bound)),
          subst (λ (x : Scratch). IsPlaceOf last (paired c.kind) x) (sym here) (placed_too (last_of p.types) last c.kind (paired c.kind) (of_cell c) pair cell.place),
          ap (λ (x : Scratch). x.range) here,
          λ set. absurd (false≢true set),
        );
        whole = known_whole (paired c.kind) pair.named;
      }

  cells_fit : (text : List ℕ) (cs : List CellData) (place : ℕ) → AllByRecursion (IsStatedCell p.types) cs → Occurs (map of_cell cs) places place → (m : Meaning) → cell_among paired text place cs ≡ Some m → Fits places last m
  cells_fit text [] place all at m h = absurd (let n : ⊥ = cc in n)
  cells_fit text (c ∷ cs) place all at m h =
      cell_by (Fits places last) (bytes_eq c.path text) (cell_meaning paired place c) (cell_among paired text (place + 1) cs) m h (cell_fits c cs place all.0 at)
      (λ later. cells_fit text cs (place + 1) all.1 (occurs_right (of_cell c ∷ []) (map of_cell cs) places place at) m later)

  either_fits : (a b : Option Meaning) (m : Meaning) → or_meaning a b ≡ Some m → (a ≡ Some m → Fits places last m) → (b ≡ Some m → Fits places last m) → Fits places last m
  either_fits (Some x) b m h first second = first h
  either_fits None b m h first second = second h

  pub side_fits : (start : ℕ) → Occurs (map of_cell p.cells) places start → (ns : List Named) (m : Meaning) → member_of paired start p ns ≡ Some m → Fits places last m
  side_fits start at ns m h =
      either_fits (cell_among paired (joined ns) start p.cells) (value_among paired ns p.types) m h (cells_fit (joined ns) p.cells start stated.cells at m) (values_fit ns m)
