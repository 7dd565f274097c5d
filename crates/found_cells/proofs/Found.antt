-- Where no two cells have one path, the cell that is found by a path is the one that has it.
use Rattle.std.proofs.Common.{◌≡◌, ℕ, zero, suc, ◌+◌, true, false, List, [], ◌∷◌, Some, refl, ap, ◌∙◌, arith, subst}
use Rattle.std.specs.List.{AllByRecursion, slice_get}
use Rattle.std.specs.Str.{bytes_eq}
use Rattle.std.proofs.lemmas.Slice.Eq.{bytes_eq-Decides}
use Rattle.plc_types.specs.declared.data_type.DataType.{DataType}
use Rattle.plc_types.specs.declared.range.Range.{Range}
use Rattle.source_tree.specs.Syntax.{program, PouData, FileData}
use Rattle.program_tree.specs.Tree.{CellData}
use Rattle.naming.specs.FileScope.{pou_at}
use Rattle.typing.specs.declared.scope.Place.TheVariants as places
use Rattle.typing.specs.declared.scope.Meaning.{Meaning}
use Rattle.typing.specs.declared.member.Member.{Member}
use Rattle.typing.specs.Programs.{cell_meaning, cell_among}
use Rattle.typing.specs.TypedPrograms.{typed_program}
use Rattle.cell_paths.specs.typed_cells.Premises.{UsesItsBlocks, IsOrdered}
use Rattle.cell_paths.specs.Paths.{StandsFor, paths_behind}
use Rattle.found_cells.specs.Names.{AreNamedOnce, HaveNoPoints}
use Rattle.found_cells.specs.Clauses.{in_clause}
use Rattle.cell_paths.proofs.Cells.{paths_stand}
use Rattle.found_cells.proofs.Paths.{Apart, program_apart, each_once}

at_place : (P : CellData → Type 0) (cs : List CellData) (n : ℕ) (d : CellData) → AllByRecursion P cs → slice_get cs n ≡ Some d → P d
at_place P [] n d all is = absurd (let h : ⊥ = cc in h)
at_place P (c ∷ cs) zero d all is = let same : c ≡ d = cc in subst P same all.0
at_place P (c ∷ cs) (suc n) d all is = at_place P cs n d all.1 is

module _ (paired : DataType → DataType) (path : List ℕ) where
  found_here : (start : ℕ) (c : CellData) (cs : List CellData) → c.path ≡ path → cell_among paired path start (c ∷ cs) ≡ Some (cell_meaning paired start c)
  found_here start c cs is = let test : bytes_eq c.path path ≡ true = (bytes_eq-Decides c.path path).1 is in rw test refl

  found_later : (start : ℕ) (c : CellData) (cs : List CellData) → bytes_eq c.path path ≡ false → cell_among paired path start (c ∷ cs) ≡ cell_among paired path (start + 1) cs
  found_later start c cs test = rw test refl

  pub found : (start : ℕ) (cs : List CellData) → Apart cs → (n : ℕ) (d : CellData) → slice_get cs n ≡ Some d → d.path ≡ path → cell_among paired path start cs ≡ Some (cell_meaning paired (start + n) d)
  found start [] apart n d is named = absurd (let h : ⊥ = cc in h)
  found start (c ∷ cs) apart zero d is named =
      let same : c ≡ d = cc in
      let place : start ≡ start + 0 = omega arith in
      found_here start c cs (ap (λ (e : CellData). e.path) same ∙ named) ∙ ap (λ (e : CellData). Some (cell_meaning paired start e)) same ∙ ap (λ (s : ℕ). Some (cell_meaning paired s d)) place
  found start (c ∷ cs) apart (suc n) d is named =
      let other : bytes_eq c.path path ≡ false = subst (λ (l : List ℕ). bytes_eq c.path l ≡ false) named (at_place (λ e. bytes_eq c.path e.path ≡ false) cs n d apart.0 is) in
      let place : start + 1 + n ≡ start + suc n = omega arith in
      found_later start c cs other ∙ found (start + 1) cs apart.1 n d is named ∙ ap (λ (s : ℕ). Some (cell_meaning paired s d)) place

  meaning_of_cell : (place : ℕ) (d : CellData) (m : Meaning) → d.kind ≡ m.kind → d.range ≡ m.range → cell_meaning paired place d ≡ in_clause paired place m
  meaning_of_cell place d m kind range =
      ap (λ (t : DataType). let x : Meaning = record { place = places.Cell place; kind = paired t; range = d.range; whole = true; assignable = false; control = false } in x) kind
      ∙ ap (λ (r : Range). let x : Meaning = record { place = places.Cell place; kind = paired m.kind; range = r; whole = true; assignable = false; control = false } in x) range

pub cells_found : (f : FileData) → UsesItsBlocks f → IsOrdered f → AreNamedOnce f → HaveNoPoints f → (k : ℕ) (p : PouData) → pou_at f k ≡ Some p → p.pou_type ≡ program
    → (path : List ℕ) (place : ℕ) (m : Member) → StandsFor f k path place m → (n : ℕ) (q : List ℕ) → slice_get (paths_behind path m) n ≡ Some q
    → (paired : DataType → DataType) (start : ℕ) → cell_among paired q start (typed_program f k p).cells ≡ Some (in_clause paired (start + (place + n)) m.meaning)
cells_found f used ordered once no_points k p there as_program path place m leads n q is_q paired start =
    let at = paths_stand f used ordered k p there as_program path place m leads n q is_q in
    let apart = program_apart f (each_once f once) no_points k p there as_program (once k p there) in
    found paired q start (typed_program f k p).cells apart (place + n) at.cell at.there at.named
    ∙ ap (λ (x : Meaning). Some x) (meaning_of_cell paired q (start + (place + n)) at.cell m.meaning at.typed at.ranged)
