-- What is found by a path is a cell.
use Rattle.std.proofs.Common.{◌≡◌, ℕ, suc, ◌+◌, Bool, true, false, List, [], ◌∷◌, Option, Some, None, option_map, refl, sym, ap, subst, ◌∙◌, arith}
use Rattle.std.specs.Prelude.{zero, slice_get, option_and_then}
use Rattle.std.specs.Str.{bytes_eq}
use Rattle.std.proofs.lemmas.Option.{slice_get_within}
use Rattle.program_tree.specs.Tree.{CellData, ProgramData}
use Rattle.meaning.specs.Effects.{range_at}
use Rattle.scan_model.specs.Scans.{ranges_of}
use Rattle.scan_model.specs.Pairs.{IsCellOf}
use Rattle.typing.specs.declared.scope.Meaning.{Meaning}
use Rattle.typing.specs.Programs.{own_type, cell_meaning, cell_among}
use Rattle.clause_types.specs.PlacesByPath.{cell_at, place_of, place_by_path}
use Rattle.candidates.specs.ByPath.{placed, placed_at, cell_named}

-- what a path means among cells that begin at a place is a cell of that path
pub record IsMeant (text : List ℕ) (start : ℕ) (cs : List CellData) (m : Meaning) : Type 0 where
  pub index : ℕ
  pub cell : CellData
  pub there : slice_get cs index ≡ Some cell
  pub named : bytes_eq cell.path text ≡ true
  pub is : m ≡ cell_meaning own_type (start + index) cell

meant_first : (text : List ℕ) (start : ℕ) (c : CellData) (cs : List CellData) (m : Meaning) → bytes_eq c.path text ≡ true → cell_meaning own_type start c ≡ m → IsMeant text start (c ∷ cs) m
meant_first text start c cs m named e =
    let at : start ≡ start + 0 = omega arith in
    record { index = 0; cell = c; there = refl; named = named; is = sym e ∙ ap (λ n. cell_meaning own_type n c) at }

meant_later : (text : List ℕ) (start : ℕ) (c : CellData) (cs : List CellData) (m : Meaning) → IsMeant text (start + 1) cs m → IsMeant text start (c ∷ cs) m
meant_later text start c cs m h =
    let at : start + 1 + h.index ≡ start + suc h.index = omega arith in
    record { index = suc h.index; cell = h.cell; there = h.there; named = h.named; is = h.is ∙ ap (λ n. cell_meaning own_type n h.cell) at }

pub is_meant : (text : List ℕ) (start : ℕ) (cs : List CellData) (m : Meaning) → cell_among own_type text start cs ≡ Some m → IsMeant text start cs m
is_meant text start [] m h = absurd (let e : ⊥ = cc in e)
is_meant text start (c ∷ cs) m h = by (bytes_eq c.path text) refl (is_meant text (start + 1) cs m)
  where
    by : (b : Bool) → bytes_eq c.path text ≡ b → (cell_among own_type text (start + 1) cs ≡ Some m → IsMeant text (start + 1) cs m) → IsMeant text start (c ∷ cs) m
    by true e rest = meant_first text start c cs m e (let f : Some (cell_meaning own_type start c) ≡ Some m = rw e at h in cc)
    by false e rest = meant_later text start c cs m (rest (let f : cell_among own_type text (start + 1) cs ≡ Some m = rw e at h in f))

-- the cell of a path is the one that the path means
pub named_none : (text : List ℕ) (cs : List CellData) → cell_among own_type text 0 cs ≡ None → cell_named text cs ≡ None
named_none text cs h = ap (λ o. option_and_then (placed_at cs) (place_of o)) h

pub named_at : (text : List ℕ) (cs : List CellData) (place : ℕ) (c : CellData) → cell_among own_type text 0 cs ≡ Some (cell_meaning own_type place c) → slice_get cs place ≡ Some c → cell_named text cs ≡ Some (placed place c)
named_at text cs place c found there = ap (λ o. option_and_then (placed_at cs) (place_of o)) found ∙ ap (option_map (placed place)) there

pub named_meant : (text : List ℕ) (cs : List CellData) (m : Meaning) → cell_among own_type text 0 cs ≡ Some m → (h : IsMeant text 0 cs m) → cell_named text cs ≡ Some (placed h.index h.cell)
named_meant text cs m found h =
    let at : 0 + h.index ≡ h.index = omega arith in
    named_at text cs h.index h.cell (found ∙ ap (λ (x : Meaning). Some x) (h.is ∙ ap (λ n. cell_meaning own_type n h.cell) at)) h.there

-- what is found is the first cell of the path
pub record HasPath (cs : List CellData) (text : List ℕ) (p : ℕ × CellData) : Type 0 where
  pub there : slice_get cs p.0 ≡ Some p.1
  pub named : bytes_eq p.1.path text ≡ true
  pub first : place_by_path text cs ≡ Some p.0

path_meant : (text : List ℕ) (cs : List CellData) (m : Meaning) → cell_among own_type text 0 cs ≡ Some m → (h : IsMeant text 0 cs m) → HasPath cs text (placed h.index h.cell)
path_meant text cs m found h =
    let at : 0 + h.index ≡ h.index = omega arith in
    record { there = h.there; named = h.named; first = ap place_of found ∙ ap (λ (x : Meaning). cell_at x.place) h.is ∙ ap (λ n. Some n) at }

pub has_path : (text : List ℕ) (cs : List CellData) (p : ℕ × CellData) → cell_named text cs ≡ Some p → HasPath cs text p
has_path text cs p h = by (cell_among own_type text 0 cs) refl
  where
    by : (o : Option Meaning) → cell_among own_type text 0 cs ≡ o → HasPath cs text p
    by None e = absurd (let f : None ≡ Some p = sym (named_none text cs e) ∙ h in let none : ⊥ = cc in none)
    by (Some m) e =
        let f = is_meant text 0 cs m e in
        let found : Some (placed f.index f.cell) ≡ Some p = sym (named_meant text cs m e f) ∙ h in
        let same : placed f.index f.cell ≡ p = cc in
        subst (HasPath cs text) same (path_meant text cs m e f)

range_there : (cs : List CellData) (place : ℕ) (c : CellData) → slice_get cs place ≡ Some c → range_at (ranges_of cs) place ≡ c.range
range_there [] place c h = absurd (let e : ⊥ = cc in e)
range_there (d ∷ cs) zero c h = let same : d ≡ c = cc in ap (λ (x : CellData). x.range) same
range_there (d ∷ cs) (suc place) c h = range_there cs place c h

pub is_cell : (program : ProgramData) (text : List ℕ) (p : ℕ × CellData) → cell_named text program.cells ≡ Some p → IsCellOf program p.0 p.1.range
is_cell program text p h =
    let q = has_path text program.cells p h in
    (slice_get_within program.cells p.0 p.1 q.there, range_there program.cells p.0 p.1 q.there)
