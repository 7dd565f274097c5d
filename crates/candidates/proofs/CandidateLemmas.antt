-- Candidates one by one.
use Rattle.std.proofs.Common.{◌≡◌, ℕ, ◌+◌, ◌<◌, ◌^◌, Bool, true, false, List, [], ◌∷◌, ◌++◌, length, option_map, Option, Some, None, refl, sym, ap, ◌∙◌, arith, append_assoc, Bor}
use Rattle.std.specs.Str.{bytes_eq}
use Rattle.std.specs.Prelude.{IfSome}
use Rattle.std.proofs.lemmas.List.{map_push, length-map}
use Rattle.program_tree.specs.declared.typed.Cell.{Cell}
use Rattle.program_tree.specs.declared.typed.Program.{Program}
use Rattle.plc_types.specs.declared.data_type.DataType.{DataType}
use Rattle.plc_types.specs.DataTypes.{is_same_type}
use Rattle.typing.specs.declared.scope.Place.{Place}
use Rattle.typing.specs.declared.scope.Place.TheVariants as places
use Rattle.typing.specs.declared.scope.Meaning.{Meaning}
use Rattle.typing.specs.Programs.{own_type, cell_among}
use Rattle.program_tree.specs.Tree.{CellData}
use Rattle.program_tree.specs.View.{cells_view, program_view}
use Rattle.scan_model.specs.declared.relation.Candidate.{Candidate}
use Rattle.scan_model.specs.Pairs.{CandidateData, candidate_view, candidates_view}
use Rattle.scan_model.specs.Candidates.{same_if, same_as, same_cells}
use Rattle.candidates.specs.ByPath.{cell_named, found_view}
use Rattle.candidates.specs.Candidates.{before, same_found}
use Rattle.candidates.proofs.PlacedLemmas.{is_meant, named_none, named_meant, is_cell}

-- one more candidate, before those that are left
pub pushed : (found more : List Candidate) (c : Candidate) (y : CandidateData) (rest all : List CandidateData) → more ≡ found ++ c ∷ [] → candidate_view c ≡ y
    → candidates_view found ++ y ∷ rest ≡ all → candidates_view more ++ rest ≡ all
pushed found more c y rest all is seen left =
    ap (λ cs. candidates_view cs ++ rest) is ∙ ap (λ ds. ds ++ rest) (map_push candidate_view found c) ∙ append_assoc (candidates_view found) (candidate_view c ∷ []) rest
    ∙ ap (λ d. candidates_view found ++ d ∷ rest) seen ∙ left

-- a scan of the cells of NEW finds the one that the path means
abbrev same_there : (DataType → DataType) → CellData → ℕ → ℕ → DataType → Place → List CandidateData
same_there t c place behind kind (places.Cell other) = same_if c place (behind + other) (is_same_type c.kind (t kind))
same_there t c place behind kind (places.Value value) = []

abbrev same_meant : (DataType → DataType) → CellData → ℕ → ℕ → Option Meaning → List CandidateData
same_meant t c place behind None = []
same_meant t c place behind (Some m) = same_there t c place behind m.kind m.place

same_next : (t : DataType → DataType) (c d : CellData) (place behind n : ℕ) (ds : List CellData) (b : Bool) → bytes_eq d.path c.path ≡ b
    → same_as t c place (behind + n + 1) ds ≡ same_meant t c place behind (cell_among own_type c.path (n + 1) ds)
    → same_as t c place (behind + n) (d ∷ ds) ≡ same_meant t c place behind (cell_among own_type c.path n (d ∷ ds))
same_next t c d place behind n ds true e later = rw e refl
same_next t c d place behind n ds false e later = rw e later

same_as-meant : (t : DataType → DataType) (c : CellData) (place behind n : ℕ) (ds : List CellData) → same_as t c place (behind + n) ds ≡ same_meant t c place behind (cell_among own_type c.path n ds)
same_as-meant t c place behind n [] = refl
same_as-meant t c place behind n (d ∷ ds) =
    let next : behind + n + 1 ≡ behind + (n + 1) = omega arith in
    same_next t c d place behind n ds (bytes_eq d.path c.path) refl (ap (λ k. same_as t c place k ds) next ∙ same_as-meant t c place behind (n + 1) ds)

-- which is the first cell of the path
meant_found : (t : DataType → DataType) (c : CellData) (place behind : ℕ) (new : List CellData) → same_meant t c place behind (cell_among own_type c.path 0 new) ≡ same_found t c place behind (cell_named c.path new)
meant_found t c place behind new = by (cell_among own_type c.path 0 new) refl
  where
    by : (o : Option Meaning) → cell_among own_type c.path 0 new ≡ o → same_meant t c place behind (cell_among own_type c.path 0 new) ≡ same_found t c place behind (cell_named c.path new)
    by None e = ap (same_meant t c place behind) e ∙ sym (ap (same_found t c place behind) (named_none c.path new e))
    by (Some m) e =
        let h = is_meant c.path 0 new m e in
        let at : 0 + h.index ≡ h.index = omega arith in
        ap (same_meant t c place behind) e ∙ ap (λ (x : Meaning). same_there t c place behind x.kind x.place) h.is
        ∙ ap (λ n. same_if c place (behind + n) (is_same_type c.kind (t h.cell.kind))) at ∙ sym (ap (same_found t c place behind) (named_meant c.path new m e h))

-- `SAME P` of one more cell
pub same_more : (t : DataType → DataType) (found more : List Candidate) (same : Option Candidate) (other : Option (ℕ × CellData)) (c : CellData) (place behind : ℕ) (new cs : List CellData) (all : List CandidateData)
    → other ≡ cell_named c.path new
    → ((rest : List CandidateData) → before (option_map candidate_view same) rest ≡ same_found t c place behind other ++ rest)
    → ((rest : List CandidateData) → candidates_view more ++ rest ≡ candidates_view found ++ before (option_map candidate_view same) rest)
    → candidates_view found ++ same_cells t place behind new (c ∷ cs) ≡ all → candidates_view more ++ same_cells t (place + 1) behind new cs ≡ all
same_more t found more same other c place behind new cs all known made added left =
    let rest = same_cells t (place + 1) behind new cs in
    let nothing : behind ≡ behind + 0 = omega arith in
    let is : same_as t c place behind new ≡ same_found t c place behind other =
    ap (λ n. same_as t c place n new) nothing ∙ same_as-meant t c place behind 0 new ∙ meant_found t c place behind new ∙ ap (same_found t c place behind) (sym known)
    in
    added rest ∙ ap (λ ds. candidates_view found ++ ds) (made rest ∙ ap (λ ds. ds ++ rest) (sym is)) ∙ left

-- the cells of NEW have room behind those of OLD
pub length-cells : (cells : List Cell) → length (cells_view cells) ≡ length cells
length-cells cells = simp length-map

pub room_behind : (new : Program) (text : List ℕ) (behind : ℕ) (o : Option (ℕ × Bor Cell)) → found_view o ≡ cell_named text (program_view new).cells → behind + length new.cells.items < 2 ^ 64
    → IfSome o (λ d. behind + d.0 < 2 ^ 64)
room_behind new text behind None is fits = tt
room_behind new text behind (Some d) is fits =
    let within = (is_cell (program_view new) text _ (sym is)).0 in
    omega (arith, within, fits, length-cells new.cells.items)
