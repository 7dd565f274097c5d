-- The flat form of a typed program is typed.
use Rattle.std.proofs.Common.{◌≡◌, ℕ, suc, zero, ◌+◌, ◌<◌, ◌≤◌, false, List, [], ◌∷◌, ◌++◌, length, map, refl, ap, subst, ◌∙◌, pos, arith, length-append, append_assoc}
use Rattle.std.specs.Prelude.{All}
use Rattle.std.proofs.lemmas.List.{length-map}
use Rattle.std.proofs.lemmas.List.Elements.{All-append, All-map, All-weaker}
use Rattle.plc_types.specs.declared.elementary.Elementary.TheVariants as types
use Rattle.plc_types.specs.declared.range.Range.{Range}
use Rattle.plc_types.specs.Types.{range_of, in_range}
use Rattle.program_tree.specs.Tree.{CellData, ProgramData}
use Rattle.program_tree.specs.declared.scratch.Scratch.{Scratch}
use Rattle.program_tree.specs.Places.{whole_cell, of_cell, place_at, IsTypedPlace}
use Rattle.scan_model.specs.InRange.{BeginsWithFault}
use Rattle.flat_core.specs.FlatRules.{IsFlat}
use Rattle.flat_form.specs.Owners.{program_owner}
use Rattle.flat_form.specs.FlatLists.{scratch_of_all}
use Rattle.flat_form.specs.FlatPrograms.{bodies_in, flat_program}
use Rattle.node_core.specs.TypedFlats.{IsTypedFlat}
use Rattle.typed_programs.specs.Programs.{IsTypedCell, IsTypedProgram}
use Rattle.typed_flat_laws.proofs.TypedLists.{StandFrom}
use Rattle.typed_flat_laws.proofs.Turns.{number_taken}
use Rattle.typed_flat_laws.proofs.FlatBodies.{ArePous, body-typed, all-before}
use Rattle.typed_flat_laws.proofs.WholeBodies.{body-whole, whole-before}

-- ---- places of two lists

front-place : (a b : List Scratch) (i : ℕ) → i < length a → place_at (a ++ b) i ≡ place_at a i
front-place [] b i low = absurd (omega arith)
front-place (c ∷ a) b zero low = refl
front-place (c ∷ a) b (suc i) low = front-place a b i (omega arith)

next-place : (a : List Scratch) (c : Scratch) (b : List Scratch) → place_at (a ++ c ∷ b) (length a) ≡ c
next-place [] c b = refl
next-place (d ∷ a) c b = next-place a c b

behind-stand : (a b : List Scratch) → StandFrom (a ++ b) (length a) b
behind-stand a [] = tt
behind-stand a (c ∷ b) =
    let more = behind-stand (a ++ c ∷ []) b in
    let long : length (a ++ c ∷ []) ≡ length a + 1 = length-append a (c ∷ []) in
    (next-place a c b, subst (λ (all : List Scratch). StandFrom all (length a + 1) b) (append_assoc a (c ∷ []) b) (subst (λ n. StandFrom ((a ++ c ∷ []) ++ b) n b) long more))

-- ---- FAULT

fault-range : (cells : List CellData) (made : List Scratch) → BeginsWithFault cells → (place_at (map of_cell cells ++ made) 0).range ≡ range_of types.Bool
fault-range [] made h = absurd h
fault-range (c ∷ cells) made h = h.2

first-same : (cells : List CellData) (made : List Scratch) → BeginsWithFault cells → place_at (map of_cell cells ++ made) 0 ≡ place_at (map of_cell cells) 0
first-same [] made h = absurd h
first-same (c ∷ cells) made h = refl

-- FAULT takes each BOOL
fault-flag : (cells : List CellData) (made : List Scratch) → BeginsWithFault cells → (place_at (map of_cell cells) 0).is_subrange ≡ false → place_at (map of_cell cells ++ made) 0 ≡ whole_cell types.Bool
fault-flag [] made h whole = absurd h
fault-flag (c ∷ cells) made h whole =
    let kind = h.1 in
    let range = h.2 in
    let is_subrange : c.is_subrange ≡ false = whole in
    rw kind (rw range (rw is_subrange refl))

-- ---- programs

cells-whole : (cells : List CellData) → All IsTypedCell cells → All IsTypedPlace (map of_cell cells)
cells-whole cells h = All-map IsTypedPlace of_cell cells (All-weaker IsTypedCell (λ c. IsTypedPlace (of_cell c)) (λ c its. its.place) cells h)

pub flat_program-typed : (p : ProgramData) → IsTypedProgram p → IsFlat (flat_program p) → IsTypedFlat (flat_program p)
flat_program-typed p typed is_flat =
    let cells = map of_cell p.cells in
    let made = scratch_of_all (bodies_in p) p.body in
    let are : ArePous p.called typed.instances = typed.called in
    let n = length p.called in
    let whole : All IsTypedPlace (cells ++ made)
    = All-append IsTypedPlace cells made (cells-whole p.cells typed.cells) (body-whole p.called typed.instances n (whole-before p.called typed.instances are n (omega arith)) 1 cells p.body typed.body) in
    let fault = fault-flag p.cells made typed.fault typed.whole_fault in
    let many : length cells ≡ length p.cells = length-map p.cells of_cell in
    let owns = λ (i : ℕ) (first : 1 ≤ i) (low : i < length cells).
    let e : 0 + i ≡ i = omega arith in
    ap (λ j. place_at (cells ++ made) j) e ∙ front-place cells made i low in
    record {
      flat = is_flat;
      begins_with_fault = typed.fault;
      whole_fault = ap (λ (c : Scratch). c.is_subrange) (first-same p.cells made typed.fault) ∙ typed.whole_fault;
      places = whole;
      statements = (
        number_taken (cells ++ made) whole 0 (pos 0) (ap (λ (r : Range). in_range (pos 0) r) (fault-range p.cells made typed.fault)),
        body-typed (cells ++ made) whole fault p.called typed.instances n (all-before (cells ++ made) whole fault p.called typed.instances are n (omega arith)) 1 cells p.body typed.body program_owner 0 owns (length p.cells)
            (subst (λ j. StandFrom (cells ++ made) j made) many (behind-stand cells made)),
      );
    }
