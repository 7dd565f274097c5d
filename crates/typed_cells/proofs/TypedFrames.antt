-- The frame of a FUNCTION whose variables break no rule is typed, and so is what each cell of an instance takes.
use Rattle.std.proofs.Common.{◌≡◌, ℕ, ◌+◌, ◌≤◌, ◌<◌, List, [], ◌∷◌, ◌++◌, length, map, Option, Some, None, Bool, true, false, refl, sym, ap, ◌∙◌, arith, subst, append_assoc}
use Rattle.std.specs.Prelude.{All}
use Rattle.std.specs.List.{AllByRecursion}
use Rattle.std.proofs.lemmas.List.{length-append, length-map, map-append}
use Rattle.std.proofs.lemmas.List.Elements.{All-from_recursion}
use Rattle.std.proofs.Math.Seq.{get_or-append_seam}
use Rattle.plc_types.proofs.InRange.{bounds}
use Rattle.source_tree.specs.Syntax.{PouData, FileData}
use Rattle.program_tree.specs.Tree.{CellData}
use Rattle.program_tree.specs.declared.scratch.Scratch.{Scratch}
use Rattle.program_tree.specs.Places.{of_cell, place_at, IsTypedPlace}
use Rattle.naming.specs.FileScope.{pous_of, pou_at}
use Rattle.naming.specs.Scopes.{Variable, variables_in_pou}
use Rattle.meaning.specs.Frames.{scratch_at, counted_from}
use Rattle.typing.specs.Places.{in_front, variables_in}
use Rattle.typing.specs.TypedPrograms.{fault_cell, cells_of, block_cells, cells_in, type_of_cell}
use Rattle.scan_model.specs.InRange.{IsInRange}
use Rattle.typed_programs.specs.Programs.{IsTypedCell, frame_places, IsTypedFrame}
use Rattle.typed_cells.specs.Places.{block_places, frame_for}
use Rattle.typed_cells.specs.Premises.{AreWhole}
use Rattle.typed_cells.proofs.TypedCells.{IsReadyCell, fault_ready, block_ready, cells_ready, fronts_ready}
use Rattle.typed_cells.proofs.Frames.{scratch_is, kept_cells}

-- ---- the places of a frame

seam : (before : List CellData) (c : CellData) (cs : List CellData) → scratch_at (frame_for (before ++ c ∷ cs)) (length before) ≡ of_cell c
seam before c cs =
    let long = length-append before (c ∷ cs) in
    let low : length before < length (before ++ c ∷ cs) = omega (arith, long) in
    let same = length-map before of_cell in
    scratch_is (before ++ c ∷ cs) (length before) low ∙ ap (λ (l : List Scratch). place_at l (length before)) (map-append of_cell before (c ∷ cs))
    ∙ ap (λ (n : ℕ). place_at (map of_cell before ++ of_cell c ∷ map of_cell cs) n) (sym same) ∙ get_or-append_seam (map of_cell before) (of_cell c) (map of_cell cs) _

places_behind : (before cs : List CellData) (n : ℕ) → length before ≡ n → map (scratch_at (frame_for (before ++ cs))) (counted_from n (length cs)) ≡ map of_cell cs
places_behind before [] n is = refl
places_behind before (c ∷ cs) n is =
    let all = before ++ c ∷ cs in
    let same : (before ++ c ∷ []) ++ cs ≡ all = append_assoc before (c ∷ []) cs in
    let here : scratch_at (frame_for all) n ≡ of_cell c = ap (λ (m : ℕ). scratch_at (frame_for all) m) (sym is) ∙ seam before c cs in
    let next : length (before ++ c ∷ []) ≡ n + 1 = length-append before (c ∷ []) ∙ ap (λ (m : ℕ). m + 1) is in
    let rest : map (scratch_at (frame_for all)) (counted_from (n + 1) (length cs)) ≡ map of_cell cs =
    ap (λ (l : List CellData). map (scratch_at (frame_for l)) (counted_from (n + 1) (length cs))) (sym same) ∙ places_behind (before ++ c ∷ []) cs (n + 1) next in
    ap (λ (s : Scratch). s ∷ map (scratch_at (frame_for all)) (counted_from (n + 1) (length cs))) here ∙ ap (λ (l : List Scratch). of_cell c ∷ l) rest

pub frame_places_are : (cs : List CellData) → frame_places (frame_for cs) ≡ map of_cell cs
frame_places_are cs = ap (λ (n : ℕ). map (scratch_at (frame_for cs)) (counted_from 0 n)) (length-map cs type_of_cell) ∙ places_behind [] cs 0 refl

-- ---- typed places

places_typed : (cs : List CellData) → AllByRecursion IsReadyCell cs → AllByRecursion IsTypedPlace (map of_cell cs)
places_typed [] all = tt
places_typed (c ∷ cs) all = (all.0.typed.place, places_typed cs all.1)

starts_in : (cs : List CellData) → AllByRecursion IsReadyCell cs → IsInRange (map (λ c. c.range) cs) (map (λ c. c.initial) cs)
starts_in [] all = tt
starts_in (c ∷ cs) all = let b = bounds c.initial c.range all.0.starts in (b.0, b.1, starts_in cs all.1)

each_typed : (cs : List CellData) → AllByRecursion IsReadyCell cs → AllByRecursion IsTypedCell cs
each_typed [] all = tt
each_typed (c ∷ cs) all = (all.0.typed, each_typed cs all.1)

frame_of_typed : (cs : List CellData) → 1 ≤ length cs → AllByRecursion IsReadyCell cs → IsTypedFrame (frame_for (fault_cell ∷ cs))
frame_of_typed cs some all = record {
  ranges = length-map (fault_cell ∷ cs) _ ∙ sym (length-map (fault_cell ∷ cs) type_of_cell);
  answers = let same = length-map (fault_cell ∷ cs) type_of_cell in omega (arith, some, same);
  fault_low = refl;
  fault_high = refl;
  no_fault = refl;
  start_in_range = starts_in (fault_cell ∷ cs) (fault_ready, all);
  places = subst (λ (l : List Scratch). All IsTypedPlace l) (sym (frame_places_are (fault_cell ∷ cs)))
      (All-from_recursion IsTypedPlace (map of_cell (fault_cell ∷ cs)) (places_typed (fault_cell ∷ cs) (fault_ready, all)));
}

module _ (f : FileData) (whole : AreWhole f) where
  -- what the cells of an instance take
  pub instance_typed : (b : ℕ) → All IsTypedPlace (block_places f b)
  instance_typed b = All-from_recursion IsTypedPlace (block_places f b) (places_typed (block_cells f (length (pous_of f)) None b) (block_ready f whole b))

  module _ (k : ℕ) (p : PouData) (there : pou_at f k ≡ Some p) where
    ready : (before : Option (List ℕ)) (o : Bool) → AllByRecursion IsReadyCell (cells_in f before o (variables_in_pou p))
    ready before o = subst (λ (vs : List Variable). AllByRecursion IsReadyCell (cells_in f before o vs)) (ap variables_in there) (cells_ready f whole k before o)

    abbrev fronts : List Variable → List CellData
    fronts vs = cells_of f (block_cells f (length (pous_of f))) false None (in_front true vs)

    -- the frame of a FUNCTION, which runs or not
    pub frame_typed : (b : Bool) → 2 ≤ length (kept_cells f b p) → IsTypedFrame (frame_for (kept_cells f b p))
    frame_typed true room = frame_of_typed (cells_in f None true (variables_in_pou p)) (omega (arith, room)) (ready None true)
    frame_typed false room = frame_of_typed (fronts (variables_in_pou p)) (omega (arith, room)) (subst (λ (vs : List Variable). AllByRecursion IsReadyCell (fronts vs)) (ap variables_in there) (fronts_ready f whole k))

    -- the cells of a PROGRAM
    pub program_typed : All IsTypedCell (fault_cell ∷ cells_in f (Some []) false (variables_in_pou p))
    program_typed = All-from_recursion IsTypedCell (fault_cell ∷ cells_in f (Some []) false (variables_in_pou p)) (each_typed (fault_cell ∷ cells_in f (Some []) false (variables_in_pou p)) (fault_ready, ready (Some []) false))
