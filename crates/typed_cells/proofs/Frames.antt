-- The places of a FUNCTION's frame take what its cells take, and those of one that never runs what the first of them take.
use Rattle.std.proofs.Common.{◌≡◌, ℕ, zero, suc, ◌+◌, ◌≤◌, ◌<◌, Bool, true, false, if◌then◌else◌, List, [], ◌∷◌, ◌++◌, length, map, refl, sym, ap, ◌∙◌, arith, append_assoc}
use Rattle.std.specs.Prelude.{Option, Some, None}
use Rattle.std.proofs.lemmas.List.{length-append, length-map, map-append, get_or_append_left}
use Rattle.source_tree.specs.Syntax.{TypeData, PouTypeData, function, PouData, FileData}
use Rattle.program_tree.specs.Tree.{CellData}
use Rattle.program_tree.specs.declared.scratch.Scratch.{Scratch}
use Rattle.program_tree.specs.Places.{of_cell, place_at}
use Rattle.naming.specs.FileScope.{pous_of, pou_at}
use Rattle.naming.specs.Scopes.{Variable, block_of, variables_in_pou}
use Rattle.meaning.specs.Frames.{frame_of, frames_of, scratch_at}
use Rattle.typing.specs.Places.{has_cell, in_front, behind_front}
use Rattle.typing.specs.Members.{called_number}
use Rattle.typing.specs.TypedPrograms.{fault_cell, cells_of_variable, cells_of, block_cells, frame_cells, called_of, called_if}
use Rattle.running_pous.specs.Stated.{front_cells, unused_of, unused_if, stated_if, stated_by}
use Rattle.typed_cells.specs.Places.{frame_for}
use Rattle.typed_cells.specs.Premises.{IsOrdered}
use Rattle.typed_cells.proofs.Numbers.{IsCalled}
use Rattle.running_pous.proofs.StatedPous.{stated_at}

pub scratch_is : (cs : List CellData) (place : ℕ) → place < length cs → scratch_at (frame_for cs) place ≡ place_at (map of_cell cs) place
scratch_is [] place low = absurd (omega (arith, low))
scratch_is (c ∷ cs) zero low = refl
scratch_is (c ∷ cs) (suc place) low = scratch_is cs place (omega (arith, low))

-- ---- the cells that are kept

-- of a FUNCTION that runs all its cells
abbrev pub kept_cells : FileData → Bool → PouData → List CellData
kept_cells f true q = frame_cells f q
kept_cells f false q = front_cells f q

cells_append : (f : FileData) (of_block : Option (List ℕ) → ℕ → List CellData) (inside : Bool) (before : Option (List ℕ)) (vs ws : List Variable)
    → cells_of f of_block inside before (vs ++ ws) ≡ cells_of f of_block inside before vs ++ cells_of f of_block inside before ws
cells_append f of_block inside before [] ws = refl
cells_append f of_block inside before (v ∷ vs) ws =
    let own = if has_cell v.role then cells_of_variable f of_block inside before v (block_of f v) else [] in
    ap (λ (l : List CellData). own ++ l) (cells_append f of_block inside before vs ws) ∙ sym (append_assoc own (cells_of f of_block inside before vs) (cells_of f of_block inside before ws))

module _ (f : FileData) (q : PouData) where
  -- those behind the inputs
  abbrev behind_cells : List CellData
  behind_cells = cells_of f (block_cells f (length (pous_of f))) false None (behind_front true (variables_in_pou q))

  frame_parts : frame_cells f q ≡ front_cells f q ++ behind_cells
  frame_parts = ap (λ (l : List CellData). fault_cell ∷ l) (cells_append f (block_cells f (length (pous_of f))) false None (in_front true (variables_in_pou q)) (behind_front true (variables_in_pou q)))

  pub front_within : (b : Bool) → length (front_cells f q) ≤ length (kept_cells f b q)
  front_within true =
      let long : length (frame_cells f q) ≡ length (front_cells f q) + length behind_cells = ap (λ (l : List CellData). length l) frame_parts ∙ length-append (front_cells f q) behind_cells in
      omega (arith, long)
  front_within false = omega arith

  front_at : (place : ℕ) → place < length (front_cells f q) → place_at (map of_cell (front_cells f q)) place ≡ place_at (map of_cell (frame_cells f q)) place
  front_at place low =
      let same = length-map (front_cells f q) of_cell in
      sym
      (ap (λ (cs : List CellData). place_at (map of_cell cs) place) frame_parts ∙ ap (λ (l : List Scratch). place_at l place) (map-append of_cell (front_cells f q) behind_cells)
      ∙ get_or_append_left (map of_cell (front_cells f q)) (map of_cell behind_cells) _ place (omega (arith, same, low)))

  -- FAULT, the answer and the inputs keep their places
  pub kept_at : (b : Bool) (place : ℕ) → place < length (front_cells f q) → place_at (map of_cell (frame_cells f q)) place ≡ scratch_at (frame_for (kept_cells f b q)) place
  kept_at true place low = let within = front_within true in sym (scratch_is (frame_cells f q) place (omega (arith, within, low)))
  kept_at false place low = sym (scratch_is (front_cells f q) place low ∙ front_at place low)

-- ---- a FUNCTION's frame

frame_by : (f : FileData) (n : ℕ) (t : TypeData) (q : PouData) → pou_at f n ≡ Some q → q.pou_type ≡ function t → (b : Bool) → frame_of (stated_if f n b) ≡ frame_for (kept_cells f b q)
frame_by f n t q there as_function true = ap (λ (o : Option PouData). frame_of (called_if f n o)) there ∙ ap (λ (k : PouTypeData). frame_of (called_of f n k q)) as_function
frame_by f n t q there as_function false = ap (λ (o : Option PouData). frame_of (unused_if f n o)) there ∙ ap (λ (k : PouTypeData). frame_of (unused_of f n k q)) as_function

pub frame_is : (f : FileData) (runs : ℕ → Bool) (ordered : IsOrdered f) (n : ℕ) (t : TypeData) (q : PouData) → pou_at f n ≡ Some q → q.pou_type ≡ function t → IsCalled f ordered n
    → frames_of (stated_by f runs) (called_number f n) ≡ frame_for (kept_cells f (runs (called_number f n)) q)
frame_is f runs ordered n t q there as_function called =
    ap frame_of (stated_at f runs (called_number f n) called.below ∙ ap (λ (k : ℕ). stated_if f k (runs (called_number f n))) called.there) ∙ frame_by f n t q there as_function (runs (called_number f n))
