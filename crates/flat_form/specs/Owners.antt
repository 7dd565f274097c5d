-- The owners of cells: the PROGRAM, whose cells stand in their places, and each call of a FUNCTION, whose cells are scratch cells.
use Rattle.std.specs.Prelude.{ℕ, List, ◌∷◌, slice_index_or}

-- where each of an owner's cells stands among the cells and scratch cells
abbrev pub OwnerData : Type 0
OwnerData = ℕ → ℕ

abbrev pub program_owner : OwnerData
program_owner place = place

-- FAULT is the program's, and behind it stand what the FUNCTION answers, its inputs and its other variables
abbrev pub call_owner : ℕ → List ℕ → OwnerData
call_owner answer places place = slice_index_or (0 ∷ answer ∷ places) place 0
