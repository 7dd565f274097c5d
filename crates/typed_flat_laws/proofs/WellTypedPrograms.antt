-- A typed program is well typed, as far as its flat form asks for it.
use Rattle.std.proofs.Common.{◌≡◌, ℕ, suc, zero, ◌+◌, ◌<◌, List, [], ◌∷◌, length, map, refl, subst, arith}
use Rattle.program_tree.specs.Tree.{CellData, ProgramData}
use Rattle.program_tree.specs.Places.{of_cell, place_at}
use Rattle.scan_model.specs.Scans.{ranges_of}
use Rattle.flat_form.specs.WellTyped.{each_tested, IsWellTyped}
use Rattle.typed_programs.specs.Programs.{IsTypedProgram}
use Rattle.typed_flat_laws.proofs.FlatBodies.{ArePous}
use Rattle.typed_flat_laws.proofs.OwnCells.{IsCellFor}
use Rattle.typed_flat_laws.proofs.OwnBodies.{body-own, own-before}

cell-own : (cells : List CellData) (i : ℕ) → i < length (map of_cell cells) → IsCellFor (ranges_of cells) each_tested i (place_at (map of_cell cells) i)
cell-own [] i low = absurd (omega arith)
cell-own (c ∷ cells) zero low = record { room = omega arith; range = refl; is_subrange = λ is. refl }
cell-own (c ∷ cells) (suc i) low =
    let more = cell-own cells i (omega arith) in
    let room = more.room in
    record { room = omega arith; range = more.range; is_subrange = λ is. refl }

pub typed-well_typed : (p : ProgramData) → IsTypedProgram p → IsWellTyped p
typed-well_typed p typed =
    let are : ArePous p.called typed.instances = typed.called in
    body-own p.called typed.instances (length p.called) (own-before p.called typed.instances are (length p.called) (omega arith)) 1 (map of_cell p.cells) p.body typed.body (ranges_of p.cells) each_tested 0 (omega arith)
    (λ i first low. let e : i ≡ 0 + i = omega arith in subst (λ j. IsCellFor (ranges_of p.cells) each_tested j (place_at (map of_cell p.cells) i)) e (cell-own p.cells i low))
