-- The cells of a typed program have ranges of their types, and its steps are BOOLs among the cells of a pair.
use Rattle.std.proofs.Common.{◌≡◌, ◌+◌, ℕ, zero, suc, Bool, true, false, List, [], ◌∷◌, map, refl, ap, ◌∙◌, arith}
use Rattle.std.specs.Prelude.{All, ◌||◌}
use Rattle.std.specs.List.{AllByRecursion}
use Rattle.std.proofs.lemmas.List.{length-map}
use Rattle.std.proofs.lemmas.List.Elements.{All-weaker, All-from_recursion}
use Rattle.plc_types.specs.declared.data_type.DataType.{DataType}
use Rattle.plc_types.specs.declared.data_type.DataType.TheVariants as kinds
use Rattle.plc_types.specs.DataTypes.{carrier}
use Rattle.plc_types.specs.Types.{range_of}
use Rattle.program_tree.specs.declared.typed.ChartCells.{ChartCells}
use Rattle.program_tree.specs.Tree.{CellData}
use Rattle.program_tree.specs.declared.scratch.Scratch.{Scratch}
use Rattle.program_tree.specs.Places.{of_cell}
use Rattle.query_formulas.specs.CellShapes.{is_enumeration}
use Rattle.query_formula_laws.specs.TypedComparisons as compared
use Rattle.typed_programs.specs.Programs.{HasWholeRange, IsTypedCell}
use Rattle.stated_cells.proofs.typed_cells.Occurrences.{Occurs, occurs_stands, occurs_within}
use Rattle.stated_cells.specs.StatedCells.{AreFlags, HasFlags}

-- ---- cells

unlimited : (b : Bool) → (b || false) ≡ false → b ≡ false
unlimited true h = h
unlimited false h = refl

whole_by : (c : CellData) (t : DataType) → HasWholeRange c t → (c.is_subrange || is_enumeration t) ≡ false → c.range ≡ range_of (carrier t)
whole_by c (kinds.Elementary k) whole out = whole (unlimited c.is_subrange out)
whole_by c (kinds.Enumeration n) whole out = absurd (open_too c.is_subrange out)
  where
    open_too : (b : Bool) → (b || true) ≡ false → ⊥
    open_too true h = let e : ⊥ = cc in e
    open_too false h = let e : ⊥ = cc in e
whole_by c kinds.Unknown whole out = absurd whole

cell_typed : (c : CellData) → IsTypedCell c → compared.IsTypedCell c
cell_typed c h = record { place = h.place; whole = λ out. whole_by c c.kind h.whole out }

pub cells_typed : (cs : List CellData) → All IsTypedCell cs → All compared.IsTypedCell cs
cells_typed cs all = All-weaker IsTypedCell compared.IsTypedCell cell_typed cs all

-- ---- steps

module _ (cells own : List CellData) (start : ℕ) (at : Occurs (map of_cell own) (map of_cell cells) start) where
  steps_typed : (place steps : ℕ) → AreFlags (map of_cell own) place steps → compared.AreSteps cells start place steps
  steps_typed place zero flags = tt
  steps_typed place (suc steps) flags =
      let low = flags.0 in
      let bound = occurs_within (map of_cell own) (map of_cell cells) start at in
      let long = length-map cells of_cell in (
        record { below = omega (arith, low, bound, long); kind = ap (λ (s : Scratch). s.kind) (occurs_stands (map of_cell own) (map of_cell cells) start at place low ∙ flags.1) },
        steps_typed (place + 2) steps flags.2,
      )

  each_typed : (ks : List ChartCells) → AllByRecursion (HasFlags (map of_cell own)) ks → AllByRecursion (λ (k : ChartCells). compared.AreSteps cells start k.first k.steps) ks
  each_typed [] all = tt
  each_typed (k ∷ ks) all = (steps_typed k.first k.steps all.0, each_typed ks all.1)

  pub charts_typed : (ks : List ChartCells) → AllByRecursion (HasFlags (map of_cell own)) ks → All (λ (k : ChartCells). compared.AreSteps cells start k.first k.steps) ks
  charts_typed ks all = All-from_recursion (λ (k : ChartCells). compared.AreSteps cells start k.first k.steps) ks (each_typed ks all)
