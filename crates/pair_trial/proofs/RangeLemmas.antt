-- States that are too long or too short.
use Rattle.std.proofs.Common.{◌≡◌, ◌≢◌, suc, false, List, [], ◌∷◌, length, refl, ap}
use Rattle.std.proofs.lemmas.Bool.{and_right}
use Rattle.program_tree.specs.declared.typed.Cell.{Cell}
use Rattle.plc_types.specs.Types.{in_range}
use Rattle.program_tree.specs.View.{cells_view}
use Rattle.meaning.specs.Values.{State}
use Rattle.scan_model.specs.Scans.{ranges_of}
use Rattle.queries.specs.Ranges.{are_in_range}

pub unequal_cells : (cells : List Cell) (values : State) → length cells ≢ length values → are_in_range (ranges_of (cells_view cells)) values ≡ false
unequal_cells [] [] other = absurd (other refl)
unequal_cells [] (v ∷ vs) other = refl
unequal_cells (c ∷ cs) [] other = refl
unequal_cells (c ∷ cs) (v ∷ vs) other = and_right (in_range v c.range) _ (unequal_cells cs vs (λ e. other (ap suc e)))
