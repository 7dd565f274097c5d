use Rattle.std.proofs.Common.{◌≡◌, ℕ, List, Option, Some, None, ap, ◌∙◌}
use Rattle.std.specs.Prelude.{option_and_then}
use Rattle.program_tree.specs.Tree.{CellData}
use Rattle.clause_types.specs.PlacesByPath.{place_by_path}
use Rattle.candidates.specs.ByPath.{placed_at, found_view}
use Rattle.candidates.specs.PairView.{new_of}
use Rattle.candidates.proofs.pair.Pair.find_new.Goals as goal

pub returns-in_err-place : goal.returns-in_err-place
returns-in_err-place c =
    let pair = c.args.self.now in
    let path = c.args.path.now in
    let cells = (new_of pair).cells in
    let none : None ≡ place_by_path path cells = c.in_err-place.ensures ∙ ap (λ (f : List ℕ → Option ℕ). f path) pair.finds_new in
    ap found_view c.from_residual.ensures ∙ ap (option_and_then (placed_at cells)) none

pub returns : goal.returns
returns c =
    let pair = c.args.self.now in
    let path = c.args.path.now in
    let cells = (new_of pair).cells in
    let place = c.in_ok-place.place in
    let found : Some place ≡ place_by_path path cells = c.in_ok-place.ensures ∙ ap (λ (f : List ℕ → Option ℕ). f path) pair.finds_new in
    c.placed_at.ensures ∙ ap (λ (cs : List CellData). placed_at cs place) c.cells.ensures ∙ ap (option_and_then (placed_at cells)) found
