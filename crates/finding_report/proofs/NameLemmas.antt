-- The path of a cell at its place, and of none behind the last.
use Rattle.std.proofs.Common.{◌≡◌, ℕ, ◌<◌, ◌≤◌, List, [], length, get_or, string_bytes, sym, ap, ◌∙◌, arith}
use Rattle.std.proofs.lemmas.List.{get_or-map, get_or_past, length-map}
use Rattle.program_tree.specs.declared.typed.Cell.{Cell}
use Rattle.program_tree.specs.Tree.{CellData}
use Rattle.program_tree.specs.View.{cell_view, cells_view}
use Rattle.scan_model.specs.Candidates.{path_at, paths_of}

pub path_there : (cells : List Cell) (place : ℕ) (c : Cell) → place < length cells → c ≡ get_or cells place c → string_bytes c.path ≡ path_at (paths_of (cells_view cells)) place
path_there cells place c below is =
    let seen : place < length (cells_view cells) = grind (arith, length-map) in
    ap (λ (x : Cell). string_bytes x.path) is
    ∙ sym (get_or-map (λ (d : CellData). d.path) (cells_view cells) place (cell_view c) [] seen ∙ ap (λ (d : CellData). d.path) (get_or-map cell_view cells place c (cell_view c) below))

pub path_nowhere : (cells : List Cell) (place : ℕ) → length cells ≤ place → [] ≡ path_at (paths_of (cells_view cells)) place
path_nowhere cells place above = sym (get_or_past (paths_of (cells_view cells)) place [] (grind (arith, length-map)))
