-- Candidates of charts one by one.
use Rattle.std.proofs.Common.{◌≡◌, ℕ, suc, ◌+◌, ◌*◌, ◌-◌, ◌<◌, ◌≤◌, List, [], ◌∷◌, ◌++◌, length, get_or, string_bytes, sym, ap, ◌∙◌, append_assoc, arith}
use Rattle.std.proofs.lemmas.List.{get_or-map, get_or_past, length-map}
use Rattle.program_tree.specs.declared.typed.Cell.{Cell}
use Rattle.program_tree.specs.Tree.{CellData}
use Rattle.program_tree.specs.View.{cell_view, cells_view}
use Rattle.scan_model.specs.Pairs.{CandidateData}
use Rattle.scan_model.specs.Candidates.{path_at, paths_of, not_both, not_both_with, not_both_among}

-- more candidates, before those that are left
pub appended : (found more xs rest all : List CandidateData) → more ≡ found ++ xs → found ++ (xs ++ rest) ≡ all → more ++ rest ≡ all
appended found more xs rest all is left = ap (λ cs. cs ++ rest) is ∙ append_assoc found xs rest ∙ left

module _ (program : List ℕ) (start : ℕ) (paths : List (List ℕ)) where
  -- the pair of one step of those that are left, and then the others
  pub with_next : (first place i steps : ℕ) → i < steps
      → not_both_with program start paths first (place + 2 * i) (steps - i)
      ≡ not_both program start paths first (place + 2 * i) ∷ not_both_with program start paths first (place + 2 * (i + 1)) (steps - (i + 1))
  with_next first place i steps below =
      let one : steps - i ≡ suc (steps - (i + 1)) = omega arith in
      let next : place + 2 * i + 2 ≡ place + 2 * (i + 1) = omega arith in
      ap (not_both_with program start paths first (place + 2 * i)) one
      ∙ ap (λ n. not_both program start paths first (place + 2 * i) ∷ not_both_with program start paths first n (steps - (i + 1))) next

  -- the pairs of one step with those behind it, and then those of the others
  pub among_next : (place i steps : ℕ) → i < steps
      → not_both_among program start paths (place + 2 * i) (steps - i)
      ≡ not_both_with program start paths (place + 2 * i) (place + 2 * i + 2) (steps - i - 1) ++ not_both_among program start paths (place + 2 * (i + 1)) (steps - (i + 1))
  among_next place i steps below =
      let one : steps - i ≡ suc (steps - i - 1) = omega arith in
      let left : steps - i - 1 ≡ steps - (i + 1) = omega arith in
      let next : place + 2 * i + 2 ≡ place + 2 * (i + 1) = omega arith in
      let pairs : List CandidateData = not_both_with program start paths (place + 2 * i) (place + 2 * i + 2) (steps - i - 1) in
      ap (not_both_among program start paths (place + 2 * i)) one
      ∙ ap (λ n. pairs ++ not_both_among program start paths n (steps - i - 1)) next ∙ ap (λ n. pairs ++ not_both_among program start paths (place + 2 * (i + 1)) n) left

-- the path of a cell at its place, and of none behind the last
pub path_there : (cells : List Cell) (place : ℕ) (c : Cell) → place < length cells → c ≡ get_or cells place c → string_bytes c.path ≡ path_at (paths_of (cells_view cells)) place
path_there cells place c below is =
    let seen : place < length (cells_view cells) = grind (arith, length-map) in
    ap (λ (x : Cell). string_bytes x.path) is
    ∙ sym (get_or-map (λ (d : CellData). d.path) (cells_view cells) place (cell_view c) [] seen ∙ ap (λ (d : CellData). d.path) (get_or-map cell_view cells place c (cell_view c) below))

pub path_nowhere : (cells : List Cell) (place : ℕ) → length cells ≤ place → [] ≡ path_at (paths_of (cells_view cells)) place
path_nowhere cells place above = sym (get_or_past (paths_of (cells_view cells)) place [] (grind (arith, length-map)))
