-- What holds of each cell of a chart, and of each cell of a variable that breaks no rule, holds of all cells of a POU.
use Rattle.std.proofs.Common.{◌≡◌, ℕ, ℤ, pos, zero, suc, ◌==◌, Bool, true, false, if◌then◌else◌, List, [], ◌∷◌, ◌++◌, length, Option, Some, None, refl}
use Rattle.std.specs.Prelude.{codes}
use Rattle.std.specs.List.{AllByRecursion}
use Rattle.source_tree.specs.Syntax.{Named, FileData}
use Rattle.program_tree.specs.Tree.{CellData}
use Rattle.naming.specs.FileScope.{pous_of}
use Rattle.naming.specs.Scopes.{Variable, is_step, block_of}
use Rattle.typing.specs.Variables.{judged_variable}
use Rattle.typing.specs.Places.{has_cell, is_stored_action, in_order, size_among, sizes_of, variables_at}
use Rattle.typing.specs.TypedPrograms.{path_behind, cell_for, flag_cell, active_first, cells_for, cells_of_variable, cells_of, block_cells, cells_in}
use Rattle.typed_files.specs.typed_cells.Premises.{AreWhole}
use Rattle.typed_files.proofs.typed_cells.Lists.{all-in_order}
use Rattle.typed_files.proofs.typed_cells.TypedCells.{each_whole}

module _ (f : FileData) (P : CellData → Type 0) (flags : (before : Option (List ℕ)) (n : Named) (text : List ℕ) (v : ℤ) → P (flag_cell before n text v))
    (cells : (inside : Bool) (before : Option (List ℕ)) (v : Variable) → block_of f v ≡ None → (judged_variable f v).whole ≡ true → P (cell_for f inside before v)) where
  append_all : (cs ds : List CellData) → AllByRecursion P cs → AllByRecursion P ds → AllByRecursion P (cs ++ ds)
  append_all [] ds a b = b
  append_all (c ∷ cs) ds a b = (a.0, append_all cs ds a.1 b)

  else_all : (b : Bool) (cs ds : List CellData) → AllByRecursion P cs → AllByRecursion P ds → AllByRecursion P (if b then cs else ds)
  else_all true cs ds all others = all
  else_all false cs ds all others = others

  abbrev OfBlocks : (Option (List ℕ) → ℕ → List CellData) → Type 0
  OfBlocks of_block = (before : Option (List ℕ)) (b : ℕ) → AllByRecursion P (of_block before b)

  for_variable : (inside : Bool) (before : Option (List ℕ)) (v : Variable) → block_of f v ≡ None → (judged_variable f v).whole ≡ true → AllByRecursion P (cells_for f inside before v)
  for_variable inside before v none whole =
      let active = flag_cell before v.name (codes "X") (active_first v.role) in
      let latest = flag_cell before v.name (codes "L") (pos 0) in
      let stored = flag_cell before v.name (codes "S") (pos 0) in
      else_all (is_step v.role) (active ∷ latest ∷ []) (if is_stored_action v.role then stored ∷ [] else cell_for f inside before v ∷ [])
      (flags before v.name (codes "X") (active_first v.role), (flags before v.name (codes "L") (pos 0), tt))
      (else_all (is_stored_action v.role) (stored ∷ []) (cell_for f inside before v ∷ []) (flags before v.name (codes "S") (pos 0), tt) (cells inside before v none whole, tt))

  of_variable : (of_block : Option (List ℕ) → ℕ → List CellData) (inside : Bool) (before : Option (List ℕ)) (v : Variable) (block : Option ℕ) → block_of f v ≡ block → (judged_variable f v).whole ≡ true
      → OfBlocks of_block → AllByRecursion P (cells_of_variable f of_block inside before v block)
  of_variable of_block inside before v None is whole blocks = for_variable inside before v is whole
  of_variable of_block inside before v (Some b) is whole blocks =
      else_all (size_among (sizes_of f) (Some b) == 0) [] (of_block (path_behind before v.name) b) tt (blocks (path_behind before v.name) b)

  of_variables : (of_block : Option (List ℕ) → ℕ → List CellData) (inside : Bool) (before : Option (List ℕ)) (vs : List Variable) → AllByRecursion (λ v. (judged_variable f v).whole ≡ true) vs
      → OfBlocks of_block → AllByRecursion P (cells_of f of_block inside before vs)
  of_variables of_block inside before [] whole blocks = tt
  of_variables of_block inside before (v ∷ vs) whole blocks =
      append_all (if has_cell v.role then cells_of_variable f of_block inside before v (block_of f v) else []) (cells_of f of_block inside before vs)
      (else_all (has_cell v.role) (cells_of_variable f of_block inside before v (block_of f v)) [] (of_variable of_block inside before v (block_of f v) refl whole.0 blocks) tt)
      (of_variables of_block inside before vs whole.1 blocks)

  module _ (whole : AreWhole f) where
    wholes : (k : ℕ) (o : Bool) → AllByRecursion (λ v. (judged_variable f v).whole ≡ true) (in_order o (variables_at f k))
    wholes k o = all-in_order (λ v. (judged_variable f v).whole ≡ true) o (variables_at f k) (each_whole f (variables_at f k) (whole k))

    of_blocks : (depth : ℕ) → OfBlocks (block_cells f depth)
    of_blocks zero before b = tt
    of_blocks (suc depth) before b = of_variables (block_cells f depth) true before (in_order false (variables_at f b)) (wholes b false) (of_blocks depth)

    pub of_pou : (k : ℕ) (before : Option (List ℕ)) (o : Bool) → AllByRecursion P (cells_in f before o (variables_at f k))
    of_pou k before o = of_variables (block_cells f (length (pous_of f))) false before (in_order o (variables_at f k)) (wholes k o) (of_blocks (length (pous_of f)))
