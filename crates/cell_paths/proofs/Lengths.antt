-- A name has as many cells as are counted for it, whatever stands before their paths.
use Rattle.std.proofs.Common.{◌≡◌, ℕ, zero, suc, ◌<◌, Bool, true, false, if◌then◌else◌, List, [], ◌∷◌, length, Option, Some, None, refl, sym, ◌∙◌, arith}
use Rattle.std.specs.Prelude.{◌==◌}
use Rattle.std.specs.List.{AllByRecursion}
use Rattle.std.proofs.lemmas.List.{length-append, length-map}
use Rattle.std.proofs.lemmas.Bool.{eqb-true}
use Rattle.call_order.specs.Marks.{is_marked}
use Rattle.source_tree.specs.Syntax.{FileData}
use Rattle.program_tree.specs.Tree.{CellData}
use Rattle.naming.specs.FileScope.{pous_of}
use Rattle.naming.specs.Scopes.{Variable, is_step, block_of}
use Rattle.typing.specs.Reached.{reached}
use Rattle.typing.specs.Places.{has_cell, is_stored_action, in_order, size_among, cells_taken, sizes_of, variables_at}
use Rattle.typing.specs.TypedPrograms.{cells_of_variable, cells_of, block_cells, path_behind}
use Rattle.typing_laws.proofs.CellCounts.{size_is}
use Rattle.typed_cells.specs.Places.{block_places}
use Rattle.typed_cells.specs.Variables.{own_places}
use Rattle.typed_cells.specs.Premises.{UsesItsBlocks, IsOrdered}
use Rattle.typed_cells.proofs.Lists.{all-each}
use Rattle.typed_cells.proofs.Lengths.{HasSize, length_block, have_sizes}
use Rattle.cell_paths.proofs.Blocks.{Blocks, among_order}

-- ---- lists of the same length

module _ {A B : Type 0} where
  either_long : (b : Bool) (xs : List A) (ys : List B) → length xs ≡ length ys → length (if b then xs else []) ≡ length (if b then ys else [])
  either_long true xs ys same = same
  either_long false xs ys same = refl

  unless_long : (b : Bool) (xs : List A) (ys : List B) → length xs ≡ length ys → length (if b then [] else xs) ≡ length (if b then [] else ys)
  unless_long true xs ys same = refl
  unless_long false xs ys same = same

  plain_long : (step stored : Bool) (x y z w : A) (p q r s : B) → length (if step then x ∷ y ∷ [] else (if stored then z ∷ [] else w ∷ [])) ≡ length (if step then p ∷ q ∷ [] else (if stored then r ∷ [] else s ∷ []))
  plain_long true stored x y z w p q r s = refl
  plain_long false true x y z w p q r s = refl
  plain_long false false x y z w p q r s = refl

-- ---- what stands before paths does not count

variable_long : (f : FileData) (of_block : Blocks) → ((p q : Option (List ℕ)) (b : ℕ) → length (of_block p b) ≡ length (of_block q b)) → (inside : Bool) (p q : Option (List ℕ)) (v : Variable) (o : Option ℕ)
    → length (cells_of_variable f of_block inside p v o) ≡ length (cells_of_variable f of_block inside q v o)
variable_long f of_block same inside p q v None = plain_long (is_step v.role) (is_stored_action v.role) _ _ _ _ _ _ _ _
variable_long f of_block same inside p q v (Some b) =
    unless_long (size_among (sizes_of f) (Some b) == 0) (of_block (path_behind p v.name) b) (of_block (path_behind q v.name) b) (same (path_behind p v.name) (path_behind q v.name) b)

names_long : (f : FileData) (of_block : Blocks) → ((p q : Option (List ℕ)) (b : ℕ) → length (of_block p b) ≡ length (of_block q b)) → (inside : Bool) (p q : Option (List ℕ)) (vs : List Variable)
    → length (cells_of f of_block inside p vs) ≡ length (cells_of f of_block inside q vs)
names_long f of_block same inside p q [] = refl
names_long f of_block same inside p q (v ∷ vs) =
    let one = cells_of_variable f of_block inside p v (block_of f v) in
    let other = cells_of_variable f of_block inside q v (block_of f v) in
    let here = either_long (has_cell v.role) one other (variable_long f of_block same inside p q v (block_of f v)) in
    let rest = names_long f of_block same inside p q vs in
    length-append (if has_cell v.role then one else []) (cells_of f of_block inside p vs) ∙ omega (arith, here, rest) ∙ sym (length-append (if has_cell v.role then other else []) (cells_of f of_block inside q vs))

blocks_long : (f : FileData) (depth : ℕ) (p q : Option (List ℕ)) (b : ℕ) → length (block_cells f depth p b) ≡ length (block_cells f depth q b)
blocks_long f zero p q b = refl
blocks_long f (suc depth) p q b = names_long f (block_cells f depth) (blocks_long f depth) true p q (in_order false (variables_at f b))

-- ---- cells and what they take

module _ (f : FileData) where
  abbrev pub own_blocks : Blocks
  own_blocks = block_cells f (length (pous_of f))

  -- the cells of a name among those of its POU
  abbrev pub cells_at : Bool → List ℕ → Variable → List CellData
  cells_at inside before v = if has_cell v.role then cells_of_variable f own_blocks inside (Some before) v (block_of f v) else []

  abbrev pub HasLength : Bool → List ℕ → Variable → Type 0
  HasLength inside before v = length (cells_at inside before v) ≡ cells_taken f (sizes_of f) v

  block_long : (path : Option (List ℕ)) (b : ℕ) → length (own_blocks path b) ≡ length (block_places f b)
  block_long path b = blocks_long f (length (pous_of f)) path None b ∙ sym (length-map (own_blocks None b) _)

  own_long : (inside : Bool) (before : Option (List ℕ)) (v : Variable) (o : Option ℕ) → length (cells_of_variable f own_blocks inside before v o) ≡ length (own_places f v o)
  own_long inside before v None = plain_long (is_step v.role) (is_stored_action v.role) _ _ _ _ _ _ _ _
  own_long inside before v (Some b) =
      unless_long (size_among (sizes_of f) (Some b) == 0) (own_blocks (path_behind before v.name) b) (block_places f b) (block_long (path_behind before v.name) b)

  has_length : (inside : Bool) (before : List ℕ) (v : Variable) → HasSize f v → HasLength inside before v
  has_length inside before v size =
      either_long (has_cell v.role) (cells_of_variable f own_blocks inside (Some before) v (block_of f v)) (own_places f v (block_of f v)) (own_long inside (Some before) v (block_of f v)) ∙ size

  -- ---- the cells of an instance

  empty_list : (xs : List CellData) → length xs ≡ 0 → [] ≡ xs
  empty_list [] none = refl
  empty_list (x ∷ xs) none = absurd (omega (arith, none))

  whole_list : (n : ℕ) (xs : List CellData) (b : Bool) → (n == 0) ≡ b → length xs ≡ n → (if b then [] else xs) ≡ xs
  whole_list n xs true is long = let none = eqb-true n 0 is in empty_list xs (long ∙ none)
  whole_list n xs false is long = refl

  module _ (used : UsesItsBlocks f) (ordered : IsOrdered f) where
    pub have_lengths : (k : ℕ) → k < length (pous_of f) → (inside : Bool) (before : List ℕ) → AllByRecursion (HasLength inside before) (variables_at f k)
    have_lengths k there inside before = all-each (HasSize f) (HasLength inside before) (has_length inside before) (variables_at f k) (have_sizes f used ordered k there)

    -- those of its block, where this is reached
    pub instance_cells : (inside : Bool) (before : Option (List ℕ)) (v : Variable) (b : ℕ) → b < length (pous_of f) → is_marked (reached f) b ≡ true
        → cells_of_variable f own_blocks inside before v (Some b) ≡ own_blocks (path_behind before v.name) b
    instance_cells inside before v b there is =
        let path = path_behind before v.name in
        let long : length (own_blocks path b) ≡ size_among (sizes_of f) (Some b) = block_long path b ∙ length_block f used ordered b there ∙ sym (size_is f used b (among_order f used ordered b there) is) in
        whole_list (size_among (sizes_of f) (Some b)) (own_blocks path b) (size_among (sizes_of f) (Some b) == 0) refl long
