-- A name has as many cells as are counted for it.
use Rattle.std.proofs.Common.{◌≡◌, ℕ, ◌<◌, Bool, true, false, if◌then◌else◌, List, [], ◌∷◌, length, Option, Some, None, refl, sym, ap, ◌∙◌, arith, subst, inl, inr, ◌⊎◌, ⊎_elim}
use Rattle.std.specs.Prelude.{◌==◌}
use Rattle.std.specs.List.{AllByRecursion}
use Rattle.std.proofs.lemmas.List.{length-append, length-map}
use Rattle.std.proofs.lemmas.Bool.{cases_Bool, eqb-true, eq-eqb}
use Rattle.call_order.specs.Marks.{is_marked}
use Rattle.call_order.specs.Uses.{uses_at, is_among, order_of}
use Rattle.call_order.proofs.Members.{is_among-left, is_among-parts}
use Rattle.call_order.proofs.Orders.{behind_uses, below_length, each_in}
use Rattle.source_tree.specs.Syntax.{FileData}
use Rattle.program_tree.specs.declared.scratch.Scratch.{Scratch}
use Rattle.program_tree.specs.Places.{of_cell}
use Rattle.naming.specs.Circles.{uses_in, uses_of}
use Rattle.naming.specs.FileScope.{pous_of}
use Rattle.naming.specs.Scopes.{Variable, is_local, is_step, block_of}
use Rattle.typing.specs.Reached.{reached}
use Rattle.typing.specs.Places.{has_cell, is_stored_action, size_among, cells_taken, count_of_cells, variables_at, sizes_of}
use Rattle.typing.specs.TypedPrograms.{cells_in}
use Rattle.typing_laws.proofs.CellCounts.{length-cells_in}
use Rattle.typed_cells.specs.Places.{block_places}
use Rattle.typed_cells.specs.Variables.{plain_places, own_places, variable_places, variables_places}
use Rattle.typed_cells.specs.Premises.{IsUsedBlock, UsesItsBlocks, IsOrdered}
use Rattle.typed_cells.proofs.Lists.{all-each}
use Rattle.typed_cells.proofs.BlockPlaces.{block_takes, cells_in_take}
use Rattle.typing_laws.proofs.CellCounts.{size_is, no_size}
use Rattle.typed_cells.proofs.Roles.{local_no_step}

abbrev pub HasSize : FileData → Variable → Type 0
HasSize f v = length (variable_places f v) ≡ cells_taken f (sizes_of f) v

pub length_all : (f : FileData) (vs : List Variable) → AllByRecursion (HasSize f) vs → length (variables_places f vs) ≡ count_of_cells f (sizes_of f) vs
length_all f [] all = refl
length_all f (v ∷ vs) all =
    let here = all.0 in
    let rest = length_all f vs all.1 in
    length-append (variable_places f v) (variables_places f vs) ∙ omega (arith, here, rest)

-- an instance is a local variable, and no step
local_of : (b : Bool) (o : Option ℕ) (k : ℕ) → (if b then o else None) ≡ Some k → b ≡ true
local_of true o k is = refl
local_of false o k is = absurd (let h : ⊥ = cc in h)

pub instance_local : (f : FileData) (v : Variable) (b : ℕ) → block_of f v ≡ Some b → is_local v.role ≡ true
instance_local f v b is = local_of (is_local v.role) _ b is

by_two : (f : FileData) (v : Variable) (step stored : Bool) → is_step v.role ≡ step → is_stored_action v.role ≡ stored → length (plain_places f v) ≡ (if step then 2 else 1)
by_two f v true stored is told = rw is refl
by_two f v false true is told = rw (is, told) refl
by_two f v false false is told = rw (is, told) refl

spread_by : (n : ℕ) (xs : List Scratch) (b : Bool) → (n == 0) ≡ b → (n ≡ 0) ⊎ (length xs ≡ n) → length (if n == 0 then [] else xs) ≡ n
spread_by n xs true is known = rw is (sym (eqb-true n 0 is))
spread_by n xs false is known = rw is (⊎_elim (λ none. let other = eq-eqb n 0 none in cc) (λ told. told) known)

by_cell : (b : Bool) (xs : List Scratch) (n : ℕ) → length xs ≡ n → length (if b then xs else []) ≡ (if b then n else 0)
by_cell true xs n same = same
by_cell false xs n same = refl

module _ (f : FileData) (used : UsesItsBlocks f) (ordered : IsOrdered f) where
  pub length_block : (b : ℕ) → b < length (pous_of f) → length (block_places f b) ≡ count_of_cells f (sizes_of f) (variables_at f b)
  length_block b there =
      ap (λ (l : List Scratch). length l) (block_takes f used ordered b there ∙ sym (cells_in_take f used ordered b there None false))
      ∙ length-map (cells_in f None false (variables_at f b)) of_cell ∙ length-cells_in f used ordered b there None false

  -- what a POU uses is a POU
  pub used_below : (k u : ℕ) → k < length (pous_of f) → is_among u (uses_at (uses_of f) k) ≡ true → (is_among u (order_of (uses_of f)) ≡ true) × (u < length (pous_of f))
  used_below k u there uses =
      let graph : length (uses_of f) ≡ length (pous_of f) = length-map (pous_of f) (uses_in f) in
      let here : is_among k (order_of (uses_of f)) ≡ true = each_in (uses_of f) (ordered ∙ sym graph) k (omega (arith, graph, there)) in
      let split = is_among-parts k (order_of (uses_of f)) here in
      let low : is_among u (order_of (uses_of f)) ≡ true = subst (λ (l : List ℕ). is_among u l ≡ true) (sym split.2) (is_among-left u split.0 (k ∷ split.1) (behind_uses (uses_of f) split.0 split.1 k u split.2 uses)) in
      (low, subst (λ (m : ℕ). u < m) graph (below_length (uses_of f) u low))

  -- what the size of a block is
  block_size : (b : ℕ) → is_among b (order_of (uses_of f)) ≡ true → b < length (pous_of f) → (size_among (sizes_of f) (Some b) ≡ 0) ⊎ (length (block_places f b) ≡ size_among (sizes_of f) (Some b))
  block_size b here there =
      ⊎_elim (λ (is : is_marked (reached f) b ≡ true). inr (length_block b there ∙ sym (size_is f used b here is))) (λ (out : is_marked (reached f) b ≡ false). inl (no_size f used b out)) (cases_Bool (is_marked (reached f) b))

  length_own : (k : ℕ) → k < length (pous_of f) → (v : Variable) (o : Option ℕ) → block_of f v ≡ o → IsUsedBlock f k v → length (own_places f v o) ≡ (if is_step v.role then 2 else size_among (sizes_of f) o)
  length_own k there v None is uses = by_two f v (is_step v.role) (is_stored_action v.role) refl refl
  length_own k there v (Some b) is uses =
      let plain : is_step v.role ≡ false = local_no_step v.role (instance_local f v b is) in
      let low = used_below k b there (uses b is) in
      rw plain (spread_by (size_among (sizes_of f) (Some b)) (block_places f b) (size_among (sizes_of f) (Some b) == 0) refl (block_size b low.0 low.1))

  pub has_size : (k : ℕ) → k < length (pous_of f) → (v : Variable) → IsUsedBlock f k v → HasSize f v
  has_size k there v uses = by_cell (has_cell v.role) (own_places f v (block_of f v)) _ (length_own k there v (block_of f v) refl uses)

  pub have_sizes : (k : ℕ) → k < length (pous_of f) → AllByRecursion (HasSize f) (variables_at f k)
  have_sizes k there = all-each (IsUsedBlock f k) (HasSize f) (has_size k there) (variables_at f k) (used k)
