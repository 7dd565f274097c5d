-- In a file that breaks no rule on names, the cells of charts fit where those of the PROGRAM do.
use Rattle.std.proofs.Common.{◌≡◌, ℕ, ◌+◌, ◌^◌, ◌<◌, ◌≤◌, Bool, true, false, if◌then◌else◌, List, [], ◌∷◌, length, max, Option, Some, None, refl, sym, ap, ◌∙◌, inl, inr, ◌⊎◌, ⊎_elim, arith}
use Rattle.std.specs.Prelude.{◌==◌}
use Rattle.std.proofs.Math.Nat.{max-zero, max-eq_left}
use Rattle.std.proofs.lemmas.Bool.{cases_Bool, cases_lt, eq-eqb}
use Rattle.std.proofs.lemmas.List.{length-map}
use Rattle.std.proofs.lemmas.Option.{slice_get_past}
use Rattle.call_order.specs.Marks.{is_marked}
use Rattle.call_order.specs.Uses.{is_among, order_of}
use Rattle.call_order.proofs.Orders.{each_in}
use Rattle.rules.specs.declared.rule.Refusal.{Refusal}
use Rattle.source_tree.specs.Syntax.{FileData}
use Rattle.naming.specs.declared.role.Role.{Role}
use Rattle.naming.specs.declared.role.Role.TheVariants as roles
use Rattle.naming.specs.Broken.{broken_names}
use Rattle.naming.specs.Circles.{uses_in, uses_of, IsBroken}
use Rattle.naming.specs.FileScope.{pous_of}
use Rattle.naming.specs.Scopes.{Variable, is_local, is_step, block_of}
use Rattle.naming.proofs.CircleLemmas.{nothing_left}
use Rattle.typing.specs.Reached.{reached}
use Rattle.typing.specs.Places.{has_cell, size_among, cells_taken, count_of_cells, variables_at, sizes_of}
use Rattle.typing_laws.proofs.CellCounts.{size_is, no_size}
use Rattle.bound_names.proofs.UsedBlocks.{used_blocks, all_ordered}
use Rattle.decl_types.specs.Told.{told_of, told_in}
use Rattle.pou_cells.specs.ToldPlaces.{told_cells}
use Rattle.st_types.specs.ToldCharts.{told_block_cells, told_room}

-- ---- the cells of a block

module _ (f : FileData) (unbroken : (r : Refusal) → ¬ (IsBroken f r)) where
  none : broken_names f ≡ []
  none = nothing_left (broken_names f) (λ r broken. unbroken r (inl broken))

  -- the size of a block is 0 or the count of its cells
  size_at : (b : ℕ) → b < length (pous_of f) → (size_among (sizes_of f) (Some b) ≡ 0) ⊎ (count_of_cells f (sizes_of f) (variables_at f b) ≤ size_among (sizes_of f) (Some b))
  size_at b there =
      let graph : length (uses_of f) ≡ length (pous_of f) = length-map (pous_of f) (uses_in f) in
      let here : is_among b (order_of (uses_of f)) ≡ true = each_in (uses_of f) (all_ordered f none unbroken ∙ sym graph) b (omega (arith, graph, there)) in
      ⊎_elim (λ (is : is_marked (reached f) b ≡ true). inr (let same = size_is f (used_blocks f none) b here is in omega (arith, same)))
      (λ (out : is_marked (reached f) b ≡ false). inl (no_size f (used_blocks f none) b out)) (cases_Bool (is_marked (reached f) b))

  -- a number of no POU has no cells
  block_size : (b : ℕ) → (size_among (sizes_of f) (Some b) ≡ 0) ⊎ (count_of_cells f (sizes_of f) (variables_at f b) ≤ size_among (sizes_of f) (Some b))
  block_size b = ⊎_elim (size_at b) (λ (past : length (pous_of f) ≤ b). inr (rw (slice_get_past (pous_of f) b past) (omega arith))) (cases_lt b (length (pous_of f)))

  -- the cells of a block with a size fit where its size does
  pub block_fits : (place b : ℕ) → (size_among (sizes_of f) (Some b) == 0) ≡ false → place + size_among (sizes_of f) (Some b) < 2 ^ 64 → place + count_of_cells f (sizes_of f) (variables_at f b) < 2 ^ 64
  block_fits place b some room =
      ⊎_elim (λ (empty : size_among (sizes_of f) (Some b) ≡ 0). let other = eq-eqb (size_among (sizes_of f) (Some b)) 0 empty in absurd (let h : ⊥ = cc in h))
      (λ (fits : count_of_cells f (sizes_of f) (variables_at f b) ≤ size_among (sizes_of f) (Some b)). omega (arith, fits, room)) (block_size b)

-- ---- the cells that names ask for

-- an instance is a local variable, which has cells and is no step
local_of : (b : Bool) (o : Option ℕ) (k : ℕ) → (if b then o else None) ≡ Some k → b ≡ true
local_of true o k is = refl
local_of false o k is = absurd (let h : ⊥ = cc in h)

local_cell : (r : Role) → is_local r ≡ true → has_cell r ≡ true
local_cell roles.Local is = refl
local_cell _ is = absurd (let h : ⊥ = cc in h)

local_no_step : (r : Role) → is_local r ≡ true → is_step r ≡ false
local_no_step roles.Local is = refl
local_no_step _ is = absurd (let h : ⊥ = cc in h)

module _ (f : FileData) (s : List ℕ) where
  one_room : (v : Variable) (o : Option ℕ) → block_of f v ≡ o → max (cells_taken f s v) (told_block_cells s o) ≡ cells_taken f s v
  one_room v None is = max-zero (cells_taken f s v)
  one_room v (Some b) is =
      let local : is_local v.role ≡ true = local_of (is_local v.role) _ b is in
      let taken : cells_taken f s v ≡ size_among s (Some b) = rw (local_cell v.role local, local_no_step v.role local, is) refl in
      max-eq_left (omega (arith, taken))

  -- names ask for the cells that are counted
  pub room_is : (vs : List Variable) → told_room s (told_in f vs) ≡ count_of_cells f s vs
  room_is [] = refl
  room_is (v ∷ vs) = let here = one_room v (block_of f v) refl in let rest = room_is vs in omega (arith, here, rest)
