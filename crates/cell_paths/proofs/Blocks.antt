-- The cells of an instance of a block are those of the block's names, behind the path of the instance.
use Rattle.std.proofs.Common.{◌≡◌, ℕ, zero, suc, ◌≤◌, ◌<◌, Bool, true, false, if◌then◌else◌, List, [], ◌∷◌, ◌++◌, length, Option, Some, None, refl, sym, ap, ◌∙◌, arith, subst, inl, inr, ◌⊎◌, ⊎_elim, append_assoc}
use Rattle.std.specs.Prelude.{◌==◌}
use Rattle.std.specs.List.{AllByRecursion}
use Rattle.std.proofs.lemmas.List.{length-append, length-map, append-nil}
use Rattle.call_order.specs.Uses.{is_among, order_of}
use Rattle.call_order.proofs.Members.{is_among-cases, is_among-either}
use Rattle.call_order.proofs.Orders.{behind_uses, each_in}
use Rattle.source_tree.specs.Syntax.{FileData}
use Rattle.program_tree.specs.Tree.{CellData}
use Rattle.naming.specs.Circles.{uses_in, uses_of}
use Rattle.naming.specs.FileScope.{pous_of}
use Rattle.naming.specs.Scopes.{Variable, block_of}
use Rattle.typing.specs.Places.{has_cell, in_order, size_among, sizes_of, variables_at}
use Rattle.typing.specs.TypedPrograms.{cells_of_variable, cells_of, block_cells, path_behind}
use Rattle.typed_cells.specs.Premises.{IsUsedBlock, UsesItsBlocks, IsOrdered}
use Rattle.typed_cells.proofs.Lists.{all-each, all-in_order}

abbrev pub Blocks : Type 0
Blocks = Option (List ℕ) → ℕ → List CellData

-- ---- the cells of names, where their blocks have the same cells

abbrev IsAlike : FileData → Blocks → Blocks → Variable → Type 0
IsAlike f one other v = (b : ℕ) → block_of f v ≡ Some b → (path : Option (List ℕ)) → one path b ≡ other path b

alike_variable : (f : FileData) (one other : Blocks) (inside : Bool) (before : Option (List ℕ)) (v : Variable) (o : Option ℕ) → block_of f v ≡ o → IsAlike f one other v
    → cells_of_variable f one inside before v o ≡ cells_of_variable f other inside before v o
alike_variable f one other inside before v None is alike = refl
alike_variable f one other inside before v (Some b) is alike = ap (λ (cs : List CellData). if size_among (sizes_of f) (Some b) == 0 then [] else cs) (alike b is (path_behind before v.name))

alike_cells : (f : FileData) (one other : Blocks) (inside : Bool) (before : Option (List ℕ)) (vs : List Variable) → AllByRecursion (IsAlike f one other) vs
    → cells_of f one inside before vs ≡ cells_of f other inside before vs
alike_cells f one other inside before [] all = refl
alike_cells f one other inside before (v ∷ vs) all =
    ap (λ (cs : List CellData). (if has_cell v.role then cs else []) ++ cells_of f one inside before vs) (alike_variable f one other inside before v (block_of f v) refl all.0)
    ∙ ap (λ (cs : List CellData). (if has_cell v.role then cells_of_variable f other inside before v (block_of f v) else []) ++ cs) (alike_cells f one other inside before vs all.1)

-- ---- the cells of blocks

last_or_before : (b k : ℕ) (numbers : List ℕ) → is_among b (numbers ++ k ∷ []) ≡ true → (is_among b numbers ≡ true) ⊎ (b ≡ k)
last_or_before b k numbers here =
    ⊎_elim (λ before. inl before) (λ last. ⊎_elim (λ same. inr same) (λ none. absurd (let h : ⊥ = cc in h)) (is_among-cases b k [] last)) (is_among-either b numbers (k ∷ []) here)

module _ (f : FileData) (used : UsesItsBlocks f) (ordered : IsOrdered f) where
  abbrev order : List ℕ
  order = order_of (uses_of f)

  -- the blocks before have the same cells at each depth that is enough
  abbrev IsGood : List ℕ → Type 0
  IsGood before = (b : ℕ) → is_among b before ≡ true → (d e : ℕ) → length before ≤ d → length before ≤ e → (path : Option (List ℕ)) → block_cells f d path b ≡ block_cells f e path b

  one_block : (before : List ℕ) (k : ℕ) (behind : List ℕ) → order ≡ before ++ k ∷ behind → IsGood before → (d e : ℕ) → length before < d → length before < e → (path : Option (List ℕ))
      → block_cells f d path k ≡ block_cells f e path k
  one_block before k behind split good zero e low high path = absurd (omega (arith, low))
  one_block before k behind split good (suc d) zero low high path = absurd (omega (arith, high))
  one_block before k behind split good (suc d) (suc e) low high path =
      let alike =
      all-each (IsUsedBlock f k) (IsAlike f (block_cells f d) (block_cells f e))
      (λ v is b block other. good b (behind_uses (uses_of f) before behind k b split (is b block)) d e (omega (arith, low)) (omega (arith, high)) other) (variables_at f k) (used k) in
      alike_cells f (block_cells f d) (block_cells f e) true path (in_order false (variables_at f k)) (all-in_order (IsAlike f (block_cells f d) (block_cells f e)) false (variables_at f k) alike)

  one_good : (before : List ℕ) (k : ℕ) (behind : List ℕ) → order ≡ before ++ k ∷ behind → IsGood before → IsGood (before ++ k ∷ [])
  one_good before k behind split good b here d e low high path =
      let long = length-append before (k ∷ []) in
      ⊎_elim (λ earlier. good b earlier d e (omega (arith, long, low)) (omega (arith, long, high)) path)
      (λ same.
      subst (λ (n : ℕ). block_cells f d path n ≡ block_cells f e path n) (sym same) (one_block before k behind split good d e (omega (arith, long, low)) (omega (arith, long, high)) path))
      (last_or_before b k before here)

  all_good : (before ks : List ℕ) → order ≡ before ++ ks → IsGood before → IsGood order
  all_good before [] split good = subst IsGood (sym (split ∙ append-nil before)) good
  all_good before (k ∷ ks) split good = all_good (before ++ k ∷ []) ks (split ∙ sym (append_assoc before (k ∷ []) ks)) (one_good before k ks split good)

  each_good : IsGood order
  each_good = all_good [] order refl (λ b here d e low high path. absurd (let h : ⊥ = cc in h))

  pub among_order : (k : ℕ) → k < length (pous_of f) → is_among k order ≡ true
  among_order k there =
      let graph : length (uses_of f) ≡ length (pous_of f) = length-map (pous_of f) (uses_in f) in
      each_in (uses_of f) (ordered ∙ sym graph) k (omega (arith, graph, there))

  pub block_is : (b : ℕ) → b < length (pous_of f) → (path : Option (List ℕ))
      → block_cells f (length (pous_of f)) path b ≡ cells_of f (block_cells f (length (pous_of f))) true path (in_order false (variables_at f b))
  block_is b there path = each_good b (among_order b there) (length (pous_of f)) (suc (length (pous_of f))) (omega (arith, ordered)) (omega (arith, ordered)) path
