-- The cells of a block take the same at each depth that is enough and behind each path.
use Rattle.std.proofs.Common.{◌≡◌, ℕ, zero, suc, ◌≤◌, ◌<◌, Bool, true, false, if◌then◌else◌, List, [], ◌∷◌, ◌++◌, length, map, Option, Some, None, refl, sym, ap, ◌∙◌, arith, subst, inl, inr, ◌⊎◌, ⊎_elim, append_assoc}
use Rattle.std.specs.Prelude.{◌==◌}
use Rattle.std.specs.List.{AllByRecursion}
use Rattle.std.proofs.lemmas.List.{length-append, length-map, append-nil, map-append}
use Rattle.call_order.specs.Uses.{uses_at, is_among, order_of}
use Rattle.call_order.proofs.Members.{is_among-left, is_among-cases, is_among-either, is_among-parts}
use Rattle.call_order.proofs.Orders.{behind_uses, each_in}
use Rattle.source_tree.specs.Syntax.{FileData}
use Rattle.program_tree.specs.Tree.{CellData}
use Rattle.program_tree.specs.declared.scratch.Scratch.{Scratch}
use Rattle.program_tree.specs.Places.{of_cell}
use Rattle.naming.specs.Circles.{uses_in, uses_of}
use Rattle.naming.specs.FileScope.{pous_of}
use Rattle.naming.specs.Scopes.{Variable, is_step, block_of}
use Rattle.typing.specs.Places.{has_cell, is_stored_action, in_order, size_among, sizes_of, variables_at}
use Rattle.typing.specs.TypedPrograms.{cells_for, cells_of_variable, cells_of, block_cells, cells_in, path_behind}
use Rattle.typed_cells.specs.Places.{block_places}
use Rattle.typed_cells.specs.Variables.{plain_places, own_places, variable_places, variables_places}
use Rattle.typed_cells.specs.Premises.{IsUsedBlock, UsesItsBlocks, IsOrdered}
use Rattle.typed_cells.proofs.Lists.{all-each, all-in_order}

abbrev Blocks : Type 0
Blocks = Option (List ℕ) → ℕ → List CellData

abbrev taken : List CellData → List Scratch
taken cs = map of_cell cs

-- ---- the cells of names, where those of their blocks take what places take

abbrev IsTold : FileData → Blocks → Variable → Type 0
IsTold f of_block v = (b : ℕ) → block_of f v ≡ Some b → (path : Option (List ℕ)) → taken (of_block path b) ≡ block_places f b

plain_by : (f : FileData) (inside : Bool) (before : Option (List ℕ)) (v : Variable) (step stored : Bool) → is_step v.role ≡ step → is_stored_action v.role ≡ stored → taken (cells_for f inside before v) ≡ plain_places f v
plain_by f inside before v true stored is told = rw is refl
plain_by f inside before v false true is told = rw (is, told) refl
plain_by f inside before v false false is told = rw (is, told) refl

unless : (b : Bool) (cells : List CellData) (xs : List Scratch) → taken cells ≡ xs → taken (if b then [] else cells) ≡ (if b then [] else xs)
unless true cells xs same = refl
unless false cells xs same = same

own_is : (f : FileData) (of_block : Blocks) (inside : Bool) (before : Option (List ℕ)) (v : Variable) (o : Option ℕ) → block_of f v ≡ o → IsTold f of_block v
    → taken (cells_of_variable f of_block inside before v o) ≡ own_places f v o
own_is f of_block inside before v None is told = plain_by f inside before v (is_step v.role) (is_stored_action v.role) refl refl
own_is f of_block inside before v (Some b) is told =
    unless (size_among (sizes_of f) (Some b) == 0) (of_block (path_behind before v.name) b) (block_places f b) (told b is (path_behind before v.name))

where_cell : (b : Bool) (cells : List CellData) (xs : List Scratch) → taken cells ≡ xs → taken (if b then cells else []) ≡ (if b then xs else [])
where_cell true cells xs same = same
where_cell false cells xs same = refl

pub cells_take : (f : FileData) (of_block : Blocks) (inside : Bool) (before : Option (List ℕ)) (vs : List Variable) → AllByRecursion (IsTold f of_block) vs
    → taken (cells_of f of_block inside before vs) ≡ variables_places f vs
cells_take f of_block inside before [] all = refl
cells_take f of_block inside before (v ∷ vs) all =
    let own = if has_cell v.role then cells_of_variable f of_block inside before v (block_of f v) else [] in
    let here = where_cell (has_cell v.role) (cells_of_variable f of_block inside before v (block_of f v)) (own_places f v (block_of f v)) (own_is f of_block inside before v (block_of f v) refl all.0) in
    map-append of_cell own (cells_of f of_block inside before vs) ∙ ap (λ (l : List Scratch). l ++ taken (cells_of f of_block inside before vs)) here
    ∙ ap (λ (l : List Scratch). variable_places f v ++ l) (cells_take f of_block inside before vs all.1)

-- ---- the cells of blocks

abbrev in_block : FileData → ℕ → List Scratch
in_block f b = variables_places f (in_order false (variables_at f b))

last_or_before : (b k : ℕ) (numbers : List ℕ) → is_among b (numbers ++ k ∷ []) ≡ true → (is_among b numbers ≡ true) ⊎ (b ≡ k)
last_or_before b k numbers here =
    ⊎_elim (λ before. inl before) (λ last. ⊎_elim (λ same. inr same) (λ none. absurd (let h : ⊥ = cc in h)) (is_among-cases b k [] last)) (is_among-either b numbers (k ∷ []) here)

module _ (f : FileData) (used : UsesItsBlocks f) (ordered : IsOrdered f) where
  abbrev order : List ℕ
  order = order_of (uses_of f)

  abbrev IsGood : List ℕ → Type 0
  IsGood before = (b : ℕ) → is_among b before ≡ true → (depth : ℕ) → length before ≤ depth → (path : Option (List ℕ)) → taken (block_cells f depth path b) ≡ in_block f b

  -- the blocks of a POU that stands behind good ones
  told : (before : List ℕ) (k : ℕ) → ((u : ℕ) → is_among u (uses_at (uses_of f) k) ≡ true → is_among u before ≡ true) → length before ≤ length (pous_of f) → IsGood before
      → (depth : ℕ) → length before ≤ depth → AllByRecursion (IsTold f (block_cells f depth)) (variables_at f k)
  told before k within low good depth enough =
      all-each (IsUsedBlock f k) (IsTold f (block_cells f depth))
      (λ v is b block path.
      let here = within b (is b block) in
      good b here depth enough path ∙ sym (good b here (length (pous_of f)) low None)) (variables_at f k) (used k)

  one_block : (before : List ℕ) (k : ℕ) (behind : List ℕ) → order ≡ before ++ k ∷ behind → IsGood before → (depth : ℕ) → length before < depth → (path : Option (List ℕ))
      → taken (block_cells f depth path k) ≡ in_block f k
  one_block before k behind split good zero low path = absurd (omega arith)
  one_block before k behind split good (suc depth) low path =
      let long = ap (λ (l : List ℕ). length l) split ∙ length-append before (k ∷ behind) in
      let short : length before ≤ length (pous_of f) = omega (arith, long, ordered) in
      cells_take f (block_cells f depth) true path (in_order false (variables_at f k))
      (all-in_order (IsTold f (block_cells f depth)) false (variables_at f k) (told before k (λ u uses. behind_uses (uses_of f) before behind k u split uses) short good depth (omega (arith, low))))

  one_good : (before : List ℕ) (k : ℕ) (behind : List ℕ) → order ≡ before ++ k ∷ behind → IsGood before → IsGood (before ++ k ∷ [])
  one_good before k behind split good b here depth low path =
      let long = length-append before (k ∷ []) in
      ⊎_elim (λ earlier. good b earlier depth (omega (arith, long, low)) path)
      (λ same.
      subst (λ (n : ℕ). taken (block_cells f depth path n) ≡ in_block f n) (sym same) (one_block before k behind split good depth (omega (arith, long, low)) path)) (last_or_before b k before here)

  all_good : (before ks : List ℕ) → order ≡ before ++ ks → IsGood before → IsGood order
  all_good before [] split good = subst IsGood (sym (split ∙ append-nil before)) good
  all_good before (k ∷ ks) split good = all_good (before ++ k ∷ []) ks (split ∙ sym (append_assoc before (k ∷ []) ks)) (one_good before k ks split good)

  each_good : IsGood order
  each_good = all_good [] order refl (λ b here depth low path. absurd (let h : ⊥ = cc in h))

  among_order : (k : ℕ) → k < length (pous_of f) → is_among k order ≡ true
  among_order k there =
      let graph : length (uses_of f) ≡ length (pous_of f) = length-map (pous_of f) (uses_in f) in
      each_in (uses_of f) (ordered ∙ sym graph) k (omega (arith, graph, there))

  -- what the cells of an instance of a block take
  pub block_takes : (b : ℕ) → b < length (pous_of f) → block_places f b ≡ variables_places f (in_order false (variables_at f b))
  block_takes b there = each_good b (among_order b there) (length (pous_of f)) (omega (arith, ordered)) None

  -- and those of any POU
  pub cells_in_take : (k : ℕ) → k < length (pous_of f) → (before : Option (List ℕ)) (of_function : Bool) → taken (cells_in f before of_function (variables_at f k)) ≡ variables_places f (in_order of_function (variables_at f k))
  cells_in_take k there before of_function =
      let split = is_among-parts k order (among_order k there) in
      let within : (u : ℕ) → is_among u (uses_at (uses_of f) k) ≡ true → is_among u order ≡ true =
      λ u uses. subst (λ (l : List ℕ). is_among u l ≡ true) (sym split.2) (is_among-left u split.0 (k ∷ split.1) (behind_uses (uses_of f) split.0 split.1 k u split.2 uses)) in
      let depth = length (pous_of f) in
      cells_take f (block_cells f depth) false before (in_order of_function (variables_at f k))
      (all-in_order (IsTold f (block_cells f depth)) of_function (variables_at f k) (told order k within (omega (arith, ordered)) each_good depth (omega (arith, ordered))))
