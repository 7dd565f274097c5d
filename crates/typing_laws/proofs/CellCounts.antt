-- The number of cells that M2 counts is the length of the program's list of cells.
use Rattle.std.proofs.Common.{◌≡◌, ◌≢◌, ℕ, zero, suc, ◌+◌, ◌≤◌, ◌<◌, Bool, true, false, not, if◌then◌else◌, List, [], ◌∷◌, ◌++◌, length, get_or, set, replicate, Option, Some, None, refl, sym, ap, ◌∙◌, arith, subst, inl, inr, ◌⊎◌, ⊎_elim, append_assoc}
use Rattle.std.specs.Prelude.{filter, ◌==◌}
use Rattle.std.specs.List.{AllByRecursion}
use Rattle.std.proofs.lemmas.List.{length-append, length-map, length-replicate, get_or-set_same, get_or-set_other, get_or-replicate, get_or_past, length-set, append-nil}
use Rattle.std.proofs.lemmas.Bool.{cases_lt, eqb-true, eq-eqb}
use Rattle.call_order.specs.Marks.{is_marked}
use Rattle.call_order.specs.Uses.{uses_at, is_among, order_of}
use Rattle.call_order.proofs.Members.{is_among-left, is_among-right, is_among-head, is_among-cases, is_among-either, is_among-parts}
use Rattle.call_order.proofs.Orders.{behind_uses, only_once, below_length, each_in}
use Rattle.source_tree.specs.Syntax.{PouData, FileData}
use Rattle.program_tree.specs.Tree.{CellData}
use Rattle.naming.specs.declared.role.Role.{Role}
use Rattle.naming.specs.declared.role.Role.TheVariants as roles
use Rattle.naming.specs.Circles.{uses_in, uses_of}
use Rattle.naming.specs.FileScope.{pous_of, pou_at}
use Rattle.naming.specs.Scopes.{Variable, variables_in_pou, is_local, is_step, block_of}
use Rattle.typing.specs.Reached.{reached, reached_order}
use Rattle.typing.specs.Places.{has_cell, is_stored_action, is_front, in_front, behind_front, in_order, size_among, cells_taken, count_of_cells, variables_in, variables_at, sizes_along, sizes_of}
use Rattle.typing.specs.TypedPrograms.{cells_for, cells_of_variable, cells_of, block_cells, cells_in, path_behind, typed_program}
use Rattle.typing.specs.Pous.{cell_count}

-- each block of an instance of a POU is one that the POU uses
abbrev pub IsUsedBlock : FileData → ℕ → Variable → Type 0
IsUsedBlock f k v = (b : ℕ) → block_of f v ≡ Some b → is_among b (uses_at (uses_of f) k) ≡ true

abbrev pub UsesItsBlocks : FileData → Type 0
UsesItsBlocks f = (k : ℕ) → AllByRecursion (IsUsedBlock f k) (variables_at f k)

-- ---- facts of variables in their order

module _ (P : Variable → Type 0) where
  kept : (test : Variable → Bool) (v : Variable) (vs : List Variable) (b : Bool) → test v ≡ b → P v → AllByRecursion P (filter test vs) → AllByRecursion P (filter test (v ∷ vs))
  kept test v vs true is p ps = rw is (p, ps)
  kept test v vs false is p ps = rw is ps

  all-filter : (test : Variable → Bool) (vs : List Variable) → AllByRecursion P vs → AllByRecursion P (filter test vs)
  all-filter test [] all = all
  all-filter test (v ∷ vs) all = kept test v vs (test v) refl all.0 (all-filter test vs all.1)

  all-append : (vs ws : List Variable) → AllByRecursion P vs → AllByRecursion P ws → AllByRecursion P (vs ++ ws)
  all-append [] ws all others = others
  all-append (v ∷ vs) ws all others = (all.0, all-append vs ws all.1 others)

  all-in_order : (of_function : Bool) (vs : List Variable) → AllByRecursion P vs → AllByRecursion P (in_order of_function vs)
  all-in_order of_function vs all =
      all-append (in_front of_function vs) (behind_front of_function vs) (all-filter (λ v. is_front of_function v.role) vs all) (all-filter (λ v. not (is_front of_function v.role)) vs all)

all-each : (P Q : Variable → Type 0) → ((v : Variable) → P v → Q v) → (vs : List Variable) → AllByRecursion P vs → AllByRecursion Q vs
all-each P Q each [] all = tt
all-each P Q each (v ∷ vs) all = (each v all.0, all-each P Q each vs all.1)

-- ---- counts of variables in their order

count-append : (f : FileData) (s : List ℕ) (vs ws : List Variable) → count_of_cells f s (vs ++ ws) ≡ count_of_cells f s vs + count_of_cells f s ws
count-append f s [] ws = omega arith
count-append f s (v ∷ vs) ws = let rest = count-append f s vs ws in omega (arith, rest)

parts : (f : FileData) (s : List ℕ) (test : Variable → Bool) (v : Variable) (vs : List Variable) (b : Bool) → test v ≡ b
    → count_of_cells f s (filter test vs) + count_of_cells f s (filter (λ w. not (test w)) vs) ≡ count_of_cells f s vs
    → count_of_cells f s (filter test (v ∷ vs)) + count_of_cells f s (filter (λ w. not (test w)) (v ∷ vs)) ≡ count_of_cells f s (v ∷ vs)
parts f s test v vs true is rest = rw is (omega (arith, rest))
parts f s test v vs false is rest = rw is (omega (arith, rest))

count-parts : (f : FileData) (s : List ℕ) (test : Variable → Bool) (vs : List Variable) → count_of_cells f s (filter test vs) + count_of_cells f s (filter (λ v. not (test v)) vs) ≡ count_of_cells f s vs
count-parts f s test [] = refl
count-parts f s test (v ∷ vs) = parts f s test v vs (test v) refl (count-parts f s test vs)

pub count-in_order : (f : FileData) (s : List ℕ) (of_function : Bool) (vs : List Variable) → count_of_cells f s (in_order of_function vs) ≡ count_of_cells f s vs
count-in_order f s of_function vs = count-append f s (in_front of_function vs) (behind_front of_function vs) ∙ count-parts f s (λ v. is_front of_function v.role) vs

-- ---- cells of names

-- an instance is a local variable, and no step
local_of : (b : Bool) (o : Option ℕ) (k : ℕ) → (if b then o else None) ≡ Some k → b ≡ true
local_of true o k is = refl
local_of false o k is = absurd (let h : ⊥ = cc in h)

no_step : (r : Role) → is_local r ≡ true → is_step r ≡ false
no_step roles.Input is = refl
no_step roles.Output is = refl
no_step roles.Local is = refl
no_step roles.Temporary is = refl
no_step roles.Constant is = refl
no_step roles.Result is = refl
no_step roles.Step is = absurd (let h : ⊥ = cc in h)
no_step roles.InitialStep is = absurd (let h : ⊥ = cc in h)
no_step roles.Action is = refl
no_step roles.StoredAction is = refl
no_step roles.Transition is = refl

-- what the cells of a block are told by: it has none, or as many as its size says
abbrev IsSpread : List ℕ → (Option (List ℕ) → ℕ → List CellData) → ℕ → Type 0
IsSpread s of_block b = (get_or s b 0 ≡ 0) ⊎ ((path : Option (List ℕ)) → length (of_block path b) ≡ get_or s b 0)

abbrev HasSpreadBlock : FileData → (Option (List ℕ) → ℕ → List CellData) → Variable → Type 0
HasSpreadBlock f of_block v = (b : ℕ) → block_of f v ≡ Some b → IsSpread (sizes_of f) of_block b

by_two : (f : FileData) (inside : Bool) (before : Option (List ℕ)) (v : Variable) (step stored : Bool) → is_step v.role ≡ step → is_stored_action v.role ≡ stored → length (cells_for f inside before v) ≡ (if step then 2 else 1)
by_two f inside before v true stored is told = rw is refl
by_two f inside before v false true is told = rw (is, told) refl
by_two f inside before v false false is told = rw (is, told) refl

spread_by : (n : ℕ) (cells : List CellData) (b : Bool) → (n == 0) ≡ b → (n ≡ 0) ⊎ (length cells ≡ n) → length (if n == 0 then [] else cells) ≡ n
spread_by n cells true is known = rw is (sym (eqb-true n 0 is))
spread_by n cells false is known = rw is (⊎_elim (λ none. let other = eq-eqb n 0 none in cc) (λ told. told) known)

spread_size : (n : ℕ) (cells : List CellData) → (n ≡ 0) ⊎ (length cells ≡ n) → length (if n == 0 then [] else cells) ≡ n
spread_size n cells known = spread_by n cells (n == 0) refl known

one_variable : (f : FileData) (of_block : Option (List ℕ) → ℕ → List CellData) (inside : Bool) (before : Option (List ℕ)) (v : Variable) (o : Option ℕ) → block_of f v ≡ o → HasSpreadBlock f of_block v
    → length (cells_of_variable f of_block inside before v o) ≡ (if is_step v.role then 2 else size_among (sizes_of f) o)
one_variable f of_block inside before v None is spread = by_two f inside before v (is_step v.role) (is_stored_action v.role) refl refl
one_variable f of_block inside before v (Some b) is spread =
    let plain : is_step v.role ≡ false = no_step v.role (local_of (is_local v.role) _ b is) in
    let told = spread_size (get_or (sizes_of f) b 0) (of_block (path_behind before v.name) b) (⊎_elim (λ none. inl none) (λ each. inr (each (path_behind before v.name))) (spread b is)) in
    rw plain told

one_name : (f : FileData) (of_block : Option (List ℕ) → ℕ → List CellData) (inside : Bool) (before : Option (List ℕ)) (v : Variable) (has : Bool) → has_cell v.role ≡ has → HasSpreadBlock f of_block v
    → length (if has_cell v.role then cells_of_variable f of_block inside before v (block_of f v) else []) ≡ cells_taken f (sizes_of f) v
one_name f of_block inside before v true is spread = rw is (one_variable f of_block inside before v (block_of f v) refl spread)
one_name f of_block inside before v false is spread = rw is refl

length-cells_of : (f : FileData) (of_block : Option (List ℕ) → ℕ → List CellData) (inside : Bool) (before : Option (List ℕ)) (vs : List Variable) → AllByRecursion (HasSpreadBlock f of_block) vs
    → length (cells_of f of_block inside before vs) ≡ count_of_cells f (sizes_of f) vs
length-cells_of f of_block inside before [] all = refl
length-cells_of f of_block inside before (v ∷ vs) all =
    let own = if has_cell v.role then cells_of_variable f of_block inside before v (block_of f v) else [] in
    let here = one_name f of_block inside before v (has_cell v.role) refl all.0 in
    let rest = length-cells_of f of_block inside before vs all.1 in
    length-append own (cells_of f of_block inside before vs) ∙ omega (arith, here, rest)

-- ---- sizes along the order

-- the cells of variables, where the sizes of their blocks are the same
same_size : (f : FileData) (s t : List ℕ) (o : Option ℕ) → ((b : ℕ) → o ≡ Some b → get_or s b 0 ≡ get_or t b 0) → size_among s o ≡ size_among t o
same_size f s t None same = refl
same_size f s t (Some b) same = same b refl

same_count : (f : FileData) (s t : List ℕ) (vs : List Variable) → AllByRecursion (λ v. (b : ℕ) → block_of f v ≡ Some b → get_or s b 0 ≡ get_or t b 0) vs → count_of_cells f s vs ≡ count_of_cells f t vs
same_count f s t [] all = refl
same_count f s t (v ∷ vs) all = rw (same_size f s t (block_of f v) all.0, same_count f s t vs all.1) refl

-- what is known of the sizes when the numbers `before` have been passed, of which those with a mark count
record AreSizes (f : FileData) (marks : List Bool) (before s : List ℕ) : Type 0 where
  long : length s ≡ length (pous_of f)
  closed : (b u : ℕ) → is_among b before ≡ true → is_among u (uses_at (uses_of f) b) ≡ true → is_among u before ≡ true
  counted : (b : ℕ) → is_among b before ≡ true → is_marked marks b ≡ true → get_or s b 0 ≡ count_of_cells f s (variables_at f b)
  unmarked : (b : ℕ) → is_marked marks b ≡ false → get_or s b 0 ≡ 0

apart_from : (u k : ℕ) (numbers : List ℕ) → is_among u numbers ≡ true → is_among k numbers ≡ false → u ≢ k
apart_from u k numbers here gone same = let there : is_among k numbers ≡ true = subst (λ (n : ℕ). is_among n numbers ≡ true) same here in cc

last_or_before : (b k : ℕ) (numbers : List ℕ) → is_among b (numbers ++ k ∷ []) ≡ true → (is_among b numbers ≡ true) ⊎ (b ≡ k)
last_or_before b k numbers here =
    ⊎_elim (λ before. inl before) (λ last. ⊎_elim (λ same. inr same) (λ none. absurd (let h : ⊥ = cc in h)) (is_among-cases b k [] last)) (is_among-either b numbers (k ∷ []) here)

module _ (f : FileData) (used : UsesItsBlocks f) where
  abbrev order : List ℕ
  order = order_of (uses_of f)

  -- sizes that agree on all numbers before a number count its cells alike
  agreed : (b : ℕ) (before s t : List ℕ) → ((u : ℕ) → is_among u (uses_at (uses_of f) b) ≡ true → is_among u before ≡ true) → ((u : ℕ) → is_among u before ≡ true → get_or s u 0 ≡ get_or t u 0)
      → count_of_cells f s (variables_at f b) ≡ count_of_cells f t (variables_at f b)
  agreed b before s t within same =
      same_count f s t (variables_at f b)
      (all-each (IsUsedBlock f b) (λ v. (u : ℕ) → block_of f v ≡ Some u → get_or s u 0 ≡ get_or t u 0) (λ v is u block. same u (within u (is u block))) (variables_at f b) (used b))

  module _ (marks : List Bool) (before : List ℕ) (k : ℕ) (behind s : List ℕ) (split : order ≡ before ++ k ∷ behind) (sizes : AreSizes f marks before s) where
    closed_behind : (b u : ℕ) → is_among b (before ++ k ∷ []) ≡ true → is_among u (uses_at (uses_of f) b) ≡ true → is_among u before ≡ true
    closed_behind b u here uses =
        ⊎_elim (λ earlier. sizes.closed b u earlier uses)
        (λ same. behind_uses (uses_of f) before behind k u split (subst (λ (n : ℕ). is_among u (uses_at (uses_of f) n) ≡ true) same uses)) (last_or_before b k before here)

    pass-unmarked : is_marked marks k ≡ false → AreSizes f marks (before ++ k ∷ []) s
    pass-unmarked out = record {
      long = sizes.long;
      closed = λ b u here uses. is_among-left u before (k ∷ []) (closed_behind b u here uses);
      counted = λ b here marked. ⊎_elim (λ earlier. sizes.counted b earlier marked)
          (λ same. let both : is_marked marks k ≡ true = subst (λ (n : ℕ). is_marked marks n ≡ true) same marked in absurd (let h : ⊥ = cc in h)) (last_or_before b k before here);
      unmarked = sizes.unmarked;
    }

    pass-marked : is_marked marks k ≡ true → AreSizes f marks (before ++ k ∷ []) (set s k (count_of_cells f s (variables_at f k)))
    pass-marked marked_k =
        let n = count_of_cells f s (variables_at f k) in
        let t = set s k n in
        let gone : is_among k before ≡ false = only_once (uses_of f) before behind k split in
        let agree : (u : ℕ) → is_among u before ≡ true → get_or t u 0 ≡ get_or s u 0 = λ u here. get_or-set_other s k u n 0 (apart_from u k before here gone) in
        let same_cells : (b : ℕ) → is_among b (before ++ k ∷ []) ≡ true → count_of_cells f s (variables_at f b) ≡ count_of_cells f t (variables_at f b) =
        λ b here. agreed b before s t (λ u uses. closed_behind b u here uses) (λ u low. sym (agree u low)) in
        let in_order_k : is_among k order ≡ true = subst (λ (l : List ℕ). is_among k l ≡ true) (sym split) (is_among-right k before (k ∷ behind) (is_among-head k behind)) in
        let below : k < length (pous_of f) = subst (λ (m : ℕ). k < m) (length-map (pous_of f) (uses_in f)) (below_length (uses_of f) k in_order_k) in
        let room : k < length s = omega (arith, below, sizes.long) in
        record {
          long = length-set s k n ∙ sizes.long;
          closed = λ b u here uses. is_among-left u before (k ∷ []) (closed_behind b u here uses);
          counted = λ b here marked. ⊎_elim (λ earlier. agree b earlier ∙ sizes.counted b earlier marked ∙ same_cells b here)
              (λ same. let at_k : get_or t k 0 ≡ n = get_or-set_same s k n 0 room in
              ap (λ (m : ℕ). get_or t m 0) same ∙ at_k ∙ ap (λ (m : ℕ). count_of_cells f s (variables_at f m)) (sym same) ∙ same_cells b here)
              (last_or_before b k before here);
          unmarked = λ b out. get_or-set_other s k b n 0 (λ same. let no_mark : is_marked marks k ≡ false = subst (λ (m : ℕ). is_marked marks m ≡ false) same out in let h : ⊥ = cc in h) ∙ sizes.unmarked b out;
        }

  passed : (marks : List Bool) (before : List ℕ) (k : ℕ) (behind s : List ℕ) → order ≡ before ++ k ∷ behind → AreSizes f marks before s → (b : Bool) → is_marked marks k ≡ b
      → ((t : List ℕ) → AreSizes f marks (before ++ k ∷ []) t → AreSizes f marks order (sizes_along f t (filter (is_marked marks) behind)))
      → AreSizes f marks order (sizes_along f s (filter (is_marked marks) (k ∷ behind)))
  passed marks before k behind s split sizes true is rest = rw is (rest (set s k (count_of_cells f s (variables_at f k))) (pass-marked marks before k behind s split sizes is))
  passed marks before k behind s split sizes false is rest = rw is (rest s (pass-unmarked marks before k behind s split sizes is))

  along : (marks : List Bool) (before ks s : List ℕ) → order ≡ before ++ ks → AreSizes f marks before s → AreSizes f marks order (sizes_along f s (filter (is_marked marks) ks))
  along marks before [] s split sizes = subst (λ (l : List ℕ). AreSizes f marks l s) (sym (split ∙ append-nil before)) sizes
  along marks before (k ∷ ks) s split sizes =
      passed marks before k ks s split sizes (is_marked marks k) refl
      (λ t known. along marks (before ++ k ∷ []) ks t (split ∙ sym (append_assoc before (k ∷ []) ks)) known)

  zeros_at : (n b : ℕ) → get_or (replicate {A = ℕ} n 0) b 0 ≡ 0
  zeros_at n b = ⊎_elim (λ (low : b < n). get_or-replicate n b 0 0 low) (λ (high : n ≤ b). get_or_past (replicate n 0) b 0 (let l = length-replicate {A = ℕ} n 0 in omega (arith, l, high))) (cases_lt b n)

  final_sizes : AreSizes f (reached f) order (sizes_of f)
  unfolding sizes_of reached_order
  final_sizes =
      along (reached f) [] order (replicate (length (pous_of f)) 0) refl
      (record {
        long = length-replicate (length (pous_of f)) 0;
        closed = λ b u here uses. absurd (let h : ⊥ = cc in h);
        counted = λ b here marked. absurd (let h : ⊥ = cc in h);
        unmarked = λ b out. zeros_at (length (pous_of f)) b;
      })

  -- a POU that is reached has as many cells as its names, and of any other none is counted
  pub size_is : (k : ℕ) → is_among k order ≡ true → is_marked (reached f) k ≡ true → get_or (sizes_of f) k 0 ≡ count_of_cells f (sizes_of f) (variables_at f k)
  size_is k here marked = final_sizes.counted k here marked

  pub no_size : (k : ℕ) → is_marked (reached f) k ≡ false → get_or (sizes_of f) k 0 ≡ 0
  no_size k out = final_sizes.unmarked k out

  -- ---- the cells of blocks

  abbrev IsGood : List ℕ → Type 0
  IsGood before = (b : ℕ) → is_among b before ≡ true → (depth : ℕ) → length before ≤ depth → IsSpread (sizes_of f) (block_cells f depth) b

  one_block : (before : List ℕ) (k : ℕ) (behind : List ℕ) → order ≡ before ++ k ∷ behind → IsGood before → (depth : ℕ) → length before < depth → IsSpread (sizes_of f) (block_cells f depth) k
  one_block before k behind split good zero low = absurd (omega arith)
  one_block before k behind split good (suc depth) low = by (is_marked (reached f) k) refl
    where
      blocks : AllByRecursion (HasSpreadBlock f (block_cells f depth)) (in_order false (variables_at f k))
      blocks =
          all-in_order (HasSpreadBlock f (block_cells f depth)) false (variables_at f k)
          (all-each (IsUsedBlock f k) (HasSpreadBlock f (block_cells f depth)) (λ v is u block. good u (behind_uses (uses_of f) before behind k u split (is u block)) depth (omega arith)) (variables_at f k) (used k))

      in_order_k : is_among k order ≡ true
      in_order_k = subst (λ (l : List ℕ). is_among k l ≡ true) (sym split) (is_among-right k before (k ∷ behind) (is_among-head k behind))

      by : (b : Bool) → is_marked (reached f) k ≡ b → IsSpread (sizes_of f) (block_cells f (suc depth)) k
      by true is =
          inr (λ path. length-cells_of f (block_cells f depth) true path (in_order false (variables_at f k)) blocks ∙ count-in_order f (sizes_of f) false (variables_at f k) ∙ sym (final_sizes.counted k in_order_k is))
      by false is = inl (final_sizes.unmarked k is)

  one_good : (before : List ℕ) (k : ℕ) (behind : List ℕ) → order ≡ before ++ k ∷ behind → IsGood before → IsGood (before ++ k ∷ [])
  one_good before k behind split good b here depth low =
      let long = length-append before (k ∷ []) in
      ⊎_elim (λ earlier. good b earlier depth (omega (arith, long, low)))
      (λ same. subst (λ (n : ℕ). IsSpread (sizes_of f) (block_cells f depth) n) (sym same) (one_block before k behind split good depth (omega (arith, long, low)))) (last_or_before b k before here)

  all_good : (before ks : List ℕ) → order ≡ before ++ ks → IsGood before → IsGood order
  all_good before [] split good = subst IsGood (sym (split ∙ append-nil before)) good
  all_good before (k ∷ ks) split good = all_good (before ++ k ∷ []) ks (split ∙ sym (append_assoc before (k ∷ []) ks)) (one_good before k ks split good)

  each_good : IsGood order
  each_good = all_good [] order refl (λ b here depth low. absurd (let h : ⊥ = cc in h))

  module _ (ordered : length order ≡ length (pous_of f)) (k : ℕ) (there : k < length (pous_of f)) where
    used_in_order : (u : ℕ) → is_among u (uses_at (uses_of f) k) ≡ true → is_among u order ≡ true
    used_in_order u uses =
        let graph : length (uses_of f) ≡ length (pous_of f) = length-map (pous_of f) (uses_in f) in
        let here : is_among k order ≡ true = each_in (uses_of f) (ordered ∙ sym graph) k (omega (arith, graph, there)) in
        let split = is_among-parts k order here in
        subst (λ (l : List ℕ). is_among u l ≡ true) (sym split.2) (is_among-left u split.0 (k ∷ split.1) (behind_uses (uses_of f) split.0 split.1 k u split.2 uses))

    -- the cells of a POU, with their paths or without
    pub length-cells_in : (before : Option (List ℕ)) (of_function : Bool) → length (cells_in f before of_function (variables_at f k)) ≡ count_of_cells f (sizes_of f) (variables_at f k)
    length-cells_in before of_function =
        let depth = length (pous_of f) in
        let blocks = all-each (IsUsedBlock f k) (HasSpreadBlock f (block_cells f depth)) (λ v is u block. each_good u (used_in_order u (is u block)) depth (omega (arith, ordered))) (variables_at f k) (used k) in
        length-cells_of f (block_cells f depth) false before (in_order of_function (variables_at f k)) (all-in_order (HasSpreadBlock f (block_cells f depth)) of_function (variables_at f k) blocks)
        ∙ count-in_order f (sizes_of f) of_function (variables_at f k)

    -- the cells of a PROGRAM
    pub length-cells : (p : PouData) → pou_at f k ≡ Some p → length (typed_program f k p).cells ≡ cell_count f k
    length-cells p is =
        let same : variables_in_pou p ≡ variables_at f k = sym (ap variables_in is) in
        let told = ap (λ (vs : List Variable). length (cells_in f (Some []) false vs)) same ∙ length-cells_in (Some []) false in
        omega (arith, told)
