-- Sizes that no number of 64 bits passes.
use Rattle.std.proofs.Common.{◌≡◌, ℕ, zero, suc, ◌+◌, ◌-◌, ◌^◌, ◌<◌, ◌≤◌, Bool, true, false, if◌then◌else◌, List, [], ◌∷◌, map, replicate, set, Option, Some, None, refl, sym, ap, ◌∙◌, arith, ⊎_elim, add_comm}
use Rattle.std.specs.Prelude.{nat_lt, nat_le}
use Rattle.std.specs.List.{AllByRecursion}
use Rattle.std.proofs.Math.Nat.{min-eq_left, min-eq_right}
use Rattle.std.proofs.Math.ListN.{get_or-map as get_or-mapped}
use Rattle.std.proofs.lemmas.List.{map-set}
use Rattle.std.proofs.lemmas.Bool.{cases_lt, lt-ltb, le-ltb, le-leb, lt-leb}
use Rattle.source_tree.specs.Syntax.{PouTypeData, function, function_block, program, FileData}
use Rattle.naming.specs.Scopes.{is_step}
use Rattle.typing.specs.declared.next.Next.{Next}
use Rattle.typing.specs.declared.member.Member.{Member}
use Rattle.typing.specs.Places.{has_cell, is_front, size_among, count_of_cells, variables_at, sizes_along}
use Rattle.decl_types.specs.Told.{ToldData}
use Rattle.pou_cells.specs.ToldPlaces.{told_at, told_cells, told_count, told_front, told_first_places, told_first_place, told_places_behind}
use Rattle.pou_cells.specs.ToldMembers.{told_member, told_members_from, told_members}
use Rattle.pou_cells.specs.Placing.{capped, capped_cells, capped_along}
use Rattle.pou_cells.proofs.ToldLemmas.{told_count-is}

-- a number that is passed, or is not
capped_small : (n : ℕ) → n < 2 ^ 64 - 1 → capped n ≡ n
capped_small n small = min-eq_left (omega (arith, small))

capped_great : (n : ℕ) → 2 ^ 64 - 1 ≤ n → capped n ≡ 2 ^ 64 - 1
capped_great n great = min-eq_right great

-- a sum of which a part is capped
capped_right : (a b : ℕ) → capped (a + capped b) ≡ capped (a + b)
capped_right a b =
    ⊎_elim (λ (x : b < 2 ^ 64 - 1). rw (capped_small b x) refl)
    (λ (x : 2 ^ 64 - 1 ≤ b). rw (capped_great b x) (capped_great (a + (2 ^ 64 - 1)) (omega arith) ∙ sym (capped_great (a + b) (omega (arith, x))))) (cases_lt b (2 ^ 64 - 1))

capped_left : (a b : ℕ) → capped (capped a + b) ≡ capped (a + b)
capped_left a b = ap capped (add_comm (capped a) b) ∙ capped_right b a ∙ ap capped (add_comm b a)

capped_sum : (a b : ℕ) → capped (capped a + capped b) ≡ capped (a + b)
capped_sum a b = capped_left a (capped b) ∙ capped_right a b

capped_twice : (n : ℕ) → capped (capped n) ≡ capped n
capped_twice n =
    let inside : capped n + 0 ≡ capped n = omega arith in
    let outside : n + 0 ≡ n = omega arith in
    sym (ap capped inside) ∙ capped_left n 0 ∙ ap capped outside

-- a number of 64 bits
pub capped_word : (n : ℕ) → n < 2 ^ 64 → capped n ≡ n
capped_word n word = min-eq_left (omega (arith, word))

-- a bound that a number passes or not
pub capped_past : (m n : ℕ) → m < 2 ^ 64 - 1 → nat_lt m (capped n) ≡ nat_lt m n
capped_past m n small =
    ⊎_elim (λ (x : n < 2 ^ 64 - 1). ap (nat_lt m) (capped_small n x))
    (λ (x : 2 ^ 64 - 1 ≤ n). ap (nat_lt m) (capped_great n x) ∙ lt-ltb m (2 ^ 64 - 1) small ∙ sym (lt-ltb m n (omega (arith, small, x)))) (cases_lt n (2 ^ 64 - 1))

pub capped_size : (s : List ℕ) (b : Option ℕ) → size_among (map capped s) b ≡ capped (size_among s b)
capped_size s None = refl
capped_size s (Some b) = get_or-mapped capped s b 0

by_step : (x : Bool) (m n : ℕ) → m ≡ capped n → (if x then 2 else m) ≡ capped (if x then 2 else n)
by_step true m n e = refl
by_step false m n e = e

by_cell : (x : Bool) (m n : ℕ) → m ≡ capped n → (if x then m else 0) ≡ capped (if x then n else 0)
by_cell true m n e = e
by_cell false m n e = refl

capped_taken : (s : List ℕ) (t : ToldData) → told_cells (map capped s) t ≡ capped (told_cells s t)
capped_taken s t =
    by_cell (has_cell t.role) (if is_step t.role then 2 else size_among (map capped s) t.block) (if is_step t.role then 2 else size_among s t.block)
    (by_step (is_step t.role) (size_among (map capped s) t.block) (size_among s t.block) (capped_size s t.block))

-- how many cells variables take
capped_cells-is : (s : List ℕ) (ts : List ToldData) → capped_cells (map capped s) ts ≡ capped (told_count s ts)
capped_cells-is s [] = refl
capped_cells-is s (t ∷ ts) = rw (capped_taken s t, capped_cells-is s ts) (capped_sum (told_cells s t) (told_count s ts))

pub capped_told : (s : List ℕ) (ts : List ToldData) → capped_cells s ts ≡ capped (told_count s ts)
capped_told s [] = refl
capped_told s (t ∷ ts) = ap (λ (n : ℕ). capped (told_cells s t + n)) (capped_told s ts) ∙ capped_right (told_cells s t) (told_count s ts)

pub capped_once : (s : List ℕ) (ts : List ToldData) → capped (capped_cells s ts) ≡ capped_cells s ts
capped_once s [] = refl
capped_once s (t ∷ ts) = capped_twice (told_cells s t + capped_cells s ts)

pub capped_start : (s : List ℕ) (ts : List ToldData) → capped (0 + capped_cells s ts) ≡ capped_cells s ts
capped_start s ts = let same : 0 + capped_cells s ts ≡ capped_cells s ts = omega arith in ap capped same ∙ capped_once s ts

-- how many cells a POU has
pub capped_count : (f : FileData) (s : List ℕ) (k : ℕ) → capped_cells (map capped s) (told_at f k) ≡ capped (count_of_cells f s (variables_at f k))
capped_count f s k = capped_cells-is s (told_at f k) ∙ ap capped (told_count-is f s (variables_at f k))

-- the sizes of POUs
capped_along-is : (f : FileData) (s ks : List ℕ) → capped_along f (map capped s) ks ≡ map capped (sizes_along f s ks)
capped_along-is f s [] = refl
capped_along-is f s (k ∷ ks) =
    let n = count_of_cells f s (variables_at f k) in
    ap (λ (x : ℕ). capped_along f (set (map capped s) k x) ks) (capped_count f s k)
    ∙ ap (λ (l : List ℕ). capped_along f l ks) (sym (map-set capped s k n))
    ∙ capped_along-is f (set s k n) ks

zeros : (n : ℕ) → map capped (replicate n 0) ≡ replicate n 0
zeros zero = refl
zeros (suc n) = ap (λ (l : List ℕ). 0 ∷ l) (zeros n)

pub capped_sizes-are : (f : FileData) (n : ℕ) (ks : List ℕ) → capped_along f (replicate n 0) ks ≡ map capped (sizes_along f (replicate n 0) ks)
capped_sizes-are f n ks = ap (λ (l : List ℕ). capped_along f l ks) (sym (zeros n)) ∙ capped_along-is f (replicate n 0) ks

many : (c n : ℕ) → n ≡ capped c → 4096 ≤ c → 4096 ≤ n
many c n is x =
    ⊎_elim (λ (y : c < 2 ^ 64 - 1). omega (arith, is ∙ capped_small c y, x)) (λ (y : 2 ^ 64 - 1 ≤ c). omega (arith, is ∙ capped_great c y))
    (cases_lt c (2 ^ 64 - 1))

-- M2
pub room_of : (c n : ℕ) → n ≡ capped c → nat_lt n 4096 ≡ nat_le (1 + c) 4096
room_of c n is =
    ⊎_elim (λ (x : c < 4096). let small : n < 4096 = omega (arith, is ∙ capped_small c (omega (arith, x))) in
    lt-ltb n 4096 small ∙ sym (le-leb (1 + c) 4096 (omega (arith, x))))
    (λ (x : 4096 ≤ c). le-ltb n 4096 (many c n is x) ∙ sym (lt-leb (1 + c) 4096 (omega (arith, x))))
    (cases_lt c 4096)

-- ---- the cells of POUs that are few stand for themselves

abbrev pub IsExact : List ℕ → ToldData → Type 0
IsExact s t = told_cells (map capped s) t ≡ told_cells s t

pub exact_told : (s : List ℕ) (ts : List ToldData) → told_count s ts ≤ 16777216 → AllByRecursion (IsExact s) ts
exact_told s [] few = tt
exact_told s (t ∷ ts) few = (capped_taken s t ∙ capped_small (told_cells s t) (omega (arith, few)), exact_told s ts (omega (arith, few)))

pub told_exact : (s : List ℕ) (ts : List ToldData) → AllByRecursion (IsExact s) ts → told_count (map capped s) ts ≡ told_count s ts
told_exact s [] all = refl
told_exact s (t ∷ ts) all = rw (all.0, told_exact s ts all.1) refl

count_exact : (s : List ℕ) (o : Bool) (ts : List ToldData) → AllByRecursion (IsExact s) ts → told_count (map capped s) (told_front o ts) ≡ told_count s (told_front o ts)
count_exact s o [] all = refl
count_exact s o (t ∷ ts) all = by (is_front o t.role) (count_exact s o ts all.1)
  where
    by : (b : Bool) → told_count (map capped s) (told_front o ts) ≡ told_count s (told_front o ts)
        → told_count (map capped s) (if b then t ∷ told_front o ts else told_front o ts) ≡ told_count s (if b then t ∷ told_front o ts else told_front o ts)
    by true rest = λ i. all.0 i + rest i
    by false rest = rest

pub first_exact : (s : List ℕ) (pou_type : PouTypeData) (ts : List ToldData) → AllByRecursion (IsExact s) ts → told_first_places (map capped s) pou_type ts ≡ told_first_places s pou_type ts
first_exact s (function t) ts all = ap (λ (n : ℕ). record { of_function = true; front = 1; rest = 1 + n }) (count_exact s true ts all)
first_exact s function_block ts all = ap (λ (n : ℕ). record { of_function = false; front = 0; rest = 0 + n }) (count_exact s false ts all)
first_exact s program ts all = ap (λ (n : ℕ). record { of_function = false; front = 1; rest = 1 + n }) (count_exact s false ts all)

abbrev pub with_front : Next → ℕ → Next
with_front next n = record { of_function = next.of_function; front = next.front + n; rest = next.rest }

abbrev pub with_rest : Next → ℕ → Next
with_rest next n = record { of_function = next.of_function; front = next.front; rest = next.rest + n }

pub behind_exact : (s : List ℕ) (next : Next) (t : ToldData) → IsExact s t → told_places_behind (map capped s) next t ≡ told_places_behind s next t
behind_exact s next t same = by (is_front next.of_function t.role)
  where
    by : (b : Bool) → (if b then with_front next (told_cells (map capped s) t) else with_rest next (told_cells (map capped s) t)) ≡ (if b then with_front next (told_cells s t) else with_rest next (told_cells s t))
    by true = ap (with_front next) same
    by false = ap (with_rest next) same

members_exact : (s : List ℕ) (next : Next) (ts : List ToldData) → AllByRecursion (IsExact s) ts → told_members_from (map capped s) next ts ≡ told_members_from s next ts
members_exact s next [] all = refl
members_exact s next (t ∷ ts) all =
    ap (λ (ms : List Member). told_member (told_first_place next t) t ∷ ms)
    (ap (λ (n : Next). told_members_from (map capped s) n ts) (behind_exact s next t all.0) ∙ members_exact s (told_places_behind s next t) ts all.1)

pub all_exact : (s : List ℕ) (pou_type : PouTypeData) (ts : List ToldData) → AllByRecursion (IsExact s) ts → told_members (map capped s) pou_type ts ≡ told_members s pou_type ts
all_exact s pou_type ts all = ap (λ (n : Next). told_members_from (map capped s) n ts) (first_exact s pou_type ts all) ∙ members_exact s (told_first_places s pou_type ts) ts all

-- ---- which POUs are few

pub many_cells : (c n : ℕ) → n ≡ capped c → 16777216 < n → nat_le c 16777216 ≡ false
many_cells c n is many =
    ⊎_elim (λ (x : c < 2 ^ 64 - 1). lt-leb c 16777216 (let same = is ∙ capped_small c x in omega (arith, same, many))) (λ (x : 2 ^ 64 - 1 ≤ c). lt-leb c 16777216 (omega (arith, x)))
    (cases_lt c (2 ^ 64 - 1))

pub few_cells : (c n : ℕ) → n ≡ capped c → n ≤ 16777216 → c ≤ 16777216
few_cells c n is few =
    ⊎_elim (λ (x : c < 2 ^ 64 - 1). let same = is ∙ capped_small c x in omega (arith, same, few)) (λ (x : 2 ^ 64 - 1 ≤ c). let same = is ∙ capped_great c x in absurd (omega (arith, same, few)))
    (cases_lt c (2 ^ 64 - 1))
