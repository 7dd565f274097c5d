-- Where the cells of variables stand at most.
use Rattle.std.proofs.Common.{◌≡◌, ℕ, ◌+◌, ◌*◌, ◌^◌, ◌<◌, ◌≤◌, Bool, true, false, if◌then◌else◌, List, [], ◌∷◌, length, Option, Some, None, refl, sym, subst, ⊎_elim, arith}
use Rattle.std.specs.Prelude.{option_and_then, IfSome}
use Rattle.std.proofs.lemmas.Bool.{cases_lt}
use Rattle.std.proofs.lemmas.Option.{slice_get_past}
use Rattle.source_tree.specs.Syntax.{Named, PouTypeData, function, function_block, program, PouData, FileData}
use Rattle.naming.specs.declared.standing.Standing.{Standing}
use Rattle.naming.specs.declared.standing.Standing.TheVariants as standings
use Rattle.naming.specs.Broken.{alone}
use Rattle.naming.specs.FileScope.{pous_of, pou_at, standing}
use Rattle.naming.specs.Scopes.{Variable, variables_in_pou, is_of_name, is_step}
use Rattle.typing.specs.declared.next.Next.{Next}
use Rattle.typing.specs.declared.member.Member.{Member}
use Rattle.typing.specs.declared.scope.Place.TheVariants as places
use Rattle.typing.specs.Typing.{by_path}
use Rattle.typing.specs.Domains.{value_at}
use Rattle.typing.specs.Variables.{initial_of}
use Rattle.typing.specs.Places.{has_cell, size_among, is_front, in_front, cells_taken, count_of_cells, variables_in, variables_at, first_places, first_place, places_behind}
use Rattle.typing.specs.Members.{member_of, member_among, member_in, member_at, variable_or_value, named_in}
use Rattle.typing.specs.TypedStatements.{place_cell, cell_of}
use Rattle.decl_types.specs.Told.{ToldData}
use Rattle.pou_cells.specs.ToldPlaces.{told_cells, told_count, told_front, told_first_places, HavePlaces}
use Rattle.pou_cells.proofs.SizeLemmas.{with_front, with_rest}

-- ---- by what is told of variables

-- those that stand before all others take no more cells than all
pub front_few : (s : List ℕ) (o : Bool) (ts : List ToldData) → told_count s (told_front o ts) ≤ told_count s ts
front_few s o [] = omega arith
front_few s o (t ∷ ts) = by (is_front o t.role) (front_few s o ts)
  where
    by : (b : Bool) → told_count s (told_front o ts) ≤ told_count s ts → told_count s (if b then t ∷ told_front o ts else told_front o ts) ≤ told_cells s t + told_count s ts
    by true rest = omega (arith, rest)
    by false rest = omega (arith, rest)

pub begins_with_room : (s : List ℕ) (pou_type : PouTypeData) (ts : List ToldData) → told_count s ts < 2 ^ 62 → HavePlaces s (told_first_places s pou_type ts) ts
begins_with_room s (function t) ts few = let front = front_few s true ts in record { front = omega (arith, few); rest = omega (arith, front, few) }
begins_with_room s function_block ts few = let front = front_few s false ts in record { front = omega (arith, few); rest = omega (arith, front, few) }
begins_with_room s program ts few = let front = front_few s false ts in record { front = omega (arith, few); rest = omega (arith, front, few) }

-- where each block counts as one without cells, a variable takes two at most
two_at_most : (t : ToldData) → told_cells [] t ≤ 2
two_at_most t = by (has_cell t.role) (is_step t.role) t.block
  where
    by : (has step : Bool) (o : Option ℕ) → (if has then (if step then 2 else size_among [] o) else 0) ≤ 2
    by false step o = omega arith
    by true true o = omega arith
    by true false None = omega arith
    by true false (Some b) = omega arith

pub told_few : (ts : List ToldData) → told_count [] ts ≤ 2 * length ts
told_few [] = omega arith
told_few (t ∷ ts) = let here = two_at_most t in let rest = told_few ts in omega (arith, here, rest)

-- a number of no POU has none
pub few_beyond : (f : FileData) (k n : ℕ) → length (pous_of f) ≤ n → (k < n → count_of_cells f [] (variables_at f k) < 2 ^ 62) → count_of_cells f [] (variables_at f k) < 2 ^ 62
few_beyond f k n all known = ⊎_elim known (λ (past : n ≤ k). rw (slice_get_past (pous_of f) k (omega (arith, all, past))) (omega arith)) (cases_lt k n)

-- ---- the variable of a name

-- its first cell, and the one that it stands for, have no higher number
record IsLow (n : ℕ) (m : Member) : Type 0 where
  cell : m.cell ≤ n
  place : place_cell m.meaning.place ≤ n

module _ (f : FileData) (s text : List ℕ) (n : ℕ) where
  low_here : (c : ℕ) (v : Variable) → c ≤ n → IsLow n (member_of f c v)
  low_here c v low = record { cell = low; place = by (has_cell v.role) }
    where
      by : (b : Bool) → place_cell (if b then places.Cell c else places.Value (initial_of f v)) ≤ n
      by true = low
      by false = omega arith

  low_among : (next : Next) (vs : List Variable) (m : Member) → next.front + count_of_cells f s vs ≤ n → next.rest + count_of_cells f s vs ≤ n → member_among f s text next vs ≡ Some m → IsLow n m
  low_among next [] m front rest e = absurd (let h : ⊥ = cc in h)
  low_among next (v ∷ vs) m front rest e =
      by_name (is_of_name text v)
      (λ more. low_among (with_front next (cells_taken f s v)) vs m (omega (arith, front)) (omega (arith, rest)) more)
      (λ more. low_among (with_rest next (cells_taken f s v)) vs m (omega (arith, front)) (omega (arith, rest)) more) e
    where
      here : (b : Bool) → (if b then next.front else next.rest) ≤ n
      here true = omega (arith, front)
      here false = omega (arith, rest)

      behind : (b : Bool) → (member_among f s text (with_front next (cells_taken f s v)) vs ≡ Some m → IsLow n m) → (member_among f s text (with_rest next (cells_taken f s v)) vs ≡ Some m → IsLow n m)
          → member_among f s text (if b then with_front next (cells_taken f s v) else with_rest next (cells_taken f s v)) vs ≡ Some m → IsLow n m
      behind true one other more = one more
      behind false one other more = other more

      by_name : (b : Bool) → (member_among f s text (with_front next (cells_taken f s v)) vs ≡ Some m → IsLow n m) → (member_among f s text (with_rest next (cells_taken f s v)) vs ≡ Some m → IsLow n m)
          → (if b then Some (member_of f (first_place next v) v) else member_among f s text (places_behind f s next v) vs) ≡ Some m → IsLow n m
      by_name true one other is = let same : member_of f (first_place next v) v ≡ m = cc in subst (IsLow n) same (low_here (first_place next v) v (here (is_front next.of_function v.role)))
      by_name false one other is = behind (is_front next.of_function v.role) one other is

front_count : (f : FileData) (s : List ℕ) (o : Bool) (vs : List Variable) → count_of_cells f s (in_front o vs) ≤ count_of_cells f s vs
front_count f s o [] = omega arith
front_count f s o (v ∷ vs) = by (is_front o v.role) (front_count f s o vs)
  where
    by : (b : Bool) → count_of_cells f s (in_front o vs) ≤ count_of_cells f s vs → count_of_cells f s (if b then v ∷ in_front o vs else in_front o vs) ≤ cells_taken f s v + count_of_cells f s vs
    by true rest = omega (arith, rest)
    by false rest = omega (arith, rest)

low_in : (f : FileData) (s text : List ℕ) (pou_type : PouTypeData) (vs : List Variable) (m : Member) → member_among f s text (first_places f s pou_type vs) vs ≡ Some m → IsLow (1 + 2 * count_of_cells f s vs) m
low_in f s text (function t) vs m is =
    let front = front_count f s true vs in low_among f s text (1 + 2 * count_of_cells f s vs) (first_places f s (function t) vs) vs m (omega arith) (omega (arith, front)) is
low_in f s text function_block vs m is =
    let front = front_count f s false vs in low_among f s text (1 + 2 * count_of_cells f s vs) (first_places f s function_block vs) vs m (omega arith) (omega (arith, front)) is
low_in f s text program vs m is =
    let front = front_count f s false vs in low_among f s text (1 + 2 * count_of_cells f s vs) (first_places f s program vs) vs m (omega arith) (omega (arith, front)) is

low_if : (f : FileData) (s text : List ℕ) (o : Option PouData) (m : Member) → option_and_then (member_in f s text) o ≡ Some m → IsLow (1 + 2 * count_of_cells f s (variables_in o)) m
low_if f s text None m is = absurd (let h : ⊥ = cc in h)
low_if f s text (Some p) m is = low_in f s text p.pou_type (variables_in_pou p) m is

-- of the POU of a number
low_at : (f : FileData) (s : List ℕ) (k : ℕ) (text : List ℕ) (m : Member) → member_at f s k text ≡ Some m → m.cell ≤ 1 + 2 * count_of_cells f s (variables_at f k)
low_at f s k text m is = (low_if f s text (pou_at f k) m is).cell

pub low_some : (f : FileData) (s : List ℕ) (k : ℕ) (text : List ℕ) (o : Option Member) → count_of_cells f s (variables_at f k) < 2 ^ 62 → o ≡ member_at f s k text → IfSome o (λ m. m.cell < 2 ^ 63)
low_some f s k text None few is = tt
low_some f s k text (Some m) few is = let low = low_at f s k text m (sym is) in omega (arith, low, few)

-- ---- the cell of a name alone, in the body of a POU

no_cell : (f : FileData) (o : Option Standing) → cell_of (value_at f o) ≡ 0
no_cell f None = refl
no_cell f (Some (standings.Type t)) = refl
no_cell f (Some (standings.Value t k)) = refl
no_cell f (Some (standings.Pou p)) = refl

pub low_alone : (f : FileData) (s : List ℕ) (k : ℕ) (n : Named) → cell_of (named_in f s k (by_path (alone n))) ≤ 1 + 2 * count_of_cells f s (variables_at f k)
low_alone f s k n = by (member_at f s k n.text) refl
  where
    by : (o : Option Member) → member_at f s k n.text ≡ o → cell_of (variable_or_value f s n.text [] o) ≤ 1 + 2 * count_of_cells f s (variables_at f k)
    by None is = let none = no_cell f (standing f n.text) in omega (arith, none)
    by (Some m) is = (low_if f s n.text (pou_at f k) m is).place
