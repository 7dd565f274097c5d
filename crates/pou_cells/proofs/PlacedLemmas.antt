-- The variables of POUs of few cells, at their places.
use Rattle.std.proofs.Common.{◌≡◌, ℕ, ◌≤◌, Bool, true, false, if◌then◌else◌, List, [], ◌∷◌, map, Option, Some, None, refl, sym, ap, subst, ◌∙◌, arith, Vec, Global}
use Rattle.std.specs.Prelude.{nat_le, is_some, option_map, option_and_then, unwrap_or}
use Rattle.std.specs.List.{AllByRecursion, list_all, slice_get}
use Rattle.std.proofs.lemmas.Option.{slice_get-map}
use Rattle.std.proofs.lemmas.Bool.{le-leb, leb-true, and_parts, false≢true}
use Rattle.source_tree.specs.Syntax.{PouData, FileData}
use Rattle.naming.specs.FileScope.{pous_of, pou_at}
use Rattle.naming.specs.Scopes.{Variable, variables_in_pou, is_of_name, block_of}
use Rattle.typing.specs.declared.next.Next.{Next}
use Rattle.typing.specs.declared.member.Member.{Member}
use Rattle.typing.specs.Places.{count_of_cells, sizes_of, variables_in, variables_at, first_places, first_place, places_behind}
use Rattle.typing.specs.Members.{member_of, member_among, member_in, member_at, members_in, members_if, members_at}
use Rattle.decl_types.specs.Told.{told_in}
use Rattle.pou_cells.specs.ToldPlaces.{told_at, told_count}
use Rattle.pou_cells.specs.ToldMembers.{told_members}
use Rattle.pou_cells.specs.Placing.{capped, is_few, placed_in, all_placed, placed_at, is_placed_block, is_placed}
use Rattle.pou_cells.proofs.ToldLemmas.{told_count-is, told_members_at-is}
use Rattle.pou_cells.proofs.SizeLemmas.{IsExact, exact_told, told_exact, all_exact}

-- a POU of many cells is not placed
pub not_placed : (f : FileData) (o : Option PouData) → nat_le (count_of_cells f (sizes_of f) (variables_in o)) 16777216 ≡ false → option_and_then (placed_in f) o ≡ None
not_placed f None many = refl
not_placed f (Some p) many = ap (λ (b : Bool). if b then Some (members_in f (sizes_of f) p) else None) many

-- one of few is, by what is told of its variables and by capped sizes
pub few_placed : (f : FileData) (k : ℕ) (p : PouData) (ms : List Member) → pou_at f k ≡ Some p → count_of_cells f (sizes_of f) (variables_at f k) ≤ 16777216
    → ms ≡ told_members (map capped (sizes_of f)) p.pou_type (told_at f k) → Some ms ≡ placed_at f k
few_placed f k p ms there few is =
    let s = sizes_of f in
    let ts = told_at f k in
    let counted = told_count-is f s (variables_at f k) in
    let exact = all_exact s p.pou_type ts (exact_told s ts (omega (arith, counted, few))) in
    let members : ms ≡ members_in f s p = is ∙ exact ∙ told_members_at-is f s k p ts refl there ∙ ap (members_if f s) there in
    let small : is_few f p ≡ true = le-leb (count_of_cells f s (variables_in_pou p)) 16777216 (subst (λ (o : Option PouData). count_of_cells f s (variables_in o) ≤ 16777216) there few) in
    ap (λ (l : List Member). Some l) members
    ∙ sym (ap (λ (b : Bool). if b then Some (members_in f s p) else None) small)
    ∙ sym (ap (option_and_then (placed_in f)) there)

abbrev pub placed_items : Option (Vec Member Global) → Option (List Member)
placed_items = option_map (λ v. v.items)

abbrev join : Option (Option (List Member)) → Option (List Member)
join = option_and_then (λ x. x)

-- what is kept of the POU of a number
pub placed_at-is : (f : FileData) (vs : List (Option (Vec Member Global))) (k : ℕ) (o : Option (Option (Vec Member Global))) → map placed_items vs ≡ all_placed f → slice_get vs k ≡ o
    → option_and_then placed_items o ≡ placed_at f k
placed_at-is f vs k o known got =
    sym (joined (slice_get vs k) o got) ∙ ap join (sym (slice_get-map placed_items vs k) ∙ ap (λ l. slice_get l k) known ∙ slice_get-map (placed_in f) (pous_of f) k) ∙ both (pou_at f k)
  where
    joined : (a b : Option (Option (Vec Member Global))) → a ≡ b → join (option_map placed_items a) ≡ option_and_then placed_items b
    joined a b e = ap (λ (x : Option (Option (Vec Member Global))). join (option_map placed_items x)) e ∙ same b
      where
        same : (x : Option (Option (Vec Member Global))) → join (option_map placed_items x) ≡ option_and_then placed_items x
        same None = refl
        same (Some x) = refl

    both : (x : Option PouData) → join (option_map (placed_in f) x) ≡ option_and_then (placed_in f) x
    both None = refl
    both (Some p) = refl

pub some_items : (o : Option (Vec Member Global)) → is_some o ≡ is_some (placed_items o)
some_items None = refl
some_items (Some v) = refl

-- what is placed are its variables at their places
placed_by : (f : FileData) (p : PouData) (b : Bool) (ms : List Member) → (if b then Some (members_in f (sizes_of f) p) else None) ≡ Some ms → ms ≡ members_in f (sizes_of f) p
placed_by f p true ms e = let same : members_in f (sizes_of f) p ≡ ms = cc in sym same
placed_by f p false ms e = absurd (let h : ⊥ = cc in h)

placed_if : (f : FileData) (o : Option PouData) (ms : List Member) → option_and_then (placed_in f) o ≡ Some ms → ms ≡ members_if f (sizes_of f) o
placed_if f None ms e = absurd (let h : ⊥ = cc in h)
placed_if f (Some p) ms e = placed_by f p (is_few f p) ms e

placed_some : (f : FileData) (k : ℕ) (o : Option (List Member)) → placed_at f k ≡ o → is_some o ≡ true → unwrap_or o [] ≡ members_at f (sizes_of f) k
placed_some f k None is some = absurd (false≢true some)
placed_some f k (Some ms) is some = placed_if f (pou_at f k) ms is

pub members_placed : (f : FileData) (k : ℕ) → is_some (placed_at f k) ≡ true → unwrap_or (placed_at f k) [] ≡ members_at f (sizes_of f) k
members_placed f k some = placed_some f k (placed_at f k) refl some

-- a POU whose variables are placed has few cells
few_by : (f : FileData) (p : PouData) (b : Bool) → is_some (if b then Some (members_in f (sizes_of f) p) else None) ≡ true → b ≡ true
few_by f p true h = refl
few_by f p false h = absurd (false≢true h)

few_if : (f : FileData) (o : Option PouData) → is_some (option_and_then (placed_in f) o) ≡ true → count_of_cells f (sizes_of f) (variables_in o) ≤ 16777216
few_if f None some = absurd (false≢true some)
few_if f (Some p) some = leb-true (count_of_cells f (sizes_of f) (variables_in_pou p)) 16777216 (few_by f p (is_few f p) some)

pub placed_few : (f : FileData) (k : ℕ) → is_some (placed_at f k) ≡ true → count_of_cells f (sizes_of f) (variables_at f k) ≤ 16777216
placed_few f k some = few_if f (pou_at f k) some

-- ---- the block of a variable is placed

block_among : (f : FileData) (s text : List ℕ) (next : Next) (vs : List Variable) (m : Member) → list_all (λ t. is_placed_block f t.block) (told_in f vs) ≡ true
    → member_among f s text next vs ≡ Some m → is_placed_block f m.block ≡ true
block_among f s text next [] m all e = absurd (let h : ⊥ = cc in h)
block_among f s text next (v ∷ vs) m all e =
    let both = and_parts (is_placed_block f (block_of f v)) (list_all (λ t. is_placed_block f t.block) (told_in f vs)) all in
    by (is_of_name text v) both.0 (λ more. block_among f s text (places_behind f s next v) vs m both.1 more) e
  where
    by : (b : Bool) → is_placed_block f (block_of f v) ≡ true → (member_among f s text (places_behind f s next v) vs ≡ Some m → is_placed_block f m.block ≡ true)
        → (if b then Some (member_of f (first_place next v) v) else member_among f s text (places_behind f s next v) vs) ≡ Some m → is_placed_block f m.block ≡ true
    by true own others here = let same : member_of f (first_place next v) v ≡ m = cc in subst (λ (x : Member). is_placed_block f x.block ≡ true) same own
    by false own others more = others more

block_if : (f : FileData) (s text : List ℕ) (o : Option PouData) (m : Member) → list_all (λ t. is_placed_block f t.block) (told_in f (variables_in o)) ≡ true
    → option_and_then (member_in f s text) o ≡ Some m → is_placed_block f m.block ≡ true
block_if f s text None m all e = absurd (let h : ⊥ = cc in h)
block_if f s text (Some p) m all e = let vs = variables_in_pou p in block_among f s text (first_places f s p.pou_type vs) vs m all e

pub block_placed : (f : FileData) (k : ℕ) (s text : List ℕ) (m : Member) → is_placed f k ≡ true → member_at f s k text ≡ Some m → is_placed_block f m.block ≡ true
block_placed f k s text m placed e =
    let both = and_parts (is_some (placed_at f k)) (list_all (λ t. is_placed_block f t.block) (told_at f k)) placed in
    block_if f s text (pou_at f k) m both.1 e

pub has_places : (f : FileData) (k : ℕ) → is_placed f k ≡ true → is_some (placed_at f k) ≡ true
has_places f k placed = (and_parts (is_some (placed_at f k)) (list_all (λ t. is_placed_block f t.block) (told_at f k)) placed).0

-- the cells of the variables of a POU that is placed stand for themselves among capped sizes
pub few_exact : (f : FileData) (k : ℕ) → is_placed f k ≡ true → AllByRecursion (IsExact (sizes_of f)) (told_at f k)
few_exact f k placed =
    let few = placed_few f k (has_places f k placed) in
    let counted = told_count-is f (sizes_of f) (variables_at f k) in
    exact_told (sizes_of f) (told_at f k) (omega (arith, counted, few))

-- and are few
pub few_capped : (f : FileData) (k : ℕ) → is_placed f k ≡ true → told_count (map capped (sizes_of f)) (told_at f k) ≤ 16777216
few_capped f k placed =
    let few = placed_few f k (has_places f k placed) in
    let counted = told_count-is f (sizes_of f) (variables_at f k) in
    let same = told_exact (sizes_of f) (told_at f k) (few_exact f k placed) in
    omega (arith, counted, same, few)
