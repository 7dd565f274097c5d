-- What stands at a number in the tables of POUs.
use Rattle.std.proofs.Common.{◌≡◌, ℕ, ◌+◌, ◌-◌, suc, zero, List, [], ◌∷◌, ◌<◌, length, ⊎_elim, drop, map, Option, Some, None, refl, sym, ap, ◌∙◌, arith, ◌++◌, append_assoc}
use Rattle.std.specs.Prelude.{option_map, option_and_then, unwrap_or, Vec}
use Rattle.std.specs.declared.alloc.Global.{Global}
use Rattle.std.specs.List.{slice_get}
use Rattle.std.proofs.lemmas.Option.{slice_get-map, slice_get_cases}
use Rattle.std.proofs.lemmas.List.{map-append}
use Rattle.source_tree.specs.Syntax.{PouData, FileData}
use Rattle.file_bindings.specs.Bound.{bound_of, bound_named, variables_at as kept_at}
use Rattle.naming.specs.FileScope.{pous_of, pou_at}
use Rattle.naming.specs.Scopes.{Variable, variables_in_pou}
use Rattle.naming.specs.Slots.{found}
use Rattle.typing.specs.declared.scope.Port.{Port}
use Rattle.typing.specs.Places.{first_places, variables_in}
use Rattle.typing.specs.declared.member.Member.{Member}
use Rattle.typing.specs.Members.{members_in, members_if, members_at, ports_of, member_in, member_at}
use Rattle.decl_types.specs.declared.told.Told.{Told}
use Rattle.decl_types.specs.Told.{ToldData, told_in}
use Rattle.decl_types.specs.ToldView.{told_view}
use Rattle.pou_cells.specs.PouTables.{all_members, all_ports}
use Rattle.pou_cells.specs.ToldPlaces.{told_at}
use Rattle.pou_cells.specs.ToldMembers.{all_told}
use Rattle.pou_cells.specs.Placing.{placed_in, all_placed, placed_at}
use Rattle.pou_cells.proofs.PlacedLemmas.{placed_items}
use Rattle.typing_laws.proofs.NamedLemmas.{IsFound, found_is, not_found_is}

-- what is left from a number on begins with what stands there
pub drop_at : {A : Type 0} → (xs : List A) (k : ℕ) (x : A) → slice_get xs k ≡ Some x → drop k xs ≡ x ∷ drop (k + 1) xs
drop_at [] k x e = absurd (let h : ⊥ = cc in h)
drop_at (y ∷ xs) zero x e = let same : y ≡ x = cc in ap (λ z. z ∷ xs) same
drop_at (y ∷ xs) (suc k) x e = drop_at xs k x e ∙ ap (λ n. x ∷ drop n (y ∷ xs)) (two_more k)
  where
    two_more : (n : ℕ) → suc (n + 1) ≡ suc n + 1
    two_more n = omega arith

-- the items of the vector at a number
pub items_at : {A : Type 0} → (vs : List (Vec A Global)) (k : ℕ) (o : Option (Vec A Global)) → slice_get vs k ≡ o → slice_get (map (λ v. v.items) vs) k ≡ option_map (λ v. v.items) o
items_at vs k o e = slice_get-map (λ v. v.items) vs k ∙ ap (option_map (λ v. v.items)) e

-- what is listed of the POU of a number
listed : {A : Type 0} → (g : PouData → List A) (ps : List PouData) (vs : List (Vec A Global)) (k : ℕ) (o : Option (Vec A Global)) → map (λ v. v.items) vs ≡ map g ps → slice_get vs k ≡ o
    → option_map (λ v. v.items) o ≡ option_map g (slice_get ps k)
listed g ps vs k o known got = sym (items_at vs k o got) ∙ ap (λ l. slice_get l k) known ∙ slice_get-map g ps k

members_if-is : (f : FileData) (sizes : List ℕ) (o : Option PouData) → unwrap_or (option_map (members_in f sizes) o) [] ≡ members_if f sizes o
members_if-is f sizes None = refl
members_if-is f sizes (Some p) = refl

pub members_at-is : (f : FileData) (sizes : List ℕ) (vs : List (Vec Member Global)) (k : ℕ) (o : Option (Vec Member Global)) → map (λ v. v.items) vs ≡ all_members f sizes → slice_get vs k ≡ o
    → unwrap_or (option_map (λ v. v.items) o) [] ≡ members_at f sizes k
members_at-is f sizes vs k o known got = ap (λ x. unwrap_or x []) (listed (members_in f sizes) (pous_of f) vs k o known got) ∙ members_if-is f sizes (pou_at f k)

abbrev ports_in : FileData → List ℕ → PouData → List Port
ports_in f sizes p = ports_of (members_in f sizes p)

ports_each : (f : FileData) (sizes : List ℕ) (ps : List PouData) → map ports_of (map (members_in f sizes) ps) ≡ map (ports_in f sizes) ps
ports_each f sizes [] = refl
ports_each f sizes (p ∷ ps) = ap (λ l. ports_in f sizes p ∷ l) (ports_each f sizes ps)

ports_if-is : (f : FileData) (sizes : List ℕ) (o : Option PouData) → unwrap_or (option_map (ports_in f sizes) o) [] ≡ ports_of (members_if f sizes o)
ports_if-is f sizes None = refl
ports_if-is f sizes (Some p) = refl

pub ports_at-is : (f : FileData) (sizes : List ℕ) (vs : List (Vec Port Global)) (k : ℕ) (o : Option (Vec Port Global)) → map (λ v. v.items) vs ≡ all_ports f sizes → slice_get vs k ≡ o
    → unwrap_or (option_map (λ v. v.items) o) [] ≡ ports_of (members_at f sizes k)
ports_at-is f sizes vs k o known got = ap (λ x. unwrap_or x []) (listed (ports_in f sizes) (pous_of f) vs k o (known ∙ ports_each f sizes (pous_of f)) got) ∙ ports_if-is f sizes (pou_at f k)

-- ---- the variable of a name

found_or_not : (f : FileData) (sizes : List ℕ) (p : PouData) (text : List ℕ) (x : Option (ℕ × Variable)) (got : Option Member) → found text 1 (variables_in_pou p) ≡ x
    → got ≡ option_and_then (λ b. slice_get (members_in f sizes p) (b - 1)) (option_map bound_of x) → got ≡ member_in f sizes text p
found_or_not f sizes p text None got is e = let vs = variables_in_pou p in e ∙ sym (not_found_is f sizes text (first_places f sizes p.pou_type vs) vs 1 is)
found_or_not f sizes p text (Some x) got is e =
    let vs = variables_in_pou p in
    let known : IsFound f sizes text (first_places f sizes p.pou_type vs) vs 1 x.0 = found_is f sizes text (first_places f sizes p.pou_type vs) vs 1 x.0 x.1 is in
    e ∙ known.same

by_pou : (f : FileData) (sizes : List ℕ) (text : List ℕ) (o : Option PouData) (r : Option ℕ) (got : Option Member) → r ≡ option_and_then (λ p. bound_named (variables_in_pou p) text) o
    → got ≡ option_and_then (λ b. slice_get (members_if f sizes o) (b - 1)) r → got ≡ option_and_then (member_in f sizes text) o
by_pou f sizes text None r got is e = e ∙ ap (option_and_then (λ b. slice_get (members_if f sizes None) (b - 1))) is
by_pou f sizes text (Some p) r got is e =
    found_or_not f sizes p text (found text 1 (variables_in_pou p)) got refl (e ∙ ap (option_and_then (λ b. slice_get (members_in f sizes p) (b - 1))) is)

-- what stands at the number to which a name is bound is the variable of that name
pub member_at-is : (f : FileData) (sizes : List ℕ) (number : ℕ) (text : List ℕ) (r : Option ℕ) (got : Option Member) → r ≡ option_and_then (λ p. bound_named (variables_in_pou p) text) (pou_at f number)
    → got ≡ option_and_then (λ b. slice_get (members_at f sizes number) (b - 1)) r → got ≡ member_at f sizes number text
member_at-is f sizes number text r got is e = by_pou f sizes text (pou_at f number) r got is e

-- one POU more in a table
one_pou_more : {A B : Type 0} → (h : A → B) (g : PouData → B) (ps : List PouData) (vs : List A) (v : A) (k : ℕ) (p : PouData) (all : List B) → slice_get ps k ≡ Some p → h v ≡ g p
    → map h vs ++ map g (drop k ps) ≡ all → map h (vs ++ v ∷ []) ++ map g (drop (k + 1) ps) ≡ all
one_pou_more h g ps vs v k p all here is known =
    ap (λ l. l ++ map g (drop (k + 1) ps)) (map-append h vs (v ∷ [])) ∙ append_assoc (map h vs) (h v ∷ []) (map g (drop (k + 1) ps))
    ∙ ap (λ x. map h vs ++ x ∷ map g (drop (k + 1) ps)) is ∙ ap (λ l. map h vs ++ map g l) (sym (drop_at ps k p here)) ∙ known

-- the same where it is told by its number
one_more : {A B : Type 0} → (h : A → B) (g : PouData → B) (f : FileData) (vs : List A) (v : A) (k : ℕ) (all : List B) (o : Option PouData) → pou_at f k ≡ o → k < length (pous_of f)
    → ((p : PouData) → o ≡ Some p → h v ≡ g p) → map h vs ++ map g (drop k (pous_of f)) ≡ all → map h (vs ++ v ∷ []) ++ map g (drop (k + 1) (pous_of f)) ≡ all
one_more h g f vs v k all None there below is known =
    let here = slice_get_cases (pous_of f) k in
    absurd (⊎_elim (λ found. let h : ⊥ = cc in h) (λ past. omega (arith, below, past.0)) here.1)
one_more h g f vs v k all (Some p) there below is known = one_pou_more h g (pous_of f) vs v k p all there (is p refl) known

pub one_number_more : (f : FileData) (sizes : List ℕ) (vs : List (Vec Member Global)) (v : Vec Member Global) (k : ℕ) (all : List (List Member)) → k < length (pous_of f) → v.items ≡ members_at f sizes k
    → map (λ u. u.items) vs ++ map (members_in f sizes) (drop k (pous_of f)) ≡ all → map (λ u. u.items) (vs ++ v ∷ []) ++ map (members_in f sizes) (drop (k + 1) (pous_of f)) ≡ all
one_number_more f sizes vs v k all below is known =
    one_more (λ (u : Vec Member Global). u.items) (members_in f sizes) f vs v k all (pou_at f k) refl below (λ p there. is ∙ ap (members_if f sizes) there) known

pub ports_of_all : (vs : List (Vec Member Global)) (ms : List (List Member)) → map (λ v. v.items) vs ≡ ms → map (λ v. ports_of v.items) vs ≡ map ports_of ms
ports_of_all vs ms e = each vs ∙ ap (map ports_of) e
  where
    each : (us : List (Vec Member Global)) → map (λ v. ports_of v.items) us ≡ map ports_of (map (λ v. v.items) us)
    each [] = refl
    each (u ∷ us) = ap (λ l. ports_of u.items ∷ l) (each us)

-- ---- what is told of the variables of POUs

abbrev told_items : Vec Told Global → List ToldData
told_items v = map told_view v.items

abbrev told_in_pou : FileData → PouData → List ToldData
told_in_pou f p = told_in f (variables_in_pou p)

told_if-is : (f : FileData) (o : Option PouData) → unwrap_or (option_map (told_in_pou f) o) [] ≡ told_in f (variables_in o)
told_if-is f None = refl
told_if-is f (Some p) = refl

pub told_at-is : (f : FileData) (vs : List (Vec Told Global)) (k : ℕ) → map told_items vs ≡ all_told f → unwrap_or (option_map told_items (slice_get vs k)) [] ≡ told_at f k
told_at-is f vs k known =
    ap (λ o. unwrap_or o []) (sym (slice_get-map told_items vs k) ∙ ap (λ l. slice_get l k) known ∙ slice_get-map (told_in_pou f) (pous_of f) k) ∙ told_if-is f (pou_at f k)

-- the variables that are kept with the names of a file
pub told_variables : (f : FileData) (vs : List Variable) (k : ℕ) → vs ≡ kept_at f k → told_in f vs ≡ told_at f k
told_variables f vs k kept = ap (told_in f) (kept ∙ same (pou_at f k))
  where
    same : (o : Option PouData) → unwrap_or (option_map variables_in_pou o) [] ≡ variables_in o
    same None = refl
    same (Some p) = refl

pub one_told_more : (f : FileData) (vs : List (Vec Told Global)) (v : Vec Told Global) (k : ℕ) → k < length (pous_of f) → told_items v ≡ told_at f k
    → map told_items vs ++ map (told_in_pou f) (drop k (pous_of f)) ≡ all_told f → map told_items (vs ++ v ∷ []) ++ map (told_in_pou f) (drop (k + 1) (pous_of f)) ≡ all_told f
one_told_more f vs v k below is known =
    one_more told_items (told_in_pou f) f vs v k (all_told f) (pou_at f k) refl below (λ p there. is ∙ ap (λ o. told_in f (variables_in o)) there) known

-- ---- the variables of POUs at their places

pub one_placed_more : (f : FileData) (vs : List (Option (Vec Member Global))) (v : Option (Vec Member Global)) (k : ℕ) → k < length (pous_of f) → placed_items v ≡ placed_at f k
    → map placed_items vs ++ map (placed_in f) (drop k (pous_of f)) ≡ all_placed f → map placed_items (vs ++ v ∷ []) ++ map (placed_in f) (drop (k + 1) (pous_of f)) ≡ all_placed f
one_placed_more f vs v k below is known =
    one_more placed_items (placed_in f) f vs v k (all_placed f) (pou_at f k) refl below (λ p there. is ∙ ap (option_and_then (placed_in f)) there) known
