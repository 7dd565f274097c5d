-- What is told of the variables of a POU has the cells, places and meanings of these.
use Rattle.std.proofs.Common.{◌≡◌, ℕ, ◌+◌, Bool, true, false, if◌then◌else◌, List, [], ◌∷◌, Some, refl, sym, ap, ◌∙◌}
use Rattle.source_tree.specs.Syntax.{PouTypeData, function, function_block, program, PouData, FileData}
use Rattle.naming.specs.FileScope.{pou_at}
use Rattle.naming.specs.Scopes.{Variable, variables_in_pou}
use Rattle.typing.specs.declared.next.Next.{Next}
use Rattle.typing.specs.declared.member.Member.{Member}
use Rattle.typing.specs.Places.{cells_taken, count_of_cells, is_front, in_front, first_places, first_place, places_behind, variables_in}
use Rattle.typing.specs.Members.{member_of, members_of, members_in, members_if, members_at}
use Rattle.rules.specs.Outcomes.{outcome_of}
use Rattle.decl_types.specs.Told.{ToldData, told_of, told_in}
use Rattle.pou_cells.specs.ToldPlaces.{told_at, told_cells, told_count, told_front, told_first_places, told_first_place, told_places_behind}
use Rattle.pou_cells.specs.ToldMembers.{told_member, told_members_from, told_members}

-- of one variable
pub told_cells-is : (f : FileData) (sizes : List ℕ) (v : Variable) → told_cells sizes (told_of f v) ≡ cells_taken f sizes v
told_cells-is f sizes v = refl

pub told_first_place-is : (f : FileData) (next : Next) (v : Variable) → told_first_place next (told_of f v) ≡ first_place next v
told_first_place-is f next v = refl

pub told_places_behind-is : (f : FileData) (sizes : List ℕ) (next : Next) (v : Variable) → told_places_behind sizes next (told_of f v) ≡ places_behind f sizes next v
told_places_behind-is f sizes next v = refl

-- of the variables of a POU
pub told_count-is : (f : FileData) (sizes : List ℕ) (vs : List Variable) → told_count sizes (told_in f vs) ≡ count_of_cells f sizes vs
told_count-is f sizes [] = refl
told_count-is f sizes (v ∷ vs) = ap (λ (n : ℕ). cells_taken f sizes v + n) (told_count-is f sizes vs)

told_front-is : (f : FileData) (of_function : Bool) (vs : List Variable) → told_front of_function (told_in f vs) ≡ told_in f (in_front of_function vs)
told_front-is f of_function [] = refl
told_front-is f of_function (v ∷ vs) = by (is_front of_function v.role) (told_front of_function (told_in f vs)) (in_front of_function vs) (told_front-is f of_function vs)
  where
    by : (b : Bool) (ts : List ToldData) (us : List Variable) → ts ≡ told_in f us → (if b then told_of f v ∷ ts else ts) ≡ told_in f (if b then v ∷ us else us)
    by true ts us e = ap (λ (l : List ToldData). told_of f v ∷ l) e
    by false ts us e = e

front_count : (f : FileData) (sizes : List ℕ) (of_function : Bool) (vs : List Variable)
    → told_count sizes (told_front of_function (told_in f vs)) ≡ count_of_cells f sizes (in_front of_function vs)
front_count f sizes of_function vs = ap (told_count sizes) (told_front-is f of_function vs) ∙ told_count-is f sizes (in_front of_function vs)

pub told_first_places-is : (f : FileData) (sizes : List ℕ) (pou_type : PouTypeData) (vs : List Variable) → told_first_places sizes pou_type (told_in f vs) ≡ first_places f sizes pou_type vs
told_first_places-is f sizes (function t) vs = ap (λ (n : ℕ). record { of_function = true; front = 1; rest = 1 + n }) (front_count f sizes true vs)
told_first_places-is f sizes function_block vs = ap (λ (n : ℕ). record { of_function = false; front = 0; rest = 0 + n }) (front_count f sizes false vs)
told_first_places-is f sizes program vs = ap (λ (n : ℕ). record { of_function = false; front = 1; rest = 1 + n }) (front_count f sizes false vs)

-- what they stand for
pub told_member-is : (f : FileData) (cell : ℕ) (v : Variable) → told_member cell (told_of f v) ≡ member_of f cell v
unfolding outcome_of
told_member-is f cell v = refl

pub told_members_from-is : (f : FileData) (sizes : List ℕ) (next : Next) (vs : List Variable) → told_members_from sizes next (told_in f vs) ≡ members_of f sizes next vs
told_members_from-is f sizes next [] = refl
told_members_from-is f sizes next (v ∷ vs) =
    ap (λ (m : Member). m ∷ told_members_from sizes (places_behind f sizes next v) (told_in f vs)) (told_member-is f (first_place next v) v)
    ∙ ap (λ (ms : List Member). member_of f (first_place next v) v ∷ ms) (told_members_from-is f sizes (places_behind f sizes next v) vs)

pub told_members-is : (f : FileData) (sizes : List ℕ) (p : PouData) → told_members sizes p.pou_type (told_in f (variables_in_pou p)) ≡ members_in f sizes p
told_members-is f sizes p =
    let vs = variables_in_pou p in
    ap (λ (next : Next). told_members_from sizes next (told_in f vs)) (told_first_places-is f sizes p.pou_type vs) ∙ told_members_from-is f sizes (first_places f sizes p.pou_type vs) vs

-- those of the POU of a number
pub told_members_at-is : (f : FileData) (sizes : List ℕ) (k : ℕ) (p : PouData) (ts : List ToldData) → ts ≡ told_at f k → pou_at f k ≡ Some p → told_members sizes p.pou_type ts ≡ members_at f sizes k
told_members_at-is f sizes k p ts is there =
    ap (told_members sizes p.pou_type) (is ∙ ap (λ o. told_in f (variables_in o)) there) ∙ told_members-is f sizes p ∙ sym (ap (members_if f sizes) there)
