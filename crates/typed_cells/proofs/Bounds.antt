-- The place of a name is none before the first, and the cells of a name that is none of a chart stand before those of the chart.
use Rattle.std.proofs.Common.{◌≡◌, ℕ, ◌+◌, ◌≤◌, Bool, true, false, List, [], ◌∷◌, ◌++◌, Option, Some, refl, sym, ap, ◌∙◌, arith, subst, inl, inr, ◌⊎◌, ⊎_elim}
use Rattle.std.specs.List.{AllByRecursion}
use Rattle.std.proofs.lemmas.Bool.{both_ways}
use Rattle.source_tree.specs.Syntax.{PouTypeData, function, function_block, program, PouData, FileData}
use Rattle.naming.specs.Scopes.{Variable, is_of_name, variable_named, names_in_body, variables_in_pou}
use Rattle.typing.specs.declared.next.Next.{Next}
use Rattle.typing.specs.declared.member.Member.{Member}
use Rattle.typing.specs.Places.{is_front, in_front, behind_front, cells_taken, count_of_cells, sizes_of, first_places, first_place, places_behind}
use Rattle.typing.specs.Members.{member_of, member_among}
use Rattle.typing_laws.proofs.CellCounts.{count-in_order}
use Rattle.typed_cells.specs.Places.{first_of, declared_names, chart_place}
use Rattle.typed_cells.proofs.Lists.{all-each}
use Rattle.typed_cells.proofs.Walks.{front_first, behind_none, front_none, behind_first, place_front, place_rest, passed_front, passed_rest, named_here, named_other, among_here, among_other, named_all}
use Rattle.typed_cells.proofs.Names.{IsPlain, IsOfChart, declared_plain, body_of_chart}
use Rattle.typed_cells.proofs.Roles.{is_of_chart, plain_front, chart_not_front}

same_cell : (f : FileData) (c : ℕ) (v : Variable) (m : Member) → (let o : Option Member = Some (member_of f c v) in o) ≡ Some m → c ≡ m.cell
same_cell f c v m is = let same : member_of f c v ≡ m = cc in ap (λ (x : Member). x.cell) same

same_variable : (v w : Variable) → (let o : Option Variable = Some v in o) ≡ Some w → v ≡ w
same_variable v w is = cc

-- ---- no place before the first

pub record IsAbove (first : ℕ) (next : Next) : Type 0 where
  pub front : first ≤ next.front
  pub rest : first ≤ next.rest

pub above_behind : (f : FileData) (first : ℕ) (next : Next) (v : Variable) (b : Bool) → is_front next.of_function v.role ≡ b → IsAbove first next → IsAbove first (places_behind f (sizes_of f) next v)
above_behind f first next v true is now =
    subst (λ (n : Next). IsAbove first n) (sym (passed_front f (sizes_of f) next v is)) (let front = now.front in record { front = omega (arith, front); rest = now.rest })
above_behind f first next v false is now =
    subst (λ (n : Next). IsAbove first n) (sym (passed_rest f (sizes_of f) next v is)) (let rest = now.rest in record { front = now.front; rest = omega (arith, rest) })

pub above_here : (first : ℕ) (next : Next) (v : Variable) (b : Bool) → is_front next.of_function v.role ≡ b → IsAbove first next → first ≤ first_place next v
above_here first next v true is now = subst (λ (n : ℕ). first ≤ n) (sym (place_front next v is)) now.front
above_here first next v false is now = subst (λ (n : ℕ). first ≤ n) (sym (place_rest next v is)) now.rest

above_by : (b : Bool) (f : FileData) (text : List ℕ) (first : ℕ) (next : Next) (v : Variable) (vs : List Variable) (m : Member) → is_of_name text v ≡ b → first ≤ first_place next v
    → (member_among f (sizes_of f) text (places_behind f (sizes_of f) next v) vs ≡ Some m → first ≤ m.cell) → member_among f (sizes_of f) text next (v ∷ vs) ≡ Some m → first ≤ m.cell
above_by true f text first next v vs m is here behind found =
    subst (λ (n : ℕ). first ≤ n) (same_cell f (first_place next v) v m (sym (among_here f (sizes_of f) text next v vs is) ∙ found)) here
above_by false f text first next v vs m is here behind found = behind (sym (among_other f (sizes_of f) text next v vs is) ∙ found)

above : (f : FileData) (text : List ℕ) (first : ℕ) (next : Next) (vs : List Variable) (m : Member) → IsAbove first next → member_among f (sizes_of f) text next vs ≡ Some m → first ≤ m.cell
above f text first next [] m now found = absurd (let h : ⊥ = cc in h)
above f text first next (v ∷ vs) m now found =
    above_by (is_of_name text v) f text first next v vs m refl (above_here first next v (is_front next.of_function v.role) refl now)
    (λ rest. above f text first (places_behind f (sizes_of f) next v) vs m (above_behind f first next v (is_front next.of_function v.role) refl now) rest) found

pub above_first : (f : FileData) (pou_type : PouTypeData) (vs : List Variable) → IsAbove (first_of pou_type) (first_places f (sizes_of f) pou_type vs)
above_first f (function t) vs = record { front = omega arith; rest = omega arith }
above_first f function_block vs = record { front = omega arith; rest = omega arith }
above_first f program vs = record { front = omega arith; rest = omega arith }

pub from_first : (f : FileData) (text : List ℕ) (pou_type : PouTypeData) (vs : List Variable) (m : Member) → member_among f (sizes_of f) text (first_places f (sizes_of f) pou_type vs) vs ≡ Some m → first_of pou_type ≤ m.cell
from_first f text pou_type vs m found = above f text (first_of pou_type) (first_places f (sizes_of f) pou_type vs) vs m (above_first f pou_type vs) found

-- ---- none of a chart's

abbrev pub AllFront : Bool → List Variable → Type 0
AllFront o vs = AllByRecursion (λ v. is_front o v.role ≡ true) vs

-- the cells of names that are left stand before a place
pub record IsBelow (f : FileData) (s : ℕ) (next : Next) (vs : List Variable) : Type 0 where
  pub front : next.front + count_of_cells f (sizes_of f) (in_front next.of_function vs) ≤ s
  pub rest : AllFront next.of_function vs ⊎ (next.rest + count_of_cells f (sizes_of f) (behind_front next.of_function vs) ≤ s)

pub record IsBelowAt (f : FileData) (s : ℕ) (next : Next) (v : Variable) (vs : List Variable) : Type 0 where
  pub here : first_place next v + cells_taken f (sizes_of f) v ≤ s
  pub behind : IsBelow f s (places_behind f (sizes_of f) next v) vs

count_front : (f : FileData) (o : Bool) (v : Variable) (vs : List Variable) → is_front o v.role ≡ true → count_of_cells f (sizes_of f) (in_front o (v ∷ vs)) ≡ cells_taken f (sizes_of f) v + count_of_cells f (sizes_of f) (in_front o vs)
count_front f o v vs is = ap (count_of_cells f (sizes_of f)) (front_first o v vs is)

count_rest : (f : FileData) (o : Bool) (v : Variable) (vs : List Variable) → is_front o v.role ≡ false → count_of_cells f (sizes_of f) (behind_front o (v ∷ vs)) ≡ cells_taken f (sizes_of f) v + count_of_cells f (sizes_of f) (behind_front o vs)
count_rest f o v vs is = ap (count_of_cells f (sizes_of f)) (behind_first o v vs is)

pub below_by : (f : FileData) (s : ℕ) (next : Next) (v : Variable) (vs : List Variable) (b : Bool) → is_front next.of_function v.role ≡ b → IsBelow f s next (v ∷ vs) → IsBelowAt f s next v vs
below_by f s next v vs true is now =
    let counted = count_front f next.of_function v vs is in
    let low = now.front in
    let at = place_front next v is in
    record {
      here = omega (arith, counted, low, at);
      behind = subst (λ (n : Next). IsBelow f s n vs) (sym (passed_front f (sizes_of f) next v is))
          (record {
            front = omega (arith, counted, low);
            rest = ⊎_elim (λ (all : AllFront next.of_function (v ∷ vs)). inl all.1)
                (λ (bound : next.rest + count_of_cells f (sizes_of f) (behind_front next.of_function (v ∷ vs)) ≤ s). inr (let same = ap (count_of_cells f (sizes_of f)) (behind_none next.of_function v vs is) in omega (arith, bound, same))) now.rest;
          });
    }
below_by f s next v vs false is now =
    let bound : next.rest + count_of_cells f (sizes_of f) (behind_front next.of_function (v ∷ vs)) ≤ s =
    ⊎_elim (λ (all : AllFront next.of_function (v ∷ vs)). absurd (both_ways _ is all.0)) (λ (low : next.rest + count_of_cells f (sizes_of f) (behind_front next.of_function (v ∷ vs)) ≤ s). low) now.rest in
    let counted = count_rest f next.of_function v vs is in
    let at = place_rest next v is in
    let low = now.front in
    let same = ap (count_of_cells f (sizes_of f)) (front_none next.of_function v vs is) in
    record {
      here = omega (arith, counted, bound, at);
      behind = subst (λ (n : Next). IsBelow f s n vs) (sym (passed_rest f (sizes_of f) next v is)) (record { front = omega (arith, low, same); rest = inr (omega (arith, counted, bound)) });
    }

settled_by : (b : Bool) (f : FileData) (text : List ℕ) (s : ℕ) (next : Next) (v : Variable) (vs : List Variable) (m : Member) (w : Variable) → is_of_name text v ≡ b → first_place next v + cells_taken f (sizes_of f) v ≤ s
    → (member_among f (sizes_of f) text (places_behind f (sizes_of f) next v) vs ≡ Some m → variable_named text vs ≡ Some w → m.cell + cells_taken f (sizes_of f) w ≤ s)
    → member_among f (sizes_of f) text next (v ∷ vs) ≡ Some m → variable_named text (v ∷ vs) ≡ Some w → m.cell + cells_taken f (sizes_of f) w ≤ s
settled_by true f text s next v vs m w is here behind found named =
    let cell = same_cell f (first_place next v) v m (sym (among_here f (sizes_of f) text next v vs is) ∙ found) in
    let same = same_variable v w (sym (named_here text v vs is) ∙ named) in
    let taken = ap (cells_taken f (sizes_of f)) same in
    omega (arith, here, cell, taken)
settled_by false f text s next v vs m w is here behind found named = behind (sym (among_other f (sizes_of f) text next v vs is) ∙ found) (sym (named_other text v vs is) ∙ named)

settled : (f : FileData) (text : List ℕ) (s : ℕ) (next : Next) (vs more : List Variable) → AllByRecursion IsOfChart more → IsBelow f s next vs → (m : Member) → member_among f (sizes_of f) text next (vs ++ more) ≡ Some m
    → (w : Variable) → variable_named text (vs ++ more) ≡ Some w → is_of_chart w.role ≡ false → m.cell + cells_taken f (sizes_of f) w ≤ s
settled f text s next [] more chart now m found w named plain = absurd (both_ways _ plain (named_all IsOfChart text more chart w named).role)
settled f text s next (v ∷ vs) more chart now m found w named plain =
    let p = below_by f s next v vs (is_front next.of_function v.role) refl now in
    settled_by (is_of_name text v) f text s next v (vs ++ more) m w refl p.here
    (λ rest rest_named. settled f text s (places_behind f (sizes_of f) next v) vs more chart p.behind m rest w rest_named plain) found named

-- ---- before any name is passed

pub count_append : (f : FileData) (s : List ℕ) (vs ws : List Variable) → count_of_cells f s (vs ++ ws) ≡ count_of_cells f s vs + count_of_cells f s ws
count_append f s [] ws = omega arith
count_append f s (v ∷ vs) ws = let rest = count_append f s vs ws in omega (arith, rest)

count_parts : (f : FileData) (o : Bool) (vs : List Variable) → count_of_cells f (sizes_of f) (in_front o vs) + count_of_cells f (sizes_of f) (behind_front o vs) ≡ count_of_cells f (sizes_of f) vs
count_parts f o vs = sym (count_append f (sizes_of f) (in_front o vs) (behind_front o vs)) ∙ count-in_order f (sizes_of f) o vs

no_front : (ns : List Variable) → AllByRecursion IsOfChart ns → in_front true ns ≡ []
no_front [] all = refl
no_front (n ∷ ns) all = front_none true n ns (chart_not_front n.role all.0.role) ∙ no_front ns all.1

same_front : (b : Bool) (v : Variable) (ds ns : List Variable) → is_front true v.role ≡ b → in_front true (ds ++ ns) ≡ in_front true ds → in_front true (v ∷ (ds ++ ns)) ≡ in_front true (v ∷ ds)
same_front true v ds ns is rest = front_first true v (ds ++ ns) is ∙ ap (λ (l : List Variable). v ∷ l) rest ∙ sym (front_first true v ds is)
same_front false v ds ns is rest = front_none true v (ds ++ ns) is ∙ rest ∙ sym (front_none true v ds is)

front_before : (ds ns : List Variable) → AllByRecursion IsOfChart ns → in_front true (ds ++ ns) ≡ in_front true ds
front_before [] ns all = no_front ns all
front_before (v ∷ ds) ns all = same_front (is_front true v.role) v ds ns refl (front_before ds ns all)

all_front : (ds : List Variable) → AllByRecursion IsPlain ds → AllFront false ds
all_front ds all = all-each IsPlain (λ v. is_front false v.role ≡ true) (λ v plain. plain_front v.role plain) ds all

pub below_of : (f : FileData) (pou_type : PouTypeData) (ds ns : List Variable) → AllByRecursion IsPlain ds → AllByRecursion IsOfChart ns
    → IsBelow f (first_of pou_type + count_of_cells f (sizes_of f) ds) (first_places f (sizes_of f) pou_type (ds ++ ns)) ds
below_of f (function t) ds ns plain chart =
    let parts = count_parts f true ds in
    let same = ap (count_of_cells f (sizes_of f)) (front_before ds ns chart) in
    record { front = omega (arith, parts); rest = inr (omega (arith, parts, same)) }
below_of f function_block ds ns plain chart = let parts = count_parts f false ds in record { front = omega (arith, parts); rest = inl (all_front ds plain) }
below_of f program ds ns plain chart = let parts = count_parts f false ds in record { front = omega (arith, parts); rest = inl (all_front ds plain) }

-- the cells of a name that is none of a chart stand before those of the chart
pub before_chart : (f : FileData) (text : List ℕ) (p : PouData) (m : Member) → member_among f (sizes_of f) text (first_places f (sizes_of f) p.pou_type (variables_in_pou p)) (variables_in_pou p) ≡ Some m
    → (w : Variable) → variable_named text (variables_in_pou p) ≡ Some w → is_of_chart w.role ≡ false → m.cell + cells_taken f (sizes_of f) w ≤ chart_place f p
before_chart f text p m found w named plain =
    settled f text (chart_place f p) (first_places f (sizes_of f) p.pou_type (variables_in_pou p)) (declared_names p) (names_in_body p.body) (body_of_chart p.body)
    (below_of f p.pou_type (declared_names p) (names_in_body p.body) (declared_plain p) (body_of_chart p.body)) m found w named plain
