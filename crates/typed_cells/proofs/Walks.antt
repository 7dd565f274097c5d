-- The cells of names stand where their places say, as names are passed in declared order.
use Rattle.std.proofs.Common.{◌≡◌, ℕ, ◌+◌, Bool, true, false, if◌then◌else◌, List, [], ◌∷◌, ◌++◌, Option, Some, refl, sym, ap, ◌∙◌, subst}
use Rattle.std.specs.List.{AllByRecursion}
use Rattle.source_tree.specs.Syntax.{FileData}
use Rattle.program_tree.specs.declared.scratch.Scratch.{Scratch}
use Rattle.naming.specs.Scopes.{Variable, is_of_name, variable_named}
use Rattle.typing.specs.declared.next.Next.{Next}
use Rattle.typing.specs.declared.member.Member.{Member}
use Rattle.typing.specs.Places.{is_front, in_front, behind_front, cells_taken, sizes_of, first_place, places_behind}
use Rattle.typing.specs.Members.{member_of, member_among}
use Rattle.typed_cells.specs.Variables.{variable_places, variables_places}
use Rattle.typed_cells.proofs.Occurrences.{Occurs, occurs_left, occurs_right, occurs_same, occurs_at}
use Rattle.typed_cells.proofs.Lengths.{HasSize}

-- ---- one name

pub front_first : (o : Bool) (v : Variable) (vs : List Variable) → is_front o v.role ≡ true → in_front o (v ∷ vs) ≡ v ∷ in_front o vs
front_first o v vs is = rw is refl

pub behind_none : (o : Bool) (v : Variable) (vs : List Variable) → is_front o v.role ≡ true → behind_front o (v ∷ vs) ≡ behind_front o vs
behind_none o v vs is = rw is refl

pub front_none : (o : Bool) (v : Variable) (vs : List Variable) → is_front o v.role ≡ false → in_front o (v ∷ vs) ≡ in_front o vs
front_none o v vs is = rw is refl

pub behind_first : (o : Bool) (v : Variable) (vs : List Variable) → is_front o v.role ≡ false → behind_front o (v ∷ vs) ≡ v ∷ behind_front o vs
behind_first o v vs is = rw is refl

pub place_front : (next : Next) (v : Variable) → is_front next.of_function v.role ≡ true → first_place next v ≡ next.front
place_front next v is = rw is refl

pub place_rest : (next : Next) (v : Variable) → is_front next.of_function v.role ≡ false → first_place next v ≡ next.rest
place_rest next v is = rw is refl

pub passed_front : (f : FileData) (sizes : List ℕ) (next : Next) (v : Variable) → is_front next.of_function v.role ≡ true
    → places_behind f sizes next v ≡ record { of_function = next.of_function; front = next.front + cells_taken f sizes v; rest = next.rest }
passed_front f sizes next v is = rw is refl

pub passed_rest : (f : FileData) (sizes : List ℕ) (next : Next) (v : Variable) → is_front next.of_function v.role ≡ false
    → places_behind f sizes next v ≡ record { of_function = next.of_function; front = next.front; rest = next.rest + cells_taken f sizes v }
passed_rest f sizes next v is = rw is refl

pub named_here : (text : List ℕ) (v : Variable) (vs : List Variable) → is_of_name text v ≡ true → variable_named text (v ∷ vs) ≡ Some v
named_here text v vs is = rw is refl

pub named_other : (text : List ℕ) (v : Variable) (vs : List Variable) → is_of_name text v ≡ false → variable_named text (v ∷ vs) ≡ variable_named text vs
named_other text v vs is = rw is refl

pub among_here : (f : FileData) (sizes text : List ℕ) (next : Next) (v : Variable) (vs : List Variable) → is_of_name text v ≡ true → member_among f sizes text next (v ∷ vs) ≡ Some (member_of f (first_place next v) v)
among_here f sizes text next v vs is = rw is refl

pub among_other : (f : FileData) (sizes text : List ℕ) (next : Next) (v : Variable) (vs : List Variable) → is_of_name text v ≡ false
    → member_among f sizes text next (v ∷ vs) ≡ member_among f sizes text (places_behind f sizes next v) vs
among_other f sizes text next v vs is = rw is refl

module _ (f : FileData) (owner : List Scratch) where
  -- the cells of the names that are left stand from the next places on
  pub record IsNext (next : Next) (vs : List Variable) : Type 0 where
    pub front : Occurs (variables_places f (in_front next.of_function vs)) owner next.front
    pub rest : Occurs (variables_places f (behind_front next.of_function vs)) owner next.rest

  pub record IsPassed (next : Next) (v : Variable) (vs : List Variable) : Type 0 where
    pub here : Occurs (variable_places f v) owner (first_place next v)
    pub behind : IsNext (places_behind f (sizes_of f) next v) vs

  passed_by : (b : Bool) (next : Next) (v : Variable) (vs : List Variable) → is_front next.of_function v.role ≡ b → HasSize f v → IsNext next (v ∷ vs) → IsPassed next v vs
  passed_by true next v vs is size now =
      let o = next.of_function in
      let all : Occurs (variable_places f v ++ variables_places f (in_front o vs)) owner next.front = occurs_same _ _ owner next.front (ap (variables_places f) (front_first o v vs is)) now.front in
      record {
        here = occurs_at (variable_places f v) owner next.front (first_place next v) (sym (place_front next v is)) (occurs_left (variable_places f v) (variables_places f (in_front o vs)) owner next.front all);
        behind = subst (λ (n : Next). IsNext n vs) (sym (passed_front f (sizes_of f) next v is))
            (record {
              front = occurs_at (variables_places f (in_front o vs)) owner _ _ (ap (λ (n : ℕ). next.front + n) size) (occurs_right (variable_places f v) (variables_places f (in_front o vs)) owner next.front all);
              rest = occurs_same _ _ owner next.rest (ap (variables_places f) (behind_none o v vs is)) now.rest;
            });
      }
  passed_by false next v vs is size now =
      let o = next.of_function in
      let all : Occurs (variable_places f v ++ variables_places f (behind_front o vs)) owner next.rest = occurs_same _ _ owner next.rest (ap (variables_places f) (behind_first o v vs is)) now.rest in
      record {
        here = occurs_at (variable_places f v) owner next.rest (first_place next v) (sym (place_rest next v is)) (occurs_left (variable_places f v) (variables_places f (behind_front o vs)) owner next.rest all);
        behind = subst (λ (n : Next). IsNext n vs) (sym (passed_rest f (sizes_of f) next v is))
            (record {
              front = occurs_same _ _ owner next.front (ap (variables_places f) (front_none o v vs is)) now.front;
              rest = occurs_at (variables_places f (behind_front o vs)) owner _ _ (ap (λ (n : ℕ). next.rest + n) size) (occurs_right (variable_places f v) (variables_places f (behind_front o vs)) owner next.rest all);
            });
      }

  pub pass : (next : Next) (v : Variable) (vs : List Variable) → HasSize f v → IsNext next (v ∷ vs) → IsPassed next v vs
  pass next v vs size now = passed_by (is_front next.of_function v.role) next v vs refl size now

  -- ---- the name that is looked for

  -- a member is the variable of a name, and the variable's cells stand at its place
  pub record IsAtName (text : List ℕ) (vs : List Variable) (m : Member) : Type 0 where
    pub variable : Variable
    pub named : variable_named text vs ≡ Some variable
    pub is : m ≡ member_of f m.cell variable
    pub stands : Occurs (variable_places f variable) owner m.cell

  found_by : (b : Bool) (text : List ℕ) (next : Next) (v : Variable) (vs : List Variable) (m : Member) → is_of_name text v ≡ b → Occurs (variable_places f v) owner (first_place next v)
      → (member_among f (sizes_of f) text (places_behind f (sizes_of f) next v) vs ≡ Some m → IsAtName text vs m) → member_among f (sizes_of f) text next (v ∷ vs) ≡ Some m → IsAtName text (v ∷ vs) m
  found_by true text next v vs m is here behind found =
      let at : (let o : Option Member = Some (member_of f (first_place next v) v) in o) ≡ Some m = sym (among_here f (sizes_of f) text next v vs is) ∙ found in
      let same : member_of f (first_place next v) v ≡ m = cc in
      let cell : first_place next v ≡ m.cell = ap (λ (x : Member). x.cell) same in
      record {
        variable = v;
        named = named_here text v vs is;
        is = sym same ∙ ap (λ (c : ℕ). member_of f c v) cell;
        stands = occurs_at (variable_places f v) owner (first_place next v) m.cell cell here;
      }
  found_by false text next v vs m is here behind found =
      let rest = behind (sym (among_other f (sizes_of f) text next v vs is) ∙ found) in
      record { variable = rest.variable; named = named_other text v vs is ∙ rest.named; is = rest.is; stands = rest.stands }

  pub find : (text : List ℕ) (next : Next) (vs : List Variable) → AllByRecursion (HasSize f) vs → IsNext next vs → (m : Member) → member_among f (sizes_of f) text next vs ≡ Some m → IsAtName text vs m
  find text next [] sizes now m found = absurd (let h : ⊥ = cc in h)
  find text next (v ∷ vs) sizes now m found =
      let p = pass next v vs sizes.0 now in
      found_by (is_of_name text v) text next v vs m refl p.here (λ rest. find text (places_behind f (sizes_of f) next v) vs sizes.1 p.behind m rest) found

-- what holds of all variables holds of that of a name
named_by : (P : Variable → Type 0) (b : Bool) (v w : Variable) (rest : Option Variable) → (if b then Some v else rest) ≡ Some w → P v → (rest ≡ Some w → P w) → P w
named_by P true v w rest is here behind = let same : v ≡ w = cc in subst P same here
named_by P false v w rest is here behind = behind is

pub named_all : (P : Variable → Type 0) (text : List ℕ) (vs : List Variable) → AllByRecursion P vs → (v : Variable) → variable_named text vs ≡ Some v → P v
named_all P text [] all v is = absurd (let h : ⊥ = cc in h)
named_all P text (w ∷ vs) all v is = named_by P (is_of_name text w) w v (variable_named text vs) is all.0 (λ rest. named_all P text vs all.1 v rest)
