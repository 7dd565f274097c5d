-- The variable of a name is that of the number to which the name is bound.
use Rattle.std.proofs.Common.{◌≡◌, ℕ, ◌+◌, ◌-◌, ◌≤◌, suc, Bool, true, false, if◌then◌else◌, List, [], ◌∷◌, Some, None, refl, ap, ◌∙◌, arith}
use Rattle.std.specs.List.{slice_get}
use Rattle.source_tree.specs.Syntax.{FileData}
use Rattle.naming.specs.Scopes.{Variable, is_of_name}
use Rattle.naming.specs.Slots.{found}
use Rattle.typing.specs.declared.next.Next.{Next}
use Rattle.typing.specs.Places.{first_place, places_behind}
use Rattle.typing.specs.Members.{member_of, members_of, member_among}

-- where a name is found, its number is not below the first, and the variable of the number is that of the name
pub record IsFound (f : FileData) (sizes text : List ℕ) (next : Next) (vs : List Variable) (first k : ℕ) : Type 0 where
  pub above : first ≤ k
  pub same : slice_get (members_of f sizes next vs) (k - first) ≡ member_among f sizes text next vs

here_or_behind : (b : Bool) (f : FileData) (sizes text : List ℕ) (next : Next) (v : Variable) (vs : List Variable) (first k : ℕ) (w : Variable) → is_of_name text v ≡ b
    → (if b then Some (first, v) else found text (first + 1) vs) ≡ Some (k, w)
    → (found text (first + 1) vs ≡ Some (k, w) → IsFound f sizes text (places_behind f sizes next v) vs (first + 1) k) → IsFound f sizes text next (v ∷ vs) first k
here_or_behind true f sizes text next v vs first k w is e behind =
    let pair : (let x : ℕ × Variable = (first, v) in x) ≡ (k, w) = cc in
    let same : first ≡ k = ap (λ (x : ℕ × Variable). x.0) pair in
    let none : k - first ≡ 0 = omega arith in
    record { above = omega arith; same = ap (slice_get (members_of f sizes next (v ∷ vs))) none ∙ rw is refl }
here_or_behind false f sizes text next v vs first k w is e behind =
    let rest : IsFound f sizes text (places_behind f sizes next v) vs (first + 1) k = behind e in
    let more : k - first ≡ suc (k - (first + 1)) = omega (arith, rest.above) in
    record { above = omega (arith, rest.above); same = ap (slice_get (members_of f sizes next (v ∷ vs))) more ∙ rest.same ∙ rw is refl }

pub found_is : (f : FileData) (sizes text : List ℕ) (next : Next) (vs : List Variable) (first k : ℕ) (w : Variable) → found text first vs ≡ Some (k, w) → IsFound f sizes text next vs first k
found_is f sizes text next [] first k w e = absurd (let h : ⊥ = cc in h)
found_is f sizes text next (v ∷ vs) first k w e =
    here_or_behind (is_of_name text v) f sizes text next v vs first k w refl e (λ rest. found_is f sizes text (places_behind f sizes next v) vs (first + 1) k w rest)

not_here : (b : Bool) (f : FileData) (sizes text : List ℕ) (next : Next) (v : Variable) (vs : List Variable) (first : ℕ) → (if b then Some (first, v) else found text (first + 1) vs) ≡ None
    → (found text (first + 1) vs ≡ None → member_among f sizes text (places_behind f sizes next v) vs ≡ None)
    → (if b then Some (member_of f (first_place next v) v) else member_among f sizes text (places_behind f sizes next v) vs) ≡ None
not_here true f sizes text next v vs first e behind = absurd (let h : ⊥ = cc in h)
not_here false f sizes text next v vs first e behind = behind e

-- where a name is not found, it is that of no variable
pub not_found_is : (f : FileData) (sizes text : List ℕ) (next : Next) (vs : List Variable) (first : ℕ) → found text first vs ≡ None → member_among f sizes text next vs ≡ None
not_found_is f sizes text next [] first e = refl
not_found_is f sizes text next (v ∷ vs) first e =
    not_here (is_of_name text v) f sizes text next v vs first e (λ rest. not_found_is f sizes text (places_behind f sizes next v) vs (first + 1) rest)
