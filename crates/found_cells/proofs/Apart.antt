-- Names that are declared once differ, and so do the paths that begin with them.
use Rattle.std.proofs.Common.{◌≡◌, ℕ, Bool, true, false, ◌||◌, not, if◌then◌else◌, List, [], ◌∷◌, ◌++◌, refl, sym, ap, ◌∙◌, subst, append_assoc}
use Rattle.std.specs.Prelude.{◌==◌, codes}
use Rattle.std.specs.List.{AllByRecursion, list_any, IsDistinct}
use Rattle.std.specs.Str.{bytes_eq}
use Rattle.std.specs.Cmp.{both_ways as same_tests}
use Rattle.std.proofs.lemmas.Bool.{and_parts, false≢true, both_ways, eq-eqb}
use Rattle.std.proofs.lemmas.List.{append_cancel_left}
use Rattle.std.proofs.lemmas.List.Folds.{list_any-append}
use Rattle.std.proofs.lemmas.List.Sorted.{IsPermutation-filter_both}
use Rattle.std.proofs.lemmas.Map.Keys.{IsDistinct-cons, IsDistinct-IsPermutation}
use Rattle.std.proofs.lemmas.Slice.Eq.{bytes_eq-Decides}
use Rattle.rules.specs.Judgements.{ok}
use Rattle.source_tree.specs.Syntax.{Named}
use Rattle.naming.specs.Broken.{twice, variables_twice}
use Rattle.naming.specs.Scopes.{Variable, is_fault, is_of_name}
use Rattle.typing.specs.Places.{is_front, in_order}
use Rattle.found_cells.specs.Names.{HasNoPoint}

-- ---- names that are declared once

first_of_or : (a b : Bool) → (a || b) ≡ false → (a ≡ false) × (b ≡ false)
first_of_or true b e = absurd (let h : ⊥ = cc in h)
first_of_or false b e = (refl, e)

not_twice : (c : Bool) (n : Named) → (if c then twice n else ok).whole ≡ true → c ≡ false
not_twice true n whole = absurd (false≢true whole)
not_twice false n whole = refl

abbrev pub same_name : Variable → Variable → Bool
same_name u v = bytes_eq u.name.text v.name.text

-- the first name is no fault, none of the earlier ones, and the others follow
record IsFirstOnce (fault : Bool) (before : List Variable) (v : Variable) (vs : List Variable) : Type 0 where
  plain : is_fault fault v.name.text ≡ false
  others : list_any (is_of_name v.name.text) before ≡ false
  rest : (variables_twice fault (before ++ v ∷ []) vs).whole ≡ true

first_once : (fault : Bool) (before : List Variable) (v : Variable) (vs : List Variable) → (variables_twice fault before (v ∷ vs)).whole ≡ true → IsFirstOnce fault before v vs
first_once fault before v vs whole =
    let test = is_fault fault v.name.text || list_any (is_of_name v.name.text) before in
    let parts = and_parts (if test then twice v.name else ok).whole (variables_twice fault (before ++ v ∷ []) vs).whole whole in
    let none = first_of_or (is_fault fault v.name.text) (list_any (is_of_name v.name.text) before) (not_twice test v.name parts.0) in
    record { plain = none.0; others = none.1; rest = parts.1 }

-- later names differ from an earlier one
later : (fault : Bool) (xs : List Variable) (u : Variable) (ys vs : List Variable) → (variables_twice fault (xs ++ u ∷ ys) vs).whole ≡ true → AllByRecursion (λ v. same_name u v ≡ false) vs
later fault xs u ys [] whole = tt
later fault xs u ys (v ∷ vs) whole =
    let first = first_once fault (xs ++ u ∷ ys) v vs whole in
    let split : (list_any (is_of_name v.name.text) xs || (is_of_name v.name.text u || list_any (is_of_name v.name.text) ys)) ≡ false = sym (list_any-append (is_of_name v.name.text) xs (u ∷ ys)) ∙ first.others in
    let other = first_of_or (is_of_name v.name.text u) (list_any (is_of_name v.name.text) ys) (first_of_or (list_any (is_of_name v.name.text) xs) _ split).1 in
    (other.0, later fault xs u (ys ++ v ∷ []) vs (subst (λ (l : List Variable). (variables_twice fault l vs).whole ≡ true) (append_assoc xs (u ∷ ys) (v ∷ [])) first.rest))

pub names_differ : (fault : Bool) (before vs : List Variable) → (variables_twice fault before vs).whole ≡ true → IsDistinct same_name vs
unfolding IsDistinct
names_differ fault before [] whole = tt
names_differ fault before (v ∷ vs) whole =
    let first = first_once fault before v vs whole in
    IsDistinct-cons same_name v vs (later fault before v [] vs first.rest) (names_differ fault (before ++ v ∷ []) vs first.rest)

-- none of a PROGRAM is FAULT
pub none_fault : (before vs : List Variable) → (variables_twice true before vs).whole ≡ true → AllByRecursion (λ v. bytes_eq v.name.text (codes "FAULT") ≡ false) vs
none_fault before [] whole = tt
none_fault before (v ∷ vs) whole = let first = first_once true before v vs whole in (first.plain, none_fault (before ++ v ∷ []) vs first.rest)

same_back : (xs ys : List ℕ) → bytes_eq xs ys ≡ true → bytes_eq ys xs ≡ true
same_back xs ys is = (bytes_eq-Decides ys xs).1 (sym ((bytes_eq-Decides xs ys).0 is))

pub bytes_flip : (xs ys : List ℕ) → bytes_eq xs ys ≡ bytes_eq ys xs
bytes_flip xs ys = same_tests (bytes_eq xs ys) (bytes_eq ys xs) (same_back xs ys) (same_back ys xs)

flips : (u v : Variable) → same_name u v ≡ same_name v u
flips u v = bytes_flip u.name.text v.name.text

-- also in the order of their cells
pub order_differs : (vs : List Variable) → IsDistinct same_name vs → IsDistinct same_name (in_order false vs)
order_differs vs differ =
    IsDistinct-IsPermutation same_name flips vs (in_order false vs)
    (IsPermutation-filter_both (λ (v : Variable). is_front false v.role) (λ (v : Variable). not (is_front false v.role)) (λ v. refl) vs) differ

-- ---- paths that begin with names

-- behind a name stands nothing, or a point
abbrev pub IsTail : List ℕ → Type 0
IsTail [] = Unit {0}
IsTail (c ∷ cs) = c ≡ 46

no_point : (c : ℕ) (text : List ℕ) → HasNoPoint (c ∷ text) → c ≡ 46 → ⊥
no_point c text none is = both_ways (c == 46) (first_of_or (c == 46) (list_any (λ d. d == 46) text) none).0 (eq-eqb c 46 is)

first_name : (a b s t : List ℕ) → HasNoPoint a → HasNoPoint b → IsTail s → IsTail t → a ++ s ≡ b ++ t → a ≡ b
first_name [] [] s t none other tail end same = refl
first_name [] (y ∷ b) [] t none other tail end same = absurd (let h : ⊥ = cc in h)
first_name [] (y ∷ b) (c ∷ s) t none other tail end same = let head : c ≡ y = cc in absurd (no_point y b other (sym head ∙ tail))
first_name (x ∷ a) [] s [] none other tail end same = absurd (let h : ⊥ = cc in h)
first_name (x ∷ a) [] s (c ∷ t) none other tail end same = let head : x ≡ c = cc in absurd (no_point x a none (head ∙ end))
first_name (x ∷ a) (y ∷ b) s t none other tail end same =
    let head : x ≡ y = cc in
    let rest : a ++ s ≡ b ++ t = cc in
    let here = first_of_or (x == 46) (list_any (λ d. d == 46) a) none in
    let there = first_of_or (y == 46) (list_any (λ d. d == 46) b) other in
    let names = first_name a b s t here.1 there.1 tail end rest in
    ap (λ (c : ℕ). c ∷ a) head ∙ ap (λ (l : List ℕ). y ∷ l) names

-- a path begins with a name
pub record IsOf (before text path : List ℕ) : Type 0 where
  pub tail : List ℕ
  pub is : path ≡ before ++ (text ++ tail)
  pub ends : IsTail tail

pub apart_by : (r : Bool) (x y : List ℕ) → bytes_eq x y ≡ r → (x ≡ y → ⊥) → r ≡ false
apart_by true x y is other = absurd (other ((bytes_eq-Decides x y).0 is))
apart_by false x y is other = refl

-- two that begin with names that differ
pub paths_differ : (before a b x y : List ℕ) → HasNoPoint a → HasNoPoint b → bytes_eq a b ≡ false → IsOf before a x → IsOf before b y → bytes_eq x y ≡ false
paths_differ before a b x y none other differ one two =
    apart_by (bytes_eq x y) x y refl
    (λ same. let texts : a ++ one.tail ≡ b ++ two.tail = append_cancel_left before (a ++ one.tail) (b ++ two.tail) (sym one.is ∙ same ∙ two.is) in
    both_ways (bytes_eq a b) differ ((bytes_eq-Decides a b).1 (first_name a b one.tail two.tail none other one.ends two.ends texts)))
