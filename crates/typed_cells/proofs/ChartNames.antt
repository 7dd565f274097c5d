-- The names of a chart, each once, and where their cells stand.
use Rattle.std.proofs.Common.{◌≡◌, ℕ, ◌+◌, Bool, true, false, ◌||◌, if◌then◌else◌, List, [], ◌∷◌, ◌++◌, Option, Some, None, refl, sym, ap, ◌∙◌, arith, subst, append_assoc}
use Rattle.std.specs.List.{list_any}
use Rattle.std.proofs.lemmas.Bool.{false≢true}
use Rattle.std.proofs.lemmas.List.Folds.{list_any-append}
use Rattle.std.proofs.lemmas.Slice.Eq.{bytes_eq-Decides}
use Rattle.source_tree.specs.Syntax.{Named, PartData, step_part, transition_part, action_part, FileData}
use Rattle.rules.specs.Judgements.{ok}
use Rattle.naming.specs.declared.role.Role.TheVariants as roles
use Rattle.naming.specs.Broken.{twice, variables_twice}
use Rattle.naming.specs.Scopes.{Variable, is_fault, is_of_name, of_chart, step_role, action_role, transition_named, declared_by_part}
use Rattle.typing.specs.declared.next.Next.{Next}
use Rattle.typing.specs.Places.{is_front, cells_taken, sizes_of, first_place, places_behind}
use Rattle.typing.specs.Members.{member_of, member_among}
use Rattle.typed_scopes.proofs.Wholes.{whole_and}
use Rattle.typed_cells.proofs.Walks.{among_here, among_other, passed_front, passed_rest}

-- ---- each name once

first_of_or : (a b : Bool) → (a || b) ≡ false → (a ≡ false) × (b ≡ false)
first_of_or true b e = absurd (let h : ⊥ = cc in h)
first_of_or false b e = (refl, e)

not_twice : (c : Bool) (n : Named) → (if c then twice n else ok).whole ≡ true → c ≡ false
not_twice true n whole = absurd (false≢true whole)
not_twice false n whole = refl

-- a name is none of an earlier one
pub once : (fault : Bool) (before b : List Variable) (v : Variable) (c : List Variable) → (variables_twice fault before (b ++ v ∷ c)).whole ≡ true → list_any (is_of_name v.name.text) (before ++ b) ≡ false
once fault before [] v c whole =
    let parts = whole_and (if is_fault fault v.name.text || list_any (is_of_name v.name.text) before then twice v.name else ok) (variables_twice fault (before ++ v ∷ []) c) whole in
    let none = first_of_or (is_fault fault v.name.text) (list_any (is_of_name v.name.text) before) (not_twice (is_fault fault v.name.text || list_any (is_of_name v.name.text) before) v.name parts.0) in
    list_any-append (is_of_name v.name.text) before [] ∙ ap (λ (x : Bool). x || false) none.1
once fault before (u ∷ b) v c whole =
    let parts = whole_and (if is_fault fault u.name.text || list_any (is_of_name u.name.text) before then twice u.name else ok) (variables_twice fault (before ++ u ∷ []) (b ++ v ∷ c)) whole in
    ap (list_any (is_of_name v.name.text)) (sym (append_assoc before (u ∷ []) b)) ∙ once fault (before ++ u ∷ []) b v c parts.1

-- ---- the places behind names

abbrev pub after : FileData → Next → List Variable → Next
after f next [] = next
after f next (v ∷ vs) = after f (places_behind f (sizes_of f) next v) vs

pub after_append : (f : FileData) (next : Next) (vs ws : List Variable) → after f next (vs ++ ws) ≡ after f (after f next vs) ws
after_append f next [] ws = refl
after_append f next (v ∷ vs) ws = after_append f (places_behind f (sizes_of f) next v) vs ws

among_after : (f : FileData) (text : List ℕ) (next : Next) (b vs : List Variable) → list_any (is_of_name text) b ≡ false → member_among f (sizes_of f) text next (b ++ vs) ≡ member_among f (sizes_of f) text (after f next b) vs
among_after f text next [] vs none = refl
among_after f text next (u ∷ b) vs none =
    let two = first_of_or (is_of_name text u) (list_any (is_of_name text) b) none in
    among_other f (sizes_of f) text next u (b ++ vs) two.0 ∙ among_after f text (places_behind f (sizes_of f) next u) b vs two.1

-- where a name is found that none before it has
pub found_after : (f : FileData) (next : Next) (b : List Variable) (v : Variable) (c : List Variable) → list_any (is_of_name v.name.text) b ≡ false
    → member_among f (sizes_of f) v.name.text next (b ++ v ∷ c) ≡ Some (member_of f (first_place (after f next b) v) v)
found_after f next b v c none =
    among_after f v.name.text next b (v ∷ c) none ∙ among_here f (sizes_of f) v.name.text (after f next b) v c ((bytes_eq-Decides v.name.text v.name.text).1 refl)

-- ---- the cells of the names of a chart

-- how many cells the steps of a part have, and how many its actions
abbrev pub step_width : PartData → ℕ
step_width (step_part s) = 2
step_width (transition_part t) = 0
step_width (action_part a) = 0

abbrev pub stored_width : (List ℕ → Bool) → PartData → ℕ
stored_width stored (step_part s) = 0
stored_width stored (transition_part t) = 0
stored_width stored (action_part a) = if stored a.name.text then 1 else 0

pub record IsMoved (n m : Next) (steps stored : ℕ) : Type 0 where
  pub no_function : m.of_function ≡ false
  pub front : m.front ≡ n.front + steps
  pub rest : m.rest ≡ n.rest + stored

pub moved_at_front : (f : FileData) (n : Next) (v : Variable) → n.of_function ≡ false → is_front false v.role ≡ true → IsMoved n (places_behind f (sizes_of f) n v) (cells_taken f (sizes_of f) v) 0
moved_at_front f n v no_function front =
    let is : is_front n.of_function v.role ≡ true = subst (λ (o : Bool). is_front o v.role ≡ true) (sym no_function) front in
    let same = passed_front f (sizes_of f) n v is in
    record { no_function = ap (λ (m : Next). m.of_function) same ∙ no_function; front = ap (λ (m : Next). m.front) same; rest = ap (λ (m : Next). m.rest) same ∙ omega arith }

pub moved_at_rest : (f : FileData) (n : Next) (v : Variable) → n.of_function ≡ false → is_front false v.role ≡ false → IsMoved n (places_behind f (sizes_of f) n v) 0 (cells_taken f (sizes_of f) v)
moved_at_rest f n v no_function rest =
    let is : is_front n.of_function v.role ≡ false = subst (λ (o : Bool). is_front o v.role ≡ false) (sym no_function) rest in
    let same = passed_rest f (sizes_of f) n v is in
    record { no_function = ap (λ (m : Next). m.of_function) same ∙ no_function; front = ap (λ (m : Next). m.front) same ∙ omega arith; rest = ap (λ (m : Next). m.rest) same }

step_moved : (f : FileData) (initial : Bool) (n : Named) (next : Next) → next.of_function ≡ false → IsMoved next (places_behind f (sizes_of f) next (of_chart (step_role initial) n)) 2 0
step_moved f true n next no_function = moved_at_front f next (of_chart (step_role true) n) no_function refl
step_moved f false n next no_function = moved_at_front f next (of_chart (step_role false) n) no_function refl

action_moved : (f : FileData) (stored : Bool) (n : Named) (next : Next) → next.of_function ≡ false → IsMoved next (places_behind f (sizes_of f) next (of_chart (action_role stored) n)) 0 (if stored then 1 else 0)
action_moved f true n next no_function = moved_at_rest f next (of_chart (action_role true) n) no_function refl
action_moved f false n next no_function = moved_at_front f next (of_chart (action_role false) n) no_function refl

not_moved : (next : Next) → next.of_function ≡ false → IsMoved next next 0 0
not_moved next no_function = record { no_function = no_function; front = omega arith; rest = omega arith }

transition_moved : (f : FileData) (n : Option Named) (next : Next) → next.of_function ≡ false → IsMoved next (after f next (transition_named n)) 0 0
transition_moved f None next no_function = not_moved next no_function
transition_moved f (Some n) next no_function = moved_at_front f next (of_chart roles.Transition n) no_function refl

pub part_moved : (f : FileData) (stored : List ℕ → Bool) (q : PartData) (next : Next) → next.of_function ≡ false → IsMoved next (after f next (declared_by_part stored q)) (step_width q) (stored_width stored q)
part_moved f stored (step_part s) next no_function = step_moved f s.is_initial s.name next no_function
part_moved f stored (transition_part t) next no_function = transition_moved f t.name next no_function
part_moved f stored (action_part a) next no_function = action_moved f (stored a.name.text) a.name next no_function
