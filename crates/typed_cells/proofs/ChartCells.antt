-- The cells of a POU's chart are its own: flags that stand behind the cells of all other names.
use Rattle.std.proofs.Common.{◌≡◌, ℕ, ◌+◌, ◌≤◌, Bool, true, false, if◌then◌else◌, List, [], ◌∷◌, ◌++◌, map, Option, Some, None, refl, sym, ap, ◌∙◌, arith, subst, append_assoc}
use Rattle.std.specs.Prelude.{All}
use Rattle.std.specs.List.{AllByRecursion}
use Rattle.std.proofs.lemmas.List.Elements.{All-from_recursion}
use Rattle.plc_types.specs.declared.elementary.Elementary.TheVariants as types
use Rattle.source_tree.specs.Syntax.{Named, BodyData, chart, PouData, PartData, step_part, transition_part, action_part, ChartActionData, FileData}
use Rattle.program_tree.specs.View.{actions_of as actions_from}
use Rattle.program_tree.specs.Places.{whole_cell}
use Rattle.program_tree.specs.ChartPlaces.{latch_places, AreRisingFrom}
use Rattle.sfc_shape.specs.Shapes.{steps_of, actions_of}
use Rattle.naming.specs.declared.role.Role.TheVariants as roles
use Rattle.naming.specs.Broken.{alone, variables_twice}
use Rattle.naming.specs.ChartWords.{is_stored}
use Rattle.naming.specs.FileScope.{pou_at}
use Rattle.naming.specs.Scopes.{Variable, is_step, block_of, of_chart, step_role, action_role, declared_by_part, declared_by_parts, names_in_body, variables_in_pou}
use Rattle.typing.specs.declared.next.Next.{Next}
use Rattle.typing.specs.declared.member.Member.{Member}
use Rattle.typing.specs.Typing.{Scope, by_path}
use Rattle.typing.specs.TypedStatements.{cell_of}
use Rattle.typing.specs.TypedCharts.{step_cells, latch_of, typed_action}
use Rattle.typing.specs.Places.{is_stored_action, is_front, sizes_of, first_places, first_place}
use Rattle.typing.specs.Members.{meaning_of, member_of, member_among, member_at, variable_or_value, scope_of, is_function}
use Rattle.typed_programs.specs.Scopes.{BodyScope}
use Rattle.typed_programs.specs.Statements.{IsFlagOf}
use Rattle.typed_scopes.specs.Charts.{cells_of_chart}
use Rattle.typed_cells.specs.Places.{declared_names, scope_over}
use Rattle.typed_cells.specs.Variables.{variable_places}
use Rattle.typed_cells.specs.Premises.{UsesItsBlocks, IsOrdered}
use Rattle.typed_cells.proofs.Occurrences.{Occurs, occurs_first, occurs_right, occurs_within, occurs_same}
use Rattle.typed_cells.proofs.Walks.{place_front, place_rest}
use Rattle.typed_cells.proofs.Bounds.{from_first}
use Rattle.typed_cells.proofs.Names.{declared_plain}
use Rattle.typed_cells.proofs.Owners.{member_is, at_name}
use Rattle.typed_cells.proofs.ChartNames.{after, after_append, once, found_after, step_width, stored_width, IsMoved, part_moved}
use Rattle.typed_cells.proofs.ChartOrder.{steps_from, latches_from, pairs, chart_split, rising_latches, rising_steps, IsChartNext, chart_next}
use Rattle.typed_cells.proofs.Roles.{step_cell, step_not_local, stored_cell, stored_not_local, stored_no_step}

-- ---- what the cells of a step and of a stored action take

step_places : (f : FileData) (v : Variable) → is_step v.role ≡ true → variable_places f v ≡ whole_cell types.Bool ∷ whole_cell types.Bool ∷ []
step_places f v is =
    let has = step_cell v.role is in
    let other = step_not_local v.role is in
    let none : block_of f v ≡ None = rw other refl in
    rw (has, none, is) refl

stored_places : (f : FileData) (v : Variable) → is_stored_action v.role ≡ true → variable_places f v ≡ whole_cell types.Bool ∷ []
stored_places f v is =
    let has = stored_cell v.role is in
    let other = stored_not_local v.role is in
    let plain = stored_no_step v.role is in
    let none : block_of f v ≡ None = rw other refl in
    rw (has, none, plain, is) refl

step_is : (initial : Bool) → is_step (step_role initial) ≡ true
step_is true = refl
step_is false = refl

step_cell_of : (f : FileData) (c : ℕ) (initial : Bool) (n : Named) → cell_of (Some (meaning_of f c (of_chart (step_role initial) n))) ≡ c
step_cell_of f c true n = refl
step_cell_of f c false n = refl

step_front : (initial : Bool) → is_front false (step_role initial) ≡ true
step_front true = refl
step_front false = refl

-- ---- a chart of a POU

module _ (f : FileData) (used : UsesItsBlocks f) (ordered : IsOrdered f) (k : ℕ) (p : PouData) (there : pou_at f k ≡ Some p) (ps : List PartData) (body : p.body ≡ chart ps) (fault : Bool)
    (unique : (variables_twice fault [] (variables_in_pou p)).whole ≡ true) where
  abbrev scope : Scope
  scope = scope_of f (sizes_of f) k

  abbrev owner : BodyScope
  owner = scope_over f k p

  abbrev begin : Next
  begin = first_places f (sizes_of f) p.pou_type (variables_in_pou p)

  abbrev names : List PartData → List Variable
  names qs = declared_by_parts (is_stored ps) qs

  found_at : (b : List Variable) (v : Variable) (c : List Variable) → variables_in_pou p ≡ b ++ v ∷ c → member_at f (sizes_of f) k v.name.text ≡ Some (member_of f (first_place (after f begin b) v) v)
  found_at b v c split =
      member_is f used ordered k p there (sizes_of f) v.name.text ∙ ap (λ (vs : List Variable). member_among f (sizes_of f) v.name.text begin vs) split
      ∙ found_after f begin b v c (once fault [] b v c (subst (λ (vs : List Variable). (variables_twice fault [] vs).whole ≡ true) split unique))

  means_at : (b : List Variable) (v : Variable) (c : List Variable) → variables_in_pou p ≡ b ++ v ∷ c → scope.means (by_path (alone v.name)) ≡ Some (meaning_of f (first_place (after f begin b) v) v)
  means_at b v c split = ap (λ (o : Option Member). variable_or_value f (sizes_of f) v.name.text [] o) (found_at b v c split)

  -- what stands at the place of a name of the chart
  record IsPlaced (v : Variable) (place : ℕ) : Type 0 where
    variable : Variable
    role : v.role ≡ variable.role
    stands : Occurs (variable_places f variable) owner.places place
    first : owner.first ≤ place

  placed_at : (b : List Variable) (v : Variable) (c : List Variable) → variables_in_pou p ≡ b ++ v ∷ c → IsPlaced v (first_place (after f begin b) v)
  placed_at b v c split =
      let found = found_at b v c split in
      let m = member_of f (first_place (after f begin b) v) v in
      let at = at_name f used ordered k p there v.name.text m found in
      record {
        variable = at.variable;
        role = ap (λ (x : Member). x.role) at.is;
        stands = at.stands;
        first = from_first f v.name.text p.pou_type (variables_in_pou p) m (sym (member_is f used ordered k p there (sizes_of f) v.name.text) ∙ found);
      }

  one_flag : (place : ℕ) → Occurs (whole_cell types.Bool ∷ []) owner.places place → owner.first ≤ place → IsFlagOf owner place
  one_flag place stands first =
      let bound = occurs_within (whole_cell types.Bool ∷ []) owner.places place stands in ((first, omega (arith, bound)), occurs_first (whole_cell types.Bool) [] owner.places place stands)

  two_flags : (place : ℕ) → Occurs (whole_cell types.Bool ∷ whole_cell types.Bool ∷ []) owner.places place → owner.first ≤ place → IsFlagOf owner place × IsFlagOf owner (place + 1)
  two_flags place stands first =
      let bound = occurs_within (whole_cell types.Bool ∷ whole_cell types.Bool ∷ []) owner.places place stands in
      let second = occurs_right (whole_cell types.Bool ∷ []) (whole_cell types.Bool ∷ []) owner.places place stands in
      (((first, omega (arith, bound)), occurs_first (whole_cell types.Bool) (whole_cell types.Bool ∷ []) owner.places place stands), one_flag (place + 1) second (omega (arith, first)))

  -- ---- steps

  abbrev cells_of_steps : List PartData → List ℕ
  cells_of_steps qs = pairs (map (step_cells scope) (steps_of qs))

  record AreSteps (b : List Variable) (qs : List PartData) : Type 0 where
    places : cells_of_steps qs ≡ steps_from (after f begin b).front qs
    flags : AllByRecursion (IsFlagOf owner) (cells_of_steps qs)

  -- the names of the parts behind one
  behind_part : (b : List Variable) (q : PartData) (qs : List PartData) → variables_in_pou p ≡ b ++ names (q ∷ qs) → variables_in_pou p ≡ (b ++ declared_by_part (is_stored ps) q) ++ names qs
  behind_part b q qs split = split ∙ sym (append_assoc b (declared_by_part (is_stored ps) q) (names qs))

  moved_behind : (b : List Variable) (q : PartData) → (after f begin b).of_function ≡ false → IsMoved (after f begin b) (after f begin (b ++ declared_by_part (is_stored ps) q)) (step_width q) (stored_width (is_stored ps) q)
  moved_behind b q no_function =
      subst (λ (n : Next). IsMoved (after f begin b) n (step_width q) (stored_width (is_stored ps) q)) (sym (after_append f begin b (declared_by_part (is_stored ps) q))) (part_moved f (is_stored ps) q (after f begin b) no_function)

  steps_are : (b : List Variable) (qs : List PartData) → variables_in_pou p ≡ b ++ names qs → (after f begin b).of_function ≡ false → AreSteps b qs
  steps_are b [] split no_function = record { places = refl; flags = tt }
  steps_are b (step_part s ∷ qs) split no_function =
      let n = after f begin b in
      let v = of_chart (step_role s.is_initial) s.name in
      let moved = moved_behind b (step_part s) no_function in
      let rest = steps_are (b ++ v ∷ []) qs (behind_part b (step_part s) qs split) moved.no_function in
      let at = placed_at b v (names qs) split in
      let cell : cell_of (scope.means (by_path (alone s.name))) ≡ first_place n v = ap cell_of (means_at b v (names qs) split) ∙ step_cell_of f (first_place n v) s.is_initial s.name in
      let front : first_place n v ≡ n.front = place_front n v (subst (λ (o : Bool). is_front o v.role ≡ true) (sym no_function) (step_front s.is_initial)) in
      let same_rest : cells_of_steps qs ≡ steps_from (n.front + 2) qs = rest.places ∙ ap (λ (m : ℕ). steps_from m qs) moved.front in
      let two = two_flags (first_place n v) (occurs_same (variable_places f at.variable) _ owner.places (first_place n v) (step_places f at.variable (ap is_step (sym at.role) ∙ step_is s.is_initial)) at.stands) at.first in
      let flags_at : (c : ℕ) → c ≡ first_place n v → AllByRecursion (IsFlagOf owner) (c ∷ (c + 1) ∷ cells_of_steps qs) =
      λ c same. subst (λ (x : ℕ). AllByRecursion (IsFlagOf owner) (x ∷ (x + 1) ∷ cells_of_steps qs)) (sym same) (two.0, (two.1, rest.flags)) in
      record {
        places = ap (λ (c : ℕ). c ∷ (c + 1) ∷ cells_of_steps qs) (cell ∙ front) ∙ ap (λ (l : List ℕ). n.front ∷ (n.front + 1) ∷ l) same_rest;
        flags = flags_at (cell_of (scope.means (by_path (alone s.name)))) cell;
      }
  steps_are b (transition_part t ∷ qs) split no_function =
      let moved = moved_behind b (transition_part t) no_function in
      let rest = steps_are (b ++ declared_by_part (is_stored ps) (transition_part t)) qs (behind_part b (transition_part t) qs split) moved.no_function in
      let front = moved.front in
      record { places = rest.places ∙ ap (λ (m : ℕ). steps_from m qs) (omega (arith, front)); flags = rest.flags }
  steps_are b (action_part a ∷ qs) split no_function =
      let moved = moved_behind b (action_part a) no_function in
      let rest = steps_are (b ++ declared_by_part (is_stored ps) (action_part a)) qs (behind_part b (action_part a) qs split) moved.no_function in
      let front = moved.front in
      record { places = rest.places ∙ ap (λ (m : ℕ). steps_from m qs) (omega (arith, front)); flags = rest.flags }

  -- ---- stored actions

  abbrev cells_of_actions : List PartData → List ℕ
  cells_of_actions qs = latch_places (actions_from (map (typed_action scope ps) (actions_of qs)))

  record AreLatches (b : List Variable) (qs : List PartData) : Type 0 where
    places : cells_of_actions qs ≡ latches_from (is_stored ps) (after f begin b).rest qs
    flags : AllByRecursion (IsFlagOf owner) (cells_of_actions qs)

  -- an action, of which it is known whether it is stored
  abbrev action_of : Bool → ChartActionData → Variable
  action_of st a = of_chart (action_role st) a.name

  -- a chart's action before others: its latch, where it has one, comes first
  before_latches : (a : ChartActionData) (qs : List PartData) (o : Option ℕ) → latch_of (scope.means (by_path (alone a.name))) ≡ o → cells_of_actions (action_part a ∷ qs) ≡ latch_places (actions_from ((o, (typed_action scope ps a).1, (typed_action scope ps a).2) ∷ map (typed_action scope ps) (actions_of qs)))
  before_latches a qs o is = ap (λ (x : Option ℕ). latch_places (actions_from ((x, (typed_action scope ps a).1, (typed_action scope ps a).2) ∷ map (typed_action scope ps) (actions_of qs)))) is

  stored_latch : (st : Bool) (c : ℕ) (a : ChartActionData) → latch_of (Some (meaning_of f c (action_of st a))) ≡ (if st then Some c else None)
  stored_latch true c a = refl
  stored_latch false c a = refl

  record HasLatch (n : Next) (a : ChartActionData) (qs : List PartData) (st : Bool) : Type 0 where
    places : cells_of_actions (action_part a ∷ qs) ≡ (if st then n.rest ∷ cells_of_actions qs else cells_of_actions qs)
    flag : st ≡ true → IsFlagOf owner n.rest

  latch_at : (b : List Variable) (a : ChartActionData) (qs : List PartData) (st : Bool) → is_stored ps a.name.text ≡ st → variables_in_pou p ≡ b ++ names (action_part a ∷ qs) → (after f begin b).of_function ≡ false → HasLatch (after f begin b) a qs st
  latch_at b a qs true is split no_function =
      let n = after f begin b in
      let v = action_of true a in
      let here : variables_in_pou p ≡ b ++ v ∷ names qs = split ∙ ap (λ (x : Bool). b ++ action_of x a ∷ names qs) is in
      let at = placed_at b v (names qs) here in
      let place : first_place n v ≡ n.rest = place_rest n v (subst (λ (o : Bool). is_front o roles.StoredAction ≡ false) (sym no_function) refl) in
      let latch : latch_of (scope.means (by_path (alone a.name))) ≡ Some n.rest = ap latch_of (means_at b v (names qs) here) ∙ stored_latch true (first_place n v) a ∙ ap Some place in
      let flag = one_flag (first_place n v) (occurs_same (variable_places f at.variable) _ owner.places (first_place n v) (stored_places f at.variable (ap is_stored_action (sym at.role))) at.stands) at.first in
      record { places = before_latches a qs (Some n.rest) latch; flag = λ yes_is. subst (λ (c : ℕ). IsFlagOf owner c) place flag }
  latch_at b a qs false is split no_function =
      let n = after f begin b in
      let v = action_of false a in
      let here : variables_in_pou p ≡ b ++ v ∷ names qs = split ∙ ap (λ (x : Bool). b ++ action_of x a ∷ names qs) is in
      let latch : latch_of (scope.means (by_path (alone a.name))) ≡ None = ap latch_of (means_at b v (names qs) here) ∙ stored_latch false (first_place n v) a in
      record { places = before_latches a qs None latch; flag = λ never. absurd (let h : ⊥ = cc in h) }

  -- the latch of an action before those of others
  joined : (st : Bool) (rest : ℕ) (a : ChartActionData) (qs : List PartData) (next : ℕ) → is_stored ps a.name.text ≡ st → next ≡ rest + (if is_stored ps a.name.text then 1 else 0) → cells_of_actions qs ≡ latches_from (is_stored ps) next qs
      → (if st then rest ∷ cells_of_actions qs else cells_of_actions qs) ≡ latches_from (is_stored ps) rest (action_part a ∷ qs)
  joined true rest a qs next is moved same =
      let one : next ≡ rest + 1 = moved ∙ ap (λ (x : Bool). rest + (if x then 1 else 0)) is in
      ap (λ (l : List ℕ). rest ∷ l) (same ∙ ap (λ (m : ℕ). latches_from (is_stored ps) m qs) one)
      ∙ sym (ap (λ (x : Bool). if x then rest ∷ latches_from (is_stored ps) (rest + 1) qs else latches_from (is_stored ps) rest qs) is)
  joined false rest a qs next is moved same =
      let none : next ≡ rest + 0 = moved ∙ ap (λ (x : Bool). rest + (if x then 1 else 0)) is in
      same ∙ ap (λ (m : ℕ). latches_from (is_stored ps) m qs) (omega (arith, none))
      ∙ sym (ap (λ (x : Bool). if x then rest ∷ latches_from (is_stored ps) (rest + 1) qs else latches_from (is_stored ps) rest qs) is)

  flags_with : (st : Bool) (c : ℕ) (cs : List ℕ) → (st ≡ true → IsFlagOf owner c) → AllByRecursion (IsFlagOf owner) cs → AllByRecursion (IsFlagOf owner) (if st then c ∷ cs else cs)
  flags_with true c cs one all = (one refl, all)
  flags_with false c cs one all = all

  latches_are : (b : List Variable) (qs : List PartData) → variables_in_pou p ≡ b ++ names qs → (after f begin b).of_function ≡ false → AreLatches b qs
  latches_are b [] split no_function = record { places = refl; flags = tt }
  latches_are b (step_part s ∷ qs) split no_function =
      let moved = moved_behind b (step_part s) no_function in
      let rest = latches_are (b ++ declared_by_part (is_stored ps) (step_part s)) qs (behind_part b (step_part s) qs split) moved.no_function in
      let back = moved.rest in
      record { places = rest.places ∙ ap (λ (m : ℕ). latches_from (is_stored ps) m qs) (omega (arith, back)); flags = rest.flags }
  latches_are b (transition_part t ∷ qs) split no_function =
      let moved = moved_behind b (transition_part t) no_function in
      let rest = latches_are (b ++ declared_by_part (is_stored ps) (transition_part t)) qs (behind_part b (transition_part t) qs split) moved.no_function in
      let back = moved.rest in
      record { places = rest.places ∙ ap (λ (m : ℕ). latches_from (is_stored ps) m qs) (omega (arith, back)); flags = rest.flags }
  latches_are b (action_part a ∷ qs) split no_function =
      let n = after f begin b in
      let st = is_stored ps a.name.text in
      let moved = moved_behind b (action_part a) no_function in
      let rest = latches_are (b ++ declared_by_part (is_stored ps) (action_part a)) qs (behind_part b (action_part a) qs split) moved.no_function in
      let has = latch_at b a qs st refl split no_function in
      record {
        places = has.places ∙ joined st n.rest a qs (after f begin (b ++ declared_by_part (is_stored ps) (action_part a))).rest refl moved.rest rest.places;
        flags = subst (λ (l : List ℕ). AllByRecursion (IsFlagOf owner) l) (sym has.places) (flags_with st n.rest (cells_of_actions qs) has.flag rest.flags);
      }

  -- ---- all cells

  split_all : variables_in_pou p ≡ declared_names p ++ names ps
  split_all = ap (λ (b : BodyData). declared_names p ++ names_in_body b) body

  all_flags : (cs ds : List ℕ) → AllByRecursion (IsFlagOf owner) cs → AllByRecursion (IsFlagOf owner) ds → AllByRecursion (IsFlagOf owner) (cs ++ ds)
  all_flags [] ds one other = other
  all_flags (c ∷ cs) ds one other = (one.0, all_flags cs ds one.1 other)

  module _ (plain : is_function p.pou_type ≡ false) where
    start : IsChartNext f p.pou_type (after f begin (declared_names p)) (declared_names p) ps
    start =
        subst (λ (vs : List Variable). IsChartNext f p.pou_type (after f (first_places f (sizes_of f) p.pou_type vs) (declared_names p)) (declared_names p) ps) (sym split_all)
        (chart_next f p.pou_type plain (declared_names p) (is_stored ps) ps (declared_plain p))

    of_steps : AreSteps (declared_names p) ps
    of_steps = steps_are (declared_names p) ps split_all start.of_chart

    of_latches : AreLatches (declared_names p) ps
    of_latches = latches_are (declared_names p) ps split_all start.of_chart

    pub chart_flags : All (IsFlagOf owner) (cells_of_chart scope ps)
    chart_flags =
        All-from_recursion (IsFlagOf owner) (cells_of_chart scope ps)
        (subst (λ (l : List ℕ). AllByRecursion (IsFlagOf owner) l) (sym (chart_split (map (step_cells scope) (steps_of ps)) (actions_from (map (typed_action scope ps) (actions_of ps)))))
        (all_flags (cells_of_steps ps) (cells_of_actions ps) of_steps.flags of_latches.flags))

    pub chart_rising : AreRisingFrom owner.settable (cells_of_chart scope ps)
    chart_rising =
        let n = after f begin (declared_names p) in
        let at = start.front in
        let back = start.rest in
        let same : cells_of_chart scope ps ≡ steps_from n.front ps ++ latches_from (is_stored ps) n.rest ps =
        chart_split (map (step_cells scope) (steps_of ps)) (actions_from (map (typed_action scope ps) (actions_of ps))) ∙ ap (λ (l : List ℕ). l ++ cells_of_actions ps) of_steps.places ∙ ap (λ (l : List ℕ). steps_from n.front ps ++ l) of_latches.places in
        subst (λ (l : List ℕ). AreRisingFrom owner.settable l) (sym same)
        (rising_steps ps owner.settable n.front (latches_from (is_stored ps) n.rest ps) (omega (arith, at)) (λ m most. rising_latches (is_stored ps) ps m n.rest (omega (arith, most, back))))
