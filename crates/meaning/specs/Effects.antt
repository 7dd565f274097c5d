-- What statements and charts do to a state of their owner (IEC 61131-3, 3.3.2 and 2.6). The ranges are those of the owner's cells, in their order, and the
-- cells of the POU begin at a base.
use Rattle.std.specs.Prelude.{ℕ, suc, zero, ◌+◌, List, [], ◌∷◌, Bool, false, ◌||◌, Option, None, Some, slice_set, slice_index_or, ℤ, pos, ◌+ℤ◌, if◌then◌else◌}
use Rattle.program_tree.specs.plc_types.declared.range.Range.{Range}
use Rattle.program_tree.specs.declared.typed.TypedLabel.{TypedLabel}
use Rattle.program_tree.specs.declared.typed.TypedLabel.TheVariants.{Single, Span}
use Rattle.std.specs.Ordering.{int_eq}
use Rattle.std.specs.List.{list_any}
use Rattle.program_tree.specs.declared.typed.StepCells.{StepCells}
use Rattle.program_tree.specs.declared.typed.Association.{Association}
use Rattle.program_tree.specs.plc_types.Types.{in_range}
use Rattle.program_tree.specs.Tree.{Statement, TransitionData, assign, call_block, choice, cases, repeat, chart, exit, return, own_body, Statements, no_statements, statement, Choices, no_choices, choose, Entries, no_entries, entry, Actions, no_actions, action}
use Rattle.meaning.specs.Values.{State, Callees, number_of, value_of, faults, is_truth}
use Rattle.meaning.specs.Charts.{Marking, marking_now, marking_before, next_latch, runs, evaluated, fired, holds_in, faults_in, is_next}

-- the range of a cell; where there is no cell no value is in it
abbrev pub range_at : List Range → ℕ → Range
range_at rs place = slice_index_or rs place (record { low = pos 1; high = pos 0 })

-- a fault that is met is added to FAULT, the first cell
abbrev pub with_fault : Bool → State → State
with_fault fault s = if fault then slice_set s 0 (pos 1) else s

-- What a statement does to a state, and whether what stands behind it in its list goes on. An EXIT leaves the list, and the innermost FOR around it ends
-- there; a RETURN leaves it, and the innermost body of its own ends there (3.3.2.1 and 3.3.2.4).
pub data Effect : Type 0 where
  on : State → Effect
  exited : State → Effect
  returned : State → Effect

-- the state that is left, whatever the outcome
abbrev pub state_of : Effect → State
state_of (on s) = s
state_of (exited s) = s
state_of (returned s) = s

-- what stands behind a statement runs only where it goes on
abbrev pub followed_by : Effect → (State → Effect) → Effect
followed_by (on s) next = next s
followed_by (exited s) next = exited s
followed_by (returned s) next = returned s

-- The turns behind one: an EXIT in it ends the FOR, which goes on; a RETURN ends the FOR, and what stands around it.
abbrev pub behind_turn : Effect → (State → Effect) → Effect
behind_turn (on s) next = next s
behind_turn (exited s) next = on s
behind_turn (returned s) next = returned s

-- behind a body of its own all goes on where a RETURN ended it
abbrev pub behind_body : Effect → Effect
behind_body (on s) = on s
behind_body (exited s) = exited s
behind_body (returned s) = on s

-- a value outside the target's range is a fault, and leaves the target
abbrev pub stored : List Range → ℕ → ℤ → State → State
stored rs target v s = if in_range v (range_at rs target) then slice_set s target v else slice_set s 0 (pos 1)

-- a value is that of a label, or one of its range
abbrev pub is_named : ℤ → TypedLabel → Bool
is_named v (Single k) = int_eq v k
is_named v (Span r) = in_range v r

-- a value is among those of the labels of an entry
abbrev pub is_labelled : ℤ → List TypedLabel → Bool
is_labelled v [] = false
is_labelled v (l ∷ ls) = is_named v l || is_labelled v ls

-- So many turns of a body: the control variable gets its value, and the body runs; behind the last turn the variable gets the
-- value that ends the FOR. Where a turn leaves the body, the variable keeps its value.
abbrev pub effect_of_turns : List Range → ℕ → ℕ → ℤ → ℤ → (State → Effect) → State → Effect
effect_of_turns rs zero control v step body s = on (stored rs control v s)
effect_of_turns rs (suc count) control v step body s = behind_turn (body (stored rs control v s)) (effect_of_turns rs count control (v +ℤ step) step body)

-- The latches of a chart's actions, and its steps' cells: each is a BOOL, and assigned as any other cell.
abbrev pub latched : List Range → ℕ → Marking → Option ℕ → List Association → State → State
latched rs base x None associations s = s
latched rs base x (Some place) associations s = stored rs (base + place) (number_of (next_latch base x (Some place) associations s)) s

abbrev pub all_latched : List Range → ℕ → Marking → Actions → State → State
all_latched rs base x no_actions s = s
all_latched rs base x (action latch associations body rest) s = all_latched rs base x rest (latched rs base x latch associations s)

-- L becomes X, and X the next marking; the steps are counted from a number on
abbrev pub marked : List Range → ℕ → Marking → (ℕ → Bool) → ℕ → List StepCells → State → State
marked rs base x next i [] s = s
marked rs base x next i (p ∷ rest) s =
    marked rs base x next (i + 1) rest (stored rs (base + p.active) (number_of (next i)) (stored rs (base + p.before) (slice_index_or x i (pos 0)) s))

-- The last two parts of a chart's run, on the state behind its actions: the transitions that fire, whose faults and those of the
-- others that were evaluated are added to FAULT, and the next marking.
abbrev pub effect_of_transitions : Callees → List Range → ℕ → Marking → List StepCells → List TransitionData → State → State
effect_of_transitions callees rs base x steps ts s =
    marked rs base x (is_next x (fired x (holds_in callees base s) ts)) 0 steps
    (with_fault (list_any (faults_in callees base s) (evaluated x (holds_in callees base s) [] ts)) s)

abbrev mutual
  pub effect_of : Callees → List Range → ℕ → Statement → State → Effect
  effect_of callees rs base (assign target e) s =
      on (stored rs (base + target) (value_of callees base e s) (with_fault (faults callees base e s) s))
  effect_of callees rs base (call_block b offset) s = on (callees.runs b rs (base + offset) s)
  effect_of callees rs base (choice arms other) s = effect_of_choices callees rs base arms (effect_of_all callees rs base other) s
  effect_of callees rs base (cases kind e es other) s =
      effect_of_entries callees rs base (value_of callees base e s) es (effect_of_all callees rs base other) (with_fault (faults callees base e s) s)
  effect_of callees rs base (repeat turns body) s =
      effect_of_turns rs turns.count (base + turns.control) turns.first turns.step (effect_of_all callees rs base body) s
  effect_of callees rs base (chart steps actions ts) s =
      let x = marking_now base steps s in
      let l = marking_before base steps s in
      on (effect_of_transitions callees rs base x steps ts (effect_of_actions callees rs base x l actions (all_latched rs base x actions s)))
  effect_of callees rs base exit s = exited s
  effect_of callees rs base return s = returned s
  effect_of callees rs base (own_body ss) s = behind_body (effect_of_all callees rs base ss s)

  -- a list ends at the first statement that leaves it
  pub effect_of_all : Callees → List Range → ℕ → Statements → State → Effect
  effect_of_all callees rs base no_statements s = on s
  effect_of_all callees rs base (statement t ts) s = followed_by (effect_of callees rs base t s) (effect_of_all callees rs base ts)

  -- conditions are evaluated in order up to the first that is TRUE, whose statements run; with none, the others do
  pub effect_of_choices : Callees → List Range → ℕ → Choices → (State → Effect) → State → Effect
  effect_of_choices callees rs base no_choices other s = other s
  effect_of_choices callees rs base (choose e ss arms) other s =
      if is_truth (value_of callees base e s) then effect_of_all callees rs base ss (with_fault (faults callees base e s) s)
      else effect_of_choices callees rs base arms other (with_fault (faults callees base e s) s)

  -- the entry runs that is the first to have the selector's value among its labels; with none, the others run
  pub effect_of_entries : Callees → List Range → ℕ → ℤ → Entries → (State → Effect) → State → Effect
  effect_of_entries callees rs base v no_entries other s = other s
  effect_of_entries callees rs base v (entry labels ss es) other s =
      if is_labelled v labels then effect_of_all callees rs base ss s else effect_of_entries callees rs base v es other s

  -- the actions that run do so in the order of the text; what ends the list of one ends that action alone
  pub effect_of_actions : Callees → List Range → ℕ → Marking → Marking → Actions → State → State
  effect_of_actions callees rs base x l no_actions s = s
  effect_of_actions callees rs base x l (action latch associations body rest) s =
      effect_of_actions callees rs base x l rest (if runs base x l latch associations s then state_of (effect_of_all callees rs base body s) else s)
