-- Markings that say which steps the transitions so far have left, and which they have entered.
use Rattle.std.specs.Prelude.{ℕ, Bool, ◌&&◌, ◌||◌, not, if◌then◌else◌, List, [], ◌∷◌, map, slice_set, pos}
use Rattle.std.specs.List.{list_all}
use Rattle.program_tree.specs.Tree.{TransitionData}
use Rattle.meaning.specs.Charts.{Marking, is_on}

abbrev pub no_steps : Marking → Marking
no_steps m = map (λ _. pos 0) m

abbrev pub with_steps : List ℕ → Marking → Marking
with_steps [] m = m
with_steps (i ∷ is) m = with_steps is (slice_set m i (pos 1))

-- all these steps are active and none is left
abbrev pub may_leave : Marking → Marking → List ℕ → Bool
may_leave x exited is = list_all (λ i. is_on x i && not (is_on exited i)) is

-- the steps left once a transition was tried, and those entered
abbrev pub exited_with : Marking → (TransitionData → Bool) → TransitionData → Marking → Marking
exited_with x holds t exited = if may_leave x exited t.from && holds t then with_steps t.from exited else exited

abbrev pub entered_with : Marking → (TransitionData → Bool) → TransitionData → Marking → Marking → Marking
entered_with x holds t exited entered = if may_leave x exited t.from && holds t then with_steps t.to entered else entered

-- the same once all of them were tried, and whether a condition met a fault
abbrev pub exited_after : Marking → (TransitionData → Bool) → List TransitionData → Marking → Marking
exited_after x holds [] exited = exited
exited_after x holds (t ∷ ts) exited = exited_after x holds ts (exited_with x holds t exited)

abbrev pub entered_after : Marking → (TransitionData → Bool) → List TransitionData → Marking → Marking → Marking
entered_after x holds [] exited entered = entered
entered_after x holds (t ∷ ts) exited entered = entered_after x holds ts (exited_with x holds t exited) (entered_with x holds t exited entered)

abbrev pub fault_after : Marking → (TransitionData → Bool) → (TransitionData → Bool) → List TransitionData → Marking → Bool → Bool
fault_after x holds faulty [] exited fault = fault
fault_after x holds faulty (t ∷ ts) exited fault =
    fault_after x holds faulty ts (exited_with x holds t exited) (fault || (may_leave x exited t.from && faulty t))

-- whether a step is active afterwards
abbrev pub is_next_from : Marking → Marking → Marking → ℕ → Bool
is_next_from x exited entered i = (is_on x i && not (is_on exited i)) || is_on entered i
