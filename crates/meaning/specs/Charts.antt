-- What one run of a sequential function chart finds out (IEC 61131-3, 2.6). A marking has a number
-- for each step, by the step's number in the text: 1 where it is active, else 0. X is the marking where this run starts, and L the one
-- where the run before it, of the same program or instance, started.
use Rattle.std.specs.Prelude.{ℕ, ◌+◌, ◌==◌, Bool, true, false, ◌&&◌, ◌||◌, not, if◌then◌else◌, List, [], ◌∷◌, map, filter, Option, Some, None, slice_index_or, ℤ, pos}
use Rattle.std.specs.List.{list_any, list_all}
use Rattle.program_tree.specs.declared.typed.StepCells.{StepCells}
use Rattle.program_tree.specs.declared.typed.Association.{Association}
use Rattle.program_tree.specs.declared.typed.Qualifier.{Qualifier}
use Rattle.program_tree.specs.declared.typed.Qualifier.TheVariants.{NonStored, Set, Reset, Pulse, FallingPulse}
use Rattle.program_tree.specs.Tree.{TransitionData}
use Rattle.meaning.specs.Values.{State, Callees, is_truth, value_of, faults}

abbrev pub Marking : Type 0
Marking = List ℤ

-- whether a step is active in a marking, and whether a cell is TRUE in a state
abbrev pub is_on : List ℤ → ℕ → Bool
is_on s place = is_truth (slice_index_or s place (pos 0))

abbrev pub marking_now : ℕ → List StepCells → State → Marking
marking_now base steps s = map (λ p. slice_index_or s (base + p.active) (pos 0)) steps

abbrev pub marking_before : ℕ → List StepCells → State → Marking
marking_before base steps s = map (λ p. slice_index_or s (base + p.before) (pos 0)) steps

-- 1. Latches: each becomes TRUE where it is or an S step is active, and no R step is.
abbrev pub is_set : Qualifier → Bool
is_set NonStored = false
is_set Set = true
is_set Reset = false
is_set Pulse = false
is_set FallingPulse = false

abbrev pub is_reset : Qualifier → Bool
is_reset NonStored = false
is_reset Set = false
is_reset Reset = true
is_reset Pulse = false
is_reset FallingPulse = false

abbrev pub sets : Marking → Association → Bool
sets x a = is_set a.qualifier && is_on x a.step

abbrev pub resets : Marking → Association → Bool
resets x a = is_reset a.qualifier && is_on x a.step

abbrev pub latch_is_on : ℕ → Option ℕ → State → Bool
latch_is_on base None s = false
latch_is_on base (Some place) s = is_on s (base + place)

abbrev pub next_latch : ℕ → Marking → Option ℕ → List Association → State → Bool
next_latch base x latch associations s = (latch_is_on base latch s || list_any (sets x) associations) && not (list_any (resets x) associations)

-- 2. Actions: one runs where no R step of it is active, and its latch is TRUE or an association asks for it: N by an active step, P
-- and P1 by one that was not active before, P0 by one that was and is no more.
abbrev pub is_asked_for : Qualifier → Bool → Bool → Bool
is_asked_for NonStored now before = now
is_asked_for Set now before = false
is_asked_for Reset now before = false
is_asked_for Pulse now before = now && not before
is_asked_for FallingPulse now before = before && not now

abbrev pub asks : Marking → Marking → Association → Bool
asks x l a = is_asked_for a.qualifier (is_on x a.step) (is_on l a.step)

abbrev pub runs : ℕ → Marking → Marking → Option ℕ → List Association → State → Bool
runs base x l latch associations s = (latch_is_on base latch s || list_any (asks x l) associations) && not (list_any (resets x) associations)

-- 3. Transitions, in the order in which they fire. Steps that transitions have left, and those that they enter:
abbrev pub is_among : ℕ → List ℕ → Bool
is_among i steps = list_any (λ j. i == j) steps

abbrev pub is_exited : List TransitionData → ℕ → Bool
is_exited ts i = list_any (λ t. is_among i t.from) ts

abbrev pub is_entered : List TransitionData → ℕ → Bool
is_entered ts i = list_any (λ t. is_among i t.to) ts

-- all steps before a transition are active, and none was left by a transition that fired earlier
abbrev pub may_fire : Marking → List TransitionData → TransitionData → Bool
may_fire x earlier t = list_all (λ i. is_on x i && not (is_exited earlier i)) t.from

-- The transitions whose conditions are evaluated: those that may fire, once some fired earlier. One of them fires where its
-- condition is TRUE.
abbrev pub evaluated : Marking → (TransitionData → Bool) → List TransitionData → List TransitionData → List TransitionData
evaluated x holds earlier [] = []
evaluated x holds earlier (t ∷ ts) =
    if may_fire x earlier t
    then t ∷ evaluated x holds (if holds t then t ∷ earlier else earlier) ts
    else evaluated x holds earlier ts

abbrev pub fired : Marking → (TransitionData → Bool) → List TransitionData → List TransitionData
fired x holds ts = filter holds (evaluated x holds [] ts)

-- conditions are evaluated on the values after the actions
abbrev pub holds_in : Callees → ℕ → State → TransitionData → Bool
holds_in callees base s t = is_truth (value_of callees base t.condition s)

abbrev pub faults_in : Callees → ℕ → State → TransitionData → Bool
faults_in callees base s t = faults callees base t.condition s

-- 4. The next marking: a step is active where it was and is not left, or where it is entered.
abbrev pub is_next : Marking → List TransitionData → ℕ → Bool
is_next x ts i = (is_on x i && not (is_exited ts i)) || is_entered ts i
