-- Laws of the definitions.
use Rattle.std.specs.Prelude.{◌≡◌, ℕ, List, [], ◌∷◌, ◌++◌, Bool, ◌&&◌, if◌then◌else◌}
use Rattle.program_tree.specs.plc_types.declared.range.Range.{Range}
use Rattle.program_tree.specs.Tree.{TransitionData, Statement, Statements, no_statements, statement}
use Rattle.program_tree.specs.Leaving.{LeavesNothing}
use Rattle.meaning.specs.Values.{State, Callees}
use Rattle.meaning.specs.Charts.{Marking, may_fire, fired}
use Rattle.meaning.specs.Effects.{on, state_of, followed_by, effect_of, effect_of_all}

-- Of no transitions none fires. Behind others, a transition fires exactly where all steps before it are active, none was left by one
-- of those that fired, and its condition is TRUE.
abbrev pub NoneFires : Type 0
NoneFires = (x : Marking) (holds : TransitionData → Bool) → fired x holds [] ≡ []

abbrev pub TransitionsFireInTurn : Type 0
TransitionsFireInTurn =
    (x : Marking) (holds : TransitionData → Bool) (before : List TransitionData) (t : TransitionData)
    → fired x holds (before ++ (t ∷ [])) ≡ fired x holds before ++ (if may_fire x (fired x holds before) t && holds t then t ∷ [] else [])

-- statements, and others behind them
abbrev pub and_then : Statements → Statements → Statements
and_then no_statements others = others
and_then (statement t ts) others = statement t (and_then ts others)

-- a list does what its first part does, and then, where that goes on, what the rest does
abbrev pub ListsDoWhatTheirPartsDo : Type 0
ListsDoWhatTheirPartsDo =
    (callees : Callees) (rs : List Range) (base : ℕ) (front back : Statements) (s : State)
    → effect_of_all callees rs base (and_then front back) s ≡ followed_by (effect_of_all callees rs base front s) (effect_of_all callees rs base back)

-- A list that no EXIT and no RETURN leaves goes on, whatever the state; each of its statements runs on the state that the one before it leaves.
abbrev pub WithoutLeavingAllGoOn : Type 0
WithoutLeavingAllGoOn =
    (callees : Callees) (rs : List Range) (base : ℕ) (ss : Statements) (s : State) → LeavesNothing ss
    → effect_of_all callees rs base ss s ≡ on (state_of (effect_of_all callees rs base ss s))

abbrev pub WithoutLeavingEachRuns : Type 0
WithoutLeavingEachRuns =
    (callees : Callees) (rs : List Range) (base : ℕ) (t : Statement) (ts : Statements) (s : State) → LeavesNothing (statement t ts)
    → state_of (effect_of_all callees rs base (statement t ts) s) ≡ state_of (effect_of_all callees rs base ts (state_of (effect_of callees rs base t s)))
