-- What the names in a chart make of it: the numbers of its steps, the associations of its actions with them, and the order in which
-- its transitions fire.
use Rattle.std.specs.Prelude.{ℕ, ◌+◌, nat_lt, List, [], ◌∷◌, ◌++◌, map, Bool, true, false, Option, Some, None, if◌then◌else◌}
use Rattle.std.specs.Str.{bytes_eq}
use Rattle.program_tree.specs.declared.typed.Qualifier.{Qualifier}
use Rattle.program_tree.specs.declared.typed.Association.{Association}
use Rattle.source_tree.specs.Syntax.{StepActionData, ChartStepData, StepsData, PriorityData, ChartTransitionData, ChartActionData, PartData, step_part, transition_part, action_part}
use Rattle.naming.specs.Broken.{steps_in}
use Rattle.naming.specs.ChartWords.{qualifier_of}

-- the steps, the transitions and the actions of a chart, in the order of the text
abbrev pub steps_of : List PartData → List ChartStepData
steps_of [] = []
steps_of (step_part s ∷ ps) = s ∷ steps_of ps
steps_of (transition_part t ∷ ps) = steps_of ps
steps_of (action_part a ∷ ps) = steps_of ps

abbrev pub transitions_of : List PartData → List ChartTransitionData
transitions_of [] = []
transitions_of (step_part s ∷ ps) = transitions_of ps
transitions_of (transition_part t ∷ ps) = t ∷ transitions_of ps
transitions_of (action_part a ∷ ps) = transitions_of ps

abbrev pub actions_of : List PartData → List ChartActionData
actions_of [] = []
actions_of (step_part s ∷ ps) = actions_of ps
actions_of (transition_part t ∷ ps) = actions_of ps
actions_of (action_part a ∷ ps) = a ∷ actions_of ps

-- the number of the first step of a name, where these steps are counted from a number on; where none has it, the one behind the last
abbrev pub step_number : ℕ → List ChartStepData → List ℕ → ℕ
step_number i [] text = i
step_number i (s ∷ ss) text = if bytes_eq s.name.text text then i else step_number (i + 1) ss text

-- the numbers of the steps before or behind a transition
abbrev pub step_numbers : List PartData → StepsData → List ℕ
step_numbers ps s = map (λ n. step_number 0 (steps_of ps) n.text) (steps_in s)

-- an association with the step of a number
abbrev pub association_with : ℕ → Option Qualifier → List Association
association_with i None = []
association_with i (Some q) = record { qualifier = q; step = i } ∷ []

-- the associations of the action of a name with the step of a number, and with steps that are counted from a number on
abbrev pub associated : List ℕ → ℕ → List StepActionData → List Association
associated text i [] = []
associated text i (a ∷ rest) = (if bytes_eq a.action.text text then association_with i (qualifier_of a) else []) ++ associated text i rest

abbrev pub associated_from : List ℕ → ℕ → List ChartStepData → List Association
associated_from text i [] = []
associated_from text i (s ∷ ss) = associated text i s.actions ++ associated_from text (i + 1) ss

-- the associations of the action of a name, in the order of the text
abbrev pub associations_of : List PartData → List ℕ → List Association
associations_of ps text = associated_from text 0 (steps_of ps)

-- A transition with a priority fires before one without, and before one whose number is greater.
abbrev pub comes_first : Option PriorityData → Option PriorityData → Bool
comes_first None q = false
comes_first (Some p) None = true
comes_first (Some p) (Some q) = nat_lt p.value q.value

-- a transition among others that stand behind it in the text, in the order in which they fire
abbrev pub placed : ChartTransitionData → List ChartTransitionData → List ChartTransitionData
placed t [] = t ∷ []
placed t (u ∷ us) = if comes_first u.priority t.priority then u ∷ placed t us else t ∷ u ∷ us

abbrev pub in_firing_order : List ChartTransitionData → List ChartTransitionData
in_firing_order [] = []
in_firing_order (t ∷ ts) = placed t (in_firing_order ts)
