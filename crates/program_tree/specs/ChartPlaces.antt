-- The cells of a chart, and the steps that its transitions and actions name.
use Rattle.std.specs.Prelude.{◌≤◌, ◌<◌, ◌+◌, ℕ, List, [], ◌∷◌, Option, None, Some}
use Rattle.program_tree.specs.declared.typed.StepCells.{StepCells}
use Rattle.program_tree.specs.declared.typed.Association.{Association}
use Rattle.program_tree.specs.Tree.{Actions, no_actions, action}

-- the cells of a chart: s.X and s.L of each step, and the latches of its actions
abbrev pub latch_places : Actions → List ℕ
latch_places no_actions = []
latch_places (action None associations ss rest) = latch_places rest
latch_places (action (Some place) associations ss rest) = place ∷ latch_places rest

abbrev pub chart_places : List StepCells → Actions → List ℕ
chart_places [] actions = latch_places actions
chart_places (p ∷ ps) actions = p.active ∷ p.before ∷ chart_places ps actions

-- each number is at least a bound, and above the one before
abbrev pub AreRisingFrom : ℕ → List ℕ → Type 0
AreRisingFrom low [] = Unit {0}
AreRisingFrom low (p ∷ ps) = (low ≤ p) × AreRisingFrom (p + 1) ps

-- numbers of steps
abbrev pub AreSteps : ℕ → List ℕ → Type 0
AreSteps n [] = Unit {0}
AreSteps n (i ∷ is) = (i < n) × AreSteps n is

abbrev pub NameSteps : ℕ → List Association → Type 0
NameSteps n [] = Unit {0}
NameSteps n (a ∷ rest) = (a.step < n) × NameSteps n rest

-- an action with a latch has an association
abbrev pub IsAssociated : Option ℕ → List Association → Type 0
IsAssociated None associations = Unit {0}
IsAssociated (Some place) [] = ⊥
IsAssociated (Some place) (a ∷ rest) = Unit {0}
