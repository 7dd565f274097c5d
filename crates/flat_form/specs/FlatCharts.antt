-- The flat list of a chart (IEC 61131-3, 2.6), but for the statements of its actions. It asks for the marking where the run starts by the
-- cells of the steps, and keeps in two scratch cells of each step whether a transition left it, and whether one entered it.
use Rattle.std.specs.Prelude.{ℕ, ◌+◌, ◌*◌, List, [], ◌∷◌, ◌++◌, map, length, pos, Option, None, Some, slice_index_or, if◌then◌else◌}
use Rattle.std.specs.Prelude as prelude
use Rattle.plc_types.specs.declared.elementary.Elementary.TheVariants.{Bool}
use Rattle.plc_types.specs.declared.operator.UnaryOperator.TheVariants.{Not}
use Rattle.plc_types.specs.declared.operator.Operator.{Operator}
use Rattle.plc_types.specs.declared.operator.Operator.TheVariants.{Or, And}
use Rattle.program_tree.specs.declared.typed.StepCells.{StepCells}
use Rattle.program_tree.specs.declared.typed.Association.{Association}
use Rattle.program_tree.specs.declared.typed.Qualifier.{Qualifier}
use Rattle.program_tree.specs.declared.typed.Qualifier.TheVariants.{NonStored, Set, Reset, Pulse, FallingPulse}
use Rattle.program_tree.specs.Tree.{Expression, number, cell, unary, chain, Operands, no_operands, operand, TransitionData, Actions, no_actions, action}
use Rattle.program_tree.specs.View.{OperandData}
use Rattle.program_tree.specs.declared.scratch.Scratch.{Scratch}
use Rattle.program_tree.specs.Places.{whole_cell}
use Rattle.meaning.specs.Charts.{is_set, is_reset}
use Rattle.flat_core.specs.FlatTree.{FlatStatement, set, branch, no_flats}
use Rattle.flat_core.specs.FlatView.{flats_of}
use Rattle.flat_form.specs.Owners.{OwnerData}
use Rattle.flat_form.specs.Bodies.{Bodies}
use Rattle.flat_form.specs.Calls.{scratch_in, before, moved}

-- ---- tests

abbrev pub negated : Expression → Expression
negated e = unary Not Bool e

abbrev pub both : Expression → Expression → Expression
both a b = chain a (operand And Bool b no_operands)

abbrev pub operands_by : Operator → List Expression → Operands
operands_by o [] = no_operands
operands_by o (e ∷ es) = operand o Bool e (operands_by o es)

abbrev pub joining : Operator → Expression → OperandData
joining o e = (o, Bool, e)

-- operands behind the first, or the first alone where there are none
abbrev pub joined_to : Expression → Operands → Expression
joined_to e no_operands = e
joined_to e (operand o t f fs) = chain e (operand o t f fs)

-- expressions, joined by an operator from the left
abbrev pub joined_by : Operator → Expression → List Expression → Expression
joined_by o e es = joined_to e (operands_by o es)

-- a step that is none of the chart's
abbrev pub no_step : StepCells
no_step = record { active = 0; before = 0 }

-- whether a step is active, by its number, and whether it was where the run before this one started
abbrev pub active_at : OwnerData → ℕ → List StepCells → ℕ → Expression
active_at owner base steps i = cell (owner (base + (slice_index_or steps i no_step).active))

abbrev pub before_at : OwnerData → ℕ → List StepCells → ℕ → Expression
before_at owner base steps i = cell (owner (base + (slice_index_or steps i no_step).before))

-- the steps of the associations of such a qualifier
abbrev pub steps_that : (Qualifier → prelude.Bool) → List Association → List ℕ
steps_that test [] = []
steps_that test (a ∷ more) = if test a.qualifier then a.step ∷ steps_that test more else steps_that test more

-- nothing else where no step resets
abbrev pub unless_reset : Expression → List Expression → Expression
unless_reset e [] = e
unless_reset e (r ∷ rs) = both e (negated (joined_by Or r rs))

-- ---- 1. the latches

abbrev pub latch_test : OwnerData → ℕ → List StepCells → ℕ → List Association → Expression
latch_test owner base steps place associations =
    unless_reset (joined_by Or (cell (owner (base + place))) (map (active_at owner base steps) (steps_that is_set associations)))
    (map (active_at owner base steps) (steps_that is_reset associations))

abbrev pub latch_set : OwnerData → ℕ → List StepCells → Option ℕ → List Association → List FlatStatement
latch_set owner base steps None associations = []
latch_set owner base steps (Some place) associations = set (owner (base + place)) (latch_test owner base steps place associations) ∷ []

abbrev pub latch_list : OwnerData → ℕ → List StepCells → Actions → List FlatStatement
latch_list owner base steps no_actions = []
latch_list owner base steps (action latch associations body rest) = latch_set owner base steps latch associations ++ latch_list owner base steps rest

-- ---- 2. the actions

-- what an association asks by, given whether its step is active, and whether it was
abbrev pub asking : Qualifier → Expression → Expression → List Expression
asking NonStored x l = x ∷ []
asking Set x l = []
asking Reset x l = []
asking Pulse x l = both x (negated l) ∷ []
asking FallingPulse x l = both l (negated x) ∷ []

abbrev pub terms : OwnerData → ℕ → List StepCells → List Association → List Expression
terms owner base steps [] = []
terms owner base steps (a ∷ more) = asking a.qualifier (active_at owner base steps a.step) (before_at owner base steps a.step) ++ terms owner base steps more

-- an action without a latch has none that is TRUE
abbrev pub latch_start : OwnerData → ℕ → Option ℕ → Expression
latch_start owner base None = number (pos 0)
latch_start owner base (Some place) = cell (owner (base + place))

abbrev pub runs_test : OwnerData → ℕ → List StepCells → Option ℕ → List Association → Expression
runs_test owner base steps latch associations =
    unless_reset (joined_by Or (latch_start owner base latch) (terms owner base steps associations)) (map (active_at owner base steps) (steps_that is_reset associations))

-- an action without associations never runs, and becomes nothing
abbrev pub of_associated : {A : Type 0} → List Association → List A → List A
of_associated [] l = []
of_associated (a ∷ more) l = l

-- ---- 3. the transitions

-- Two scratch cells for each step, the first of them all being k: whether a transition left it, and whether one entered it.
abbrev pub flag_cell : Scratch
flag_cell = whole_cell Bool

abbrev pub flags_of : List StepCells → List Scratch
flags_of [] = []
flags_of (p ∷ ps) = flag_cell ∷ flag_cell ∷ flags_of ps

abbrev pub exited_flag : ℕ → ℕ → ℕ
exited_flag k i = k + 2 * i

abbrev pub entered_flag : ℕ → ℕ → ℕ
entered_flag k i = k + 2 * i + 1

abbrev pub clear_flags : List StepCells → ℕ → List FlatStatement
clear_flags [] k = []
clear_flags (p ∷ ps) k = set k (number (pos 0)) ∷ set (k + 1) (number (pos 0)) ∷ clear_flags ps (k + 2)

-- all steps before a transition are active, and none was left by a transition that fired earlier
abbrev pub ready_term : OwnerData → ℕ → List StepCells → ℕ → ℕ → Expression
ready_term owner base steps k i = both (active_at owner base steps i) (negated (cell (exited_flag k i)))

abbrev pub ready_test : OwnerData → ℕ → List StepCells → ℕ → List ℕ → Expression
ready_test owner base steps k [] = number (pos 1)
ready_test owner base steps k (f ∷ fs) = joined_by And (ready_term owner base steps k f) (map (ready_term owner base steps k) fs)

-- a transition that fires leaves the steps before it, and enters those behind it
abbrev pub exited_set : ℕ → ℕ → FlatStatement
exited_set k i = set (exited_flag k i) (number (pos 1))

abbrev pub entered_set : ℕ → ℕ → FlatStatement
entered_set k i = set (entered_flag k i) (number (pos 1))

abbrev pub fired_list : ℕ → List ℕ → List ℕ → List FlatStatement
fired_list k from to = map (exited_set k) from ++ map (entered_set k) to

-- The condition of a transition is evaluated only where the transition may fire. The scratch cells of the calls in it are numbered
-- from j on.
abbrev pub scratch_of_transitions : Bodies → List TransitionData → List Scratch
scratch_of_transitions bodies [] = []
scratch_of_transitions bodies (t ∷ ts) = scratch_in bodies t.condition ++ scratch_of_transitions bodies ts

abbrev pub condition_list : Bodies → OwnerData → ℕ → ℕ → TransitionData → ℕ → List FlatStatement
condition_list bodies owner base k t j =
    before bodies owner base t.condition j ++ branch (moved bodies owner base t.condition j) (flats_of (fired_list k t.from t.to)) no_flats ∷ []

abbrev pub flat_transition : Bodies → OwnerData → ℕ → List StepCells → ℕ → TransitionData → ℕ → FlatStatement
flat_transition bodies owner base steps k t j = branch (ready_test owner base steps k t.from) (flats_of (condition_list bodies owner base k t j)) no_flats

abbrev pub flat_transitions : Bodies → OwnerData → ℕ → List StepCells → ℕ → List TransitionData → ℕ → List FlatStatement
flat_transitions bodies owner base steps k [] j = []
flat_transitions bodies owner base steps k (t ∷ ts) j =
    flat_transition bodies owner base steps k t j ∷ flat_transitions bodies owner base steps k ts (j + length (scratch_in bodies t.condition))

-- ---- 4. the next marking

-- whether a step was active is whether it is, and it is active where it was and is not left, or where it is entered; k is its first flag
abbrev pub mark_before : OwnerData → ℕ → StepCells → FlatStatement
mark_before owner base p = set (owner (base + p.before)) (cell (owner (base + p.active)))

abbrev pub mark_active : OwnerData → ℕ → StepCells → ℕ → FlatStatement
mark_active owner base p k =
    set (owner (base + p.active)) (chain (both (cell (owner (base + p.active))) (negated (cell k))) (operand Or Bool (cell (k + 1)) no_operands))

abbrev pub mark_list : OwnerData → ℕ → List StepCells → ℕ → List FlatStatement
mark_list owner base [] k = []
mark_list owner base (p ∷ ps) k = mark_before owner base p ∷ mark_active owner base p k ∷ mark_list owner base ps (k + 2)

-- ---- the last two parts, whose flags begin at k

abbrev pub scratch_of_moves : Bodies → List StepCells → List TransitionData → List Scratch
scratch_of_moves bodies steps ts = flags_of steps ++ scratch_of_transitions bodies ts

abbrev pub flat_moves : Bodies → OwnerData → ℕ → List StepCells → List TransitionData → ℕ → List FlatStatement
flat_moves bodies owner base steps ts k =
    clear_flags steps k ++ (flat_transitions bodies owner base steps k ts (k + length (flags_of steps)) ++ mark_list owner base steps k)
