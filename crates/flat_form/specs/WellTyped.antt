-- Well-typed programs, as far as their flat form asks for it: statements name the cells of their owner alone, and FAULT by no name;
-- the FUNCTIONs that are called have so many inputs; what is assigned to a variable of a FUNCTION that is no subrange lies in its
-- range; the actions of a chart leave the chart's own cells; and no EXIT and no RETURN leaves the body of a POU, or the statements of an action.
use Rattle.std.specs.Prelude.{◌≡◌, ◌<◌, ◌≤◌, ◌+◌, ◌==◌, ◌&&◌, ◌||◌, ℕ, zero, suc, max, Bool, true, false, List, [], ◌∷◌, length, pos, slice_index_or, Option, None, Some, if◌then◌else◌}
use Rattle.plc_types.specs.declared.range.Range.{Range}
use Rattle.program_tree.specs.declared.typed.StepCells.{StepCells}
use Rattle.program_tree.specs.declared.typed.Association.{Association}
use Rattle.plc_types.specs.Types.{range_of, in_range}
use Rattle.program_tree.specs.Tree.{Expression, number, cell, unary, chain, call_standard, call_function, Operands, no_operands, operand, Expressions, no_expressions, expression, TransitionData, Statement, assign, call_block, choice, cases, repeat, chart, exit, return, own_body, Statements, no_statements, statement, Choices, no_choices, choose, Entries, no_entries, entry, Actions, no_actions, action, CalledData, ProgramData}
use Rattle.program_tree.specs.Leaving.{can_exit_actions, can_return_actions, LeavesNothing}
use Rattle.program_tree.specs.OperandTypes.{arity}
use Rattle.program_tree.specs.ChartPlaces.{chart_places, AreRisingFrom, AreSteps, NameSteps, IsAssociated}
use Rattle.meaning.specs.Effects.{range_at}
use Rattle.meaning.specs.Calls.{nothing}
use Rattle.meaning.specs.Frames.{FrameData, frames_of, function_body, type_at}
use Rattle.meaning.specs.StaysIn.{covers, last_stays, chosen_stay, turns_stay}
use Rattle.scan_model.specs.Scans.{ranges_of}
use Rattle.scan_model.specs.InRange.{IsInRange}
use Rattle.flat_form.specs.Pous.{block_body}
use Rattle.flat_form.specs.Idle.{is_idle_all, idle_of}

-- ---- values that stay in a range

-- whether the types of an expression say that its values lie in a range, where the cells have these ranges
abbrev mutual
  pub stays_in : (ℕ → FrameData) → List Range → ℕ → Expression → Range → Bool
  stays_in frames rs base (number v) r = in_range v r
  stays_in frames rs base (cell place) r = covers r (range_at rs (base + place))
  stays_in frames rs base (unary o t e) r = covers r (range_of t)
  stays_in frames rs base (chain e os) r = last_stays (stays_in frames rs base e r) os r
  stays_in frames rs base (call_standard f t es) r = covers r (range_of t) || (covers (range_of t) r && chosen_stay f (each_stays frames rs base es r))
  stays_in frames rs base (call_function f es) r = covers r (range_at (frames f).ranges 1)

  pub each_stays : (ℕ → FrameData) → List Range → ℕ → Expressions → Range → List Bool
  each_stays frames rs base no_expressions r = []
  each_stays frames rs base (expression e es) r = stays_in frames rs base e r ∷ each_stays frames rs base es r

-- ---- expressions

-- an owner's cell that is not FAULT
abbrev pub IsOwnPlace : List Range → ℕ → Type 0
IsOwnPlace rs place = (0 < place) × (place < length rs)

-- over cells of these ranges; each FUNCTION that is called may be called with so many inputs
module _ (frames : ℕ → FrameData) (MayCall : ℕ → ℕ → Type 0) (rs : List Range) (base : ℕ) where
  abbrev mutual
    pub IsTypedValue : Expression → Type 0
    IsTypedValue (number v) = Unit {0}
    IsTypedValue (cell place) = IsOwnPlace rs (base + place)
    IsTypedValue (unary o t e) = IsTypedValue e
    IsTypedValue (chain e os) = IsTypedValue e × AreTypedOperands os
    IsTypedValue (call_standard f t es) = AreTypedValues es
    IsTypedValue (call_function f es) = MayCall f (arity es) × AreTypedInputs (frames f) 2 es

    pub AreTypedOperands : Operands → Type 0
    AreTypedOperands no_operands = Unit {0}
    AreTypedOperands (operand o t e os) = IsTypedValue e × AreTypedOperands os

    pub AreTypedValues : Expressions → Type 0
    AreTypedValues no_expressions = Unit {0}
    AreTypedValues (expression e es) = IsTypedValue e × AreTypedValues es

    -- an input that is no subrange takes each value of its expression
    pub AreTypedInputs : FrameData → ℕ → Expressions → Type 0
    AreTypedInputs frame place no_expressions = Unit {0}
    AreTypedInputs frame place (expression e es) =
        IsTypedValue e × (((type_at frame.types place).is_subrange || stays_in frames rs base e (range_at frame.ranges place)) ≡ true) × AreTypedInputs frame (place + 1) es

-- ---- the places that statements set

-- the same of a latch and of the cells of steps
abbrev pub extent_of_latch : Option ℕ → ℕ
extent_of_latch None = 0
extent_of_latch (Some place) = place + 1

abbrev pub extent_of_steps : List StepCells → ℕ
extent_of_steps [] = 0
extent_of_steps (p ∷ ps) = max (max (p.active + 1) (p.before + 1)) (extent_of_steps ps)

-- One above the greatest place of a POU that a statement sets, and 0 for none, where each block has such a number. The place of an
-- instance counts for its run.
abbrev mutual
  pub extent_of : (ℕ → ℕ) → Statement → ℕ
  extent_of extents (assign target e) = target + 1
  extent_of extents (call_block b offset) = offset + extents b
  extent_of extents (choice arms other) = max (extent_of_choices extents arms) (extent_of_all extents other)
  extent_of extents (cases kind e es other) = max (extent_of_entries extents es) (extent_of_all extents other)
  extent_of extents (repeat turns body) = max (turns.control + 1) (extent_of_all extents body)
  extent_of extents (chart steps actions ts) = max (extent_of_steps steps) (extent_of_actions extents actions)
  extent_of extents exit = 0
  extent_of extents return = 0
  extent_of extents (own_body ss) = extent_of_all extents ss

  pub extent_of_all : (ℕ → ℕ) → Statements → ℕ
  extent_of_all extents no_statements = 0
  extent_of_all extents (statement t ts) = max (extent_of extents t) (extent_of_all extents ts)

  pub extent_of_choices : (ℕ → ℕ) → Choices → ℕ
  extent_of_choices extents no_choices = 0
  extent_of_choices extents (choose e ss arms) = max (extent_of_all extents ss) (extent_of_choices extents arms)

  pub extent_of_entries : (ℕ → ℕ) → Entries → ℕ
  extent_of_entries extents no_entries = 0
  extent_of_entries extents (entry labels ss es) = max (extent_of_all extents ss) (extent_of_entries extents es)

  pub extent_of_actions : (ℕ → ℕ) → Actions → ℕ
  extent_of_actions extents no_actions = 0
  extent_of_actions extents (action latch associations ss rest) = max (extent_of_latch latch) (max (extent_of_all extents ss) (extent_of_actions extents rest))

-- those of the first so many POUs, by their numbers
abbrev pub extents_of : List CalledData → ℕ → ℕ → ℕ
extents_of ps zero b = 0
extents_of ps (suc n) b = if b == n then extent_of_all (extents_of ps n) (block_body (slice_index_or ps n nothing)) else extents_of ps n b

-- ---- charts

-- each is the place of an owner's cell of type BOOL
abbrev pub AreFlags : List Range → ℕ → List ℕ → Type 0
AreFlags rs base [] = Unit {0}
AreFlags rs base (p ∷ ps) = IsOwnPlace rs (base + p) × ((range_at rs (base + p)).low ≡ pos 0) × ((range_at rs (base + p)).high ≡ pos 1) × AreFlags rs base ps

-- no EXIT and no RETURN leaves the statements of an action
abbrev pub ActionsLeaveNothing : Actions → Type 0
ActionsLeaveNothing actions = (can_exit_actions actions ≡ false) × (can_return_actions actions ≡ false)

-- the extent of the bodies of actions
abbrev pub extent_of_bodies : (ℕ → ℕ) → Actions → ℕ
extent_of_bodies extents no_actions = 0
extent_of_bodies extents (action latch associations ss rest) = max (extent_of_all extents ss) (extent_of_bodies extents rest)

-- ---- statements

-- the first of two claims where a test holds, else the second
abbrev pub Choice : Bool → Type 0 → Type 0 → Type 0
Choice true P Q = P
Choice false P Q = Q

-- a claim of an action's body is owed where the action has associations; without them it never runs
abbrev pub OfAssociated : List Association → Type 0 → Type 0
OfAssociated [] P = Unit {0}
OfAssociated (a ∷ more) P = P

-- Over cells of these ranges; an assignment to some cells tests the range, and to others it need not. A run of a block, by its number,
-- may begin at a base. The body of a FOR without turns, and that of an action without associations, owe nothing.
module _ (frames : ℕ → FrameData) (MayCall : ℕ → ℕ → Type 0) (MayRun : ℕ → ℕ → Type 0) (extents : ℕ → ℕ) (rs : List Range) (tested : ℕ → Bool) where
  abbrev pub AreTypedTransitions : ℕ → ℕ → List TransitionData → Type 0
  AreTypedTransitions base n [] = Unit {0}
  AreTypedTransitions base n (t ∷ ts) = IsTypedValue frames MayCall rs base t.condition × AreSteps n t.from × AreSteps n t.to × AreTypedTransitions base n ts

  abbrev mutual
    pub IsTyped : ℕ → Statement → Type 0
    IsTyped base (assign target e) =
        IsOwnPlace rs (base + target) × IsTypedValue frames MayCall rs base e × ((tested (base + target) || stays_in frames rs base e (range_at rs (base + target))) ≡ true)
    IsTyped base (call_block b offset) = (0 < base + offset) × MayRun b (base + offset)
    IsTyped base (choice arms other) = AreTypedChoices base arms × AreTyped base other
    IsTyped base (cases kind e es other) = IsTypedValue frames MayCall rs base e × AreTypedEntries base es × AreTyped base other
    IsTyped base (repeat turns body) =
        IsOwnPlace rs (base + turns.control) × ((tested (base + turns.control) || turns_stay turns (range_at rs (base + turns.control))) ≡ true) × Choice (turns.count == 0) (Unit {0}) (AreTyped base body)
    IsTyped base (chart steps actions ts) =
        AreFlags rs base (chart_places steps actions) × AreRisingFrom (extent_of_bodies extents actions) (chart_places steps actions) × AreTypedActions base (length steps) actions × AreTypedTransitions base (length steps) ts
        × ActionsLeaveNothing actions
    IsTyped base exit = Unit {0}
    IsTyped base return = Unit {0}
    IsTyped base (own_body ss) = AreTyped base ss

    pub AreTyped : ℕ → Statements → Type 0
    AreTyped base no_statements = Unit {0}
    AreTyped base (statement t ts) = IsTyped base t × AreTyped base ts

    pub AreTypedChoices : ℕ → Choices → Type 0
    AreTypedChoices base no_choices = Unit {0}
    AreTypedChoices base (choose e ss arms) = IsTypedValue frames MayCall rs base e × AreTyped base ss × AreTypedChoices base arms

    pub AreTypedEntries : ℕ → Entries → Type 0
    AreTypedEntries base no_entries = Unit {0}
    AreTypedEntries base (entry labels ss es) = AreTyped base ss × AreTypedEntries base es

    -- in a chart of so many steps
    pub AreTypedActions : ℕ → ℕ → Actions → Type 0
    AreTypedActions base n no_actions = Unit {0}
    AreTypedActions base n (action latch associations ss rest) = IsAssociated latch associations × NameSteps n associations × OfAssociated associations (AreTyped base ss) × AreTypedActions base n rest

-- ---- POUs

-- an assignment to a variable of a FUNCTION tests the range of a subrange alone
abbrev pub tested_in : FrameData → ℕ → Bool
tested_in frame place = (type_at frame.types place).is_subrange

-- the cells of a FUNCTION begin in their ranges, FAULT, a BOOL, at 0, and there are so many inputs
pub record FrameFits (frame : FrameData) (inputs : ℕ) : Type 0 where
  pub ranges : length frame.ranges ≡ length frame.types
  pub room : 2 + inputs ≤ length frame.types
  pub fault_low : (range_at frame.ranges 0).low ≡ pos 0
  pub fault_high : (range_at frame.ranges 0).high ≡ pos 1
  pub no_fault : slice_index_or frame.start 0 (pos 0) ≡ pos 0
  pub start_in_range : IsInRange frame.ranges frame.start

-- A run of one of the first so many POUs, over an owner's cells, where the instance begins at a base; and a call of one, with so many
-- inputs. A block that does nothing owes nothing.
abbrev mutual
  pub MayRunOf : List CalledData → List Range → (ℕ → Bool) → ℕ → ℕ → ℕ → Type 0
  MayRunOf ps rs tested zero b base = Unit {0}
  MayRunOf ps rs tested (suc n) b base =
      Choice (b == n)
      (Choice (is_idle_all (idle_of ps n) (block_body (slice_index_or ps n nothing))) (Unit {0})
      (LeavesNothing (block_body (slice_index_or ps n nothing))
      × AreTyped (frames_of ps) (MayCallOf ps n) (MayRunOf ps rs tested n) (extents_of ps n) rs tested base (block_body (slice_index_or ps n nothing))))
      (MayRunOf ps rs tested n b base)

  pub MayCallOf : List CalledData → ℕ → ℕ → ℕ → Type 0
  MayCallOf ps zero f inputs = ⊥
  MayCallOf ps (suc n) f inputs =
      Choice (f == n)
      (FrameFits (frames_of ps n) inputs
      × LeavesNothing (function_body (slice_index_or ps n nothing))
      × AreTyped (frames_of ps) (MayCallOf ps n) (MayRunOf ps (frames_of ps n).ranges (tested_in (frames_of ps n)) n) (extents_of ps n) (frames_of ps n).ranges (tested_in (frames_of ps n)) 0 (function_body (slice_index_or ps n nothing)))
      (MayCallOf ps n f inputs)

-- an assignment to a cell of the program tests its range
abbrev pub each_tested : ℕ → Bool
each_tested place = true

abbrev pub IsWellTyped : ProgramData → Type 0
IsWellTyped p =
    LeavesNothing p.body
    × AreTyped (frames_of p.called) (MayCallOf p.called (length p.called)) (MayRunOf p.called (ranges_of p.cells) each_tested (length p.called)) (extents_of p.called (length p.called)) (ranges_of p.cells) each_tested 0 p.body
