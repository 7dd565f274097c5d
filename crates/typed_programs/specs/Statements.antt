-- What statements owe: an assignment's target takes its expression, conditions are BOOL, a CASE has labels of its selector's type, all values of a
-- control variable lie in its range, an instance stands among its owner's cells, and a chart stands in no other statement.
use Rattle.std.specs.Prelude.{◌≡◌, ◌≤◌, ◌<◌, ◌+◌, ℕ, true, List, [], ◌∷◌, length, All}
use Rattle.plc_types.specs.declared.elementary.Elementary.{Elementary}
use Rattle.plc_types.specs.declared.elementary.Elementary.TheVariants as types
use Rattle.plc_types.specs.Types.{range_of, in_range}
use Rattle.program_tree.specs.declared.typed.TypedLabel.{TypedLabel}
use Rattle.program_tree.specs.declared.typed.TypedLabel.TheVariants.{Single, Span}
use Rattle.program_tree.specs.declared.typed.StepCells.{StepCells}
use Rattle.program_tree.specs.Tree.{TransitionData, Statement, assign, call_block, choice, cases, repeat, chart, exit, return, own_body, Statements, no_statements, statement, Choices, no_choices, choose, Entries, no_entries, entry, Actions, no_actions, action}
use Rattle.program_tree.specs.declared.scratch.Scratch.{Scratch}
use Rattle.program_tree.specs.Places.{whole_cell, place_at}
use Rattle.program_tree.specs.ChartPlaces.{chart_places, AreRisingFrom, AreSteps, NameSteps, IsAssociated}
use Rattle.meaning.specs.StaysIn.{turns_stay}
use Rattle.typed_programs.specs.Scopes.{Pous, BodyScope, IsNamed, IsSettable}
use Rattle.typed_programs.specs.Expressions.{IsOf, Takes}

-- what a label names is of a type
abbrev pub IsLabelOf : Elementary → TypedLabel → Type 0
IsLabelOf kind (Single v) = in_range v (range_of kind) ≡ true
IsLabelOf kind (Span r) = (in_range r.low (range_of kind) ≡ true) × (in_range r.high (range_of kind) ≡ true)

-- the cells of an instance stand among those of its owner from a place on
abbrev pub StandAt : List Scratch → List Scratch → ℕ → Type 0
StandAt cells owner offset = (n : ℕ) → n < length cells → place_at owner (offset + n) ≡ place_at cells n

-- a cell of the chart: a BOOL that no other statement sets
abbrev pub IsFlagOf : BodyScope → ℕ → Type 0
IsFlagOf b place = IsNamed b place × (place_at b.places place ≡ whole_cell types.Bool)

module _ (pous : Pous) (b : BodyScope) where
  abbrev pub AreTypedTransitions : ℕ → List TransitionData → Type 0
  AreTypedTransitions n [] = Unit {0}
  AreTypedTransitions n (t ∷ ts) = IsOf pous b types.Bool t.condition × AreSteps n t.from × AreSteps n t.to × AreTypedTransitions n ts

  -- a chart is no statement of a list
  abbrev mutual
    pub IsTyped : Statement → Type 0
    IsTyped (assign target e) = IsSettable b target × Takes pous b (place_at b.places target) e
    IsTyped (call_block block offset) =
        (block < b.pous) × (b.first ≤ offset) × (offset + length (pous.instances block) ≤ b.settable) × StandAt (pous.instances block) b.places offset
    IsTyped (choice arms other) = AreTypedChoices arms × AreTyped other
    IsTyped (cases kind e es other) = IsOf pous b kind e × AreTypedEntries kind es × AreTyped other
    IsTyped (repeat turns body) = IsSettable b turns.control × (turns_stay turns (place_at b.places turns.control).range ≡ true) × AreTyped body
    IsTyped (chart _ _ _) = ⊥
    IsTyped exit = Unit {0}
    IsTyped return = Unit {0}
    IsTyped (own_body ss) = AreTyped ss

    pub AreTyped : Statements → Type 0
    AreTyped no_statements = Unit {0}
    AreTyped (statement t ts) = IsTyped t × AreTyped ts

    pub AreTypedChoices : Choices → Type 0
    AreTypedChoices no_choices = Unit {0}
    AreTypedChoices (choose e ss arms) = IsOf pous b types.Bool e × AreTyped ss × AreTypedChoices arms

    pub AreTypedEntries : Elementary → Entries → Type 0
    AreTypedEntries kind no_entries = Unit {0}
    AreTypedEntries kind (entry labels ss es) = All (IsLabelOf kind) labels × AreTyped ss × AreTypedEntries kind es

  -- In a chart of so many steps each action has a name that some step associates where it has a latch.
  abbrev pub AreTypedActions : ℕ → Actions → Type 0
  AreTypedActions n no_actions = Unit {0}
  AreTypedActions n (action latch associations ss rest) = IsAssociated latch associations × NameSteps n associations × AreTyped ss × AreTypedActions n rest

  abbrev pub IsTypedChart : List StepCells → Actions → List TransitionData → Type 0
  IsTypedChart steps actions ts =
      All (IsFlagOf b) (chart_places steps actions) × AreRisingFrom b.settable (chart_places steps actions)
      × AreTypedActions (length steps) actions × AreTypedTransitions (length steps) ts

  -- the body of a POU: statements and charts
  abbrev pub IsTypedPart : Statement → Type 0
  IsTypedPart (assign target e) = IsTyped (assign target e)
  IsTypedPart (call_block block offset) = IsTyped (call_block block offset)
  IsTypedPart (choice arms other) = IsTyped (choice arms other)
  IsTypedPart (cases kind e es other) = IsTyped (cases kind e es other)
  IsTypedPart (repeat turns body) = IsTyped (repeat turns body)
  IsTypedPart (chart steps actions ts) = IsTypedChart steps actions ts
  IsTypedPart exit = Unit {0}
  IsTypedPart return = Unit {0}
  IsTypedPart (own_body ss) = AreTyped ss

  abbrev pub AreTypedParts : Statements → Type 0
  AreTypedParts no_statements = Unit {0}
  AreTypedParts (statement t ts) = IsTypedPart t × AreTypedParts ts
