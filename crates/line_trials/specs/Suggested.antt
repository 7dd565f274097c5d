-- What is suggested for the text of a relation.
use Rattle.std.specs.Prelude.{◌≡◌, ℕ, ◌-◌, List, length, true}
use Rattle.program_tree.specs.Tree.{ProgramData}
use Rattle.scan_model.specs.InRange.{Row}
use Rattle.scan_model.specs.Pairs.{RelationData}
use Rattle.command_files.specs.Stating.{StatesRelation}
use Rattle.line_trials.specs.declared.trial.Trial.{Trial}
use Rattle.line_trials.specs.declared.trial.Trial.TheVariants as trials
use Rattle.line_trials.specs.Held.{held_on_runs}
use Rattle.line_trials.specs.Lines.{LineData, with_lines}

-- A text states a relation whose INVARIANT clauses behind the first `given` held on all pairs of runs, all of whose rows are allowed.
pub record HasHeld (old new : ProgramData) (given : ℕ) (text : List ℕ) (runs : List (List Row)) : Type 0 where
  pub relation : RelationData
  pub stated : StatesRelation old new text relation
  pub held : held_on_runs old new relation given (length relation.invariants - given) runs ≡ true

-- The text of a relation was made into another text, whose INVARIANT clauses behind those of the relation held on all pairs of runs.
pub record IsSuggestion (old new : ProgramData) (text made : List ℕ) (runs : List (List Row)) : Type 0 where
  pub given : RelationData
  pub stated : StatesRelation old new text given
  pub held : HasHeld old new (length given.invariants) made runs

-- lines held, in the text with them; of any other end nothing is said
abbrev pub IsHeldOrNot : ProgramData → ProgramData → ℕ → List ℕ → List LineData → List (List Row) → Trial → Type 0
IsHeldOrNot old new given text lines runs (trials.Held made) = (made.items ≡ with_lines text lines) × HasHeld old new given made.items runs
IsHeldOrNot old new given text lines runs (trials.Refused at) = Unit {0}
IsHeldOrNot old new given text lines runs (trials.Failed marks) = Unit {0}
