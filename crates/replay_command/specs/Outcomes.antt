-- A replay row by row: the lines that it puts and how it ends.
use Rattle.std.specs.Prelude.{ℕ, ◌+◌, List, [], ◌∷◌, ◌++◌, if◌then◌else◌}
use Rattle.program_tree.specs.Tree.{ProgramData}
use Rattle.scan_model.specs.declared.relation.Ending.{Ending}
use Rattle.scan_model.specs.declared.relation.Ending.TheVariants.{Related, Unrelated, NotAllowed}
use Rattle.scan_model.specs.InRange.{Row}
use Rattle.scan_model.specs.Pairs.{RelationData, Pair, start, is_allowed, is_related, after_row}
use Rattle.replay_command.specs.Lines.{scan_line}

pub record Outcome : Type 0 where
  pub lines : List ℕ
  pub ending : Ending

abbrev pub ended : Ending → Outcome
ended e = record { lines = []; ending = e }

abbrev pub with_line : List ℕ → Outcome → Outcome
with_line line o = record { lines = line ++ o.lines; ending = o.ending }

-- from a pair on, after k scans
abbrev pub outcome_from : ProgramData → ProgramData → RelationData → ℕ → Pair → List Row → Outcome
outcome_from old new rel k pair [] = ended (Related k)
outcome_from old new rel k pair (row ∷ rows) =
    if is_allowed rel row pair
    then with_line (scan_line old new (k + 1) (after_row old new rel row pair))
    (if is_related rel (after_row old new rel row pair) then outcome_from old new rel (k + 1) (after_row old new rel row pair) rows else ended (Unrelated (k + 1)))
    else ended (NotAllowed (k + 1))

abbrev pub outcome_of : ProgramData → ProgramData → RelationData → List Row → Outcome
outcome_of old new rel rows = outcome_from old new rel 0 (start old new) rows
