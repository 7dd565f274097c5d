-- Runs of rows: how far they go, and how they end.
use Rattle.std.specs.Prelude.{◌≡◌, ◌+◌, List, [], ◌∷◌, ◌++◌, length, true, false}
use Rattle.program_tree.specs.Tree.{ProgramData}
use Rattle.scan_model.specs.declared.relation.Ending.{Ending}
use Rattle.scan_model.specs.declared.relation.Ending.TheVariants.{Related, Unrelated, NotAllowed}
use Rattle.scan_model.specs.InRange.{Row}
use Rattle.scan_model.specs.Pairs.{RelationData, Pair, is_allowed, is_related, after_row}

-- the pair that rows leave, one after the other
abbrev pub after_rows : ProgramData → ProgramData → RelationData → List Row → Pair → Pair
after_rows old new rel [] pair = pair
after_rows old new rel (row ∷ rows) pair = after_rows old new rel rows (after_row old new rel row pair)

-- each row is allowed on the pair that the rows before it leave, and the pair after it is related
abbrev pub AllRelated : ProgramData → ProgramData → RelationData → List Row → Pair → Type 0
AllRelated old new rel [] pair = Unit {0}
AllRelated old new rel (row ∷ rows) pair =
    (is_allowed rel row pair ≡ true) × (is_related rel (after_row old new rel row pair) ≡ true) × AllRelated old new rel rows (after_row old new rel row pair)

-- Which rows are run, from a pair on, and how the run ends: all are allowed and leave related pairs; or
-- those before a row do, and that row, the first such, leaves a pair that is not related; or is not allowed.
pub data IsRun (old new : ProgramData) (rel : RelationData) (pair : Pair) (rows run : List Row) (ending : Ending) : Type 0 where
  all_related : AllRelated old new rel rows pair → run ≡ rows → ending ≡ Related (length rows) → IsRun old new rel pair rows run ending
  first_unrelated : (before rest : List Row) (row : Row) → rows ≡ before ++ row ∷ rest → AllRelated old new rel before pair
      → is_allowed rel row (after_rows old new rel before pair) ≡ true
      → is_related rel (after_row old new rel row (after_rows old new rel before pair)) ≡ false
      → run ≡ before ++ row ∷ [] → ending ≡ Unrelated (length before + 1) → IsRun old new rel pair rows run ending
  first_not_allowed : (before rest : List Row) (row : Row) → rows ≡ before ++ row ∷ rest → AllRelated old new rel before pair
      → is_allowed rel row (after_rows old new rel before pair) ≡ false
      → run ≡ before → ending ≡ NotAllowed (length before + 1) → IsRun old new rel pair rows run ending
