-- Where a value is put into a cell.
use Rattle.std.specs.Prelude.{◌≡◌, ℕ, List, []}
use Rattle.program_tree.specs.declared.typed.Turns.{Turns}
use Rattle.program_tree.specs.Tree.{Expression, Statements}
use Rattle.program_tree.specs.StatementItems.{StatementItem, assignment, invocation, condition, selector, labels, iteration, steps, associated, transition, enclosed, some, folded_all}

module _ (cell : ℕ) (value : Expression) where
  -- an item puts the value into the cell
  abbrev pub IsWriting : List Turns → StatementItem → Type 0
  IsWriting around (assignment c x) = (c ≡ cell) × (x ≡ value)
  IsWriting around (invocation b offset) = ⊥
  IsWriting around (condition x) = ⊥
  IsWriting around (selector t x) = ⊥
  IsWriting around (labels t ls) = ⊥
  IsWriting around (iteration t) = ⊥
  IsWriting around (steps cells) = ⊥
  IsWriting around (associated latch associations) = ⊥
  IsWriting around (transition t) = ⊥
  IsWriting around (enclosed ss) = ⊥

  -- it is put into the cell among statements, also inside of an IF, a CASE, a FOR or a chart
  abbrev pub IsWrittenAmong : Statements → Type 0
  IsWrittenAmong ss = folded_all (some IsWriting) [] ss
