-- The assignments of a body, and the cells that they write.
use Rattle.std.specs.Prelude.{◌≡◌, ℕ, List}
use Rattle.source_tree.specs.Syntax.{PathData, Tree, IterationData, assign, no_stmts, stmt, BodyData, FileData}
use Rattle.source_tree.specs.StatementItems.{StatementItem, assignment, invocation, condition, selector, labels, iteration, some, folded_body}
use Rattle.program_tree.specs.Tree.{Expression, assign as typed_assign, no_statements, statement, ProgramData}
use Rattle.typing.specs.declared.scope.Meaning.{Meaning}
use Rattle.typing.specs.TypedStatements.{typed_stmts}
use Rattle.typing.specs.Places.{sizes_of}
use Rattle.typing.specs.Members.{scope_of}
use Rattle.accepted_cells.specs.OnlyCells.{StandsForCell}
use Rattle.accepted_cells.specs.Written.{IsWrittenAmong}

module _ (q : PathData) (e : Tree) where
  -- an item is `q := e`
  abbrev pub IsAssignment : List IterationData → StatementItem → Type 0
  IsAssignment around (assignment p x) = (p ≡ q) × (x ≡ e)
  IsAssignment around (invocation n at cs) = ⊥
  IsAssignment around (condition x) = ⊥
  IsAssignment around (selector x) = ⊥
  IsAssignment around (labels x before ls) = ⊥
  IsAssignment around (iteration i) = ⊥

  -- `q := e` stands in a body, also inside of an IF, a CASE or a FOR, and in a chart in an action
  abbrev pub IsAssigned : BodyData → Type 0
  IsAssigned b = folded_body (some IsAssignment) b

-- What `q := e` does in the PROGRAM of a number: typing makes it a value that is put into one cell, the PROGRAM's body does so, and that cell is the one that
-- clauses find by the path `q`.
pub record WritesItsCell (f : FileData) (k : ℕ) (p : ProgramData) (q : PathData) (e : Tree) : Type 0 where
  pub cell : ℕ
  pub value : Expression
  pub meaning : Meaning
  pub means : typed_stmts (scope_of f (sizes_of f) k) (stmt (assign q e) no_stmts) ≡ statement (typed_assign cell value) no_statements
  pub writes : IsWrittenAmong cell value p.body
  pub stands : StandsForCell p q cell meaning
