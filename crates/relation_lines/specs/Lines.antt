-- The lines of a relation file as plain data. A number beside a part is its place in the text.
use Rattle.std.specs.Prelude.{ℕ, Bool}
use Rattle.source_tree.specs.Syntax.{Named, Tree}
use Rattle.relation_lines.specs.declared.line.Setting.{Setting}
use Rattle.scan_model.specs.declared.side.Side.{Side}
use Rattle.relation_lines.specs.declared.line.Condition.{Condition}

-- What a line says: a number and its place; whether faults have to agree; an input of each program; an input of one; or a clause.
pub data ContentData : Type 0 where
  setting : Setting → ℕ → ℕ → ContentData
  faults : Bool → ℕ → ContentData
  paired : Named → ℕ → Named → ContentData
  single : Side → ℕ → Named → ContentData
  clause : Condition → Tree → ContentData

-- a line, and the place of its first word
pub record LineData : Type 0 where
  pub at : ℕ
  pub content : ContentData
