-- The cells at the place of a name.
use Rattle.std.specs.Prelude.{◌≡◌, ◌≤◌, ◌+◌, ℕ, List, length, Some}
use Rattle.source_tree.specs.Syntax.{PouData, FileData}
use Rattle.naming.specs.Scopes.{Variable, variables_in_pou, variable_named}
use Rattle.typing.specs.declared.member.Member.{Member}
use Rattle.typing.specs.Members.{member_of}
use Rattle.typed_programs.specs.Statements.{StandAt}
use Rattle.typed_cells.specs.Places.{pou_places}
use Rattle.typed_cells.specs.Variables.{variable_places}

-- A name of a POU is that of a variable, and what the variable's cells take stands at its place.
pub record HasCellsAt (f : FileData) (k : ℕ) (p : PouData) (text : List ℕ) (m : Member) : Type 0 where
  pub variable : Variable
  pub named : variable_named text (variables_in_pou p) ≡ Some variable
  pub is : m ≡ member_of f m.cell variable
  pub stand : StandAt (variable_places f variable) (pou_places f k p.pou_type p) m.cell
  pub within : m.cell + length (variable_places f variable) ≤ length (pou_places f k p.pou_type p)
