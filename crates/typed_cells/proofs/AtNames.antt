-- The cells at the place of a name are its variable's.
use Rattle.std.proofs.Common.{◌≡◌, ℕ, List, Some}
use Rattle.source_tree.specs.Syntax.{PouData, FileData}
use Rattle.naming.specs.FileScope.{pou_at}
use Rattle.typing.specs.declared.member.Member.{Member}
use Rattle.typing.specs.Places.{sizes_of}
use Rattle.typing.specs.Members.{member_at}
use Rattle.typed_cells.specs.Places.{pou_places}
use Rattle.typed_cells.specs.Variables.{variable_places}
use Rattle.typed_cells.specs.Premises.{UsesItsBlocks, IsOrdered}
use Rattle.typed_cells.specs.AtNames.{HasCellsAt}
use Rattle.typed_cells.proofs.Occurrences.{occurs_within, occurs_stands}
use Rattle.typed_cells.proofs.Owners.{at_name}

pub cells_at_name : (f : FileData) → UsesItsBlocks f → IsOrdered f → (k : ℕ) (p : PouData) → pou_at f k ≡ Some p → (text : List ℕ) (m : Member) → member_at f (sizes_of f) k text ≡ Some m → HasCellsAt f k p text m
cells_at_name f used ordered k p there text m found =
    let at = at_name f used ordered k p there text m found in
    record {
      variable = at.variable;
      named = at.named;
      is = at.is;
      stand = occurs_stands (variable_places f at.variable) (pou_places f k p.pou_type p) m.cell at.stands;
      within = occurs_within (variable_places f at.variable) (pou_places f k p.pou_type p) m.cell at.stands;
    }
