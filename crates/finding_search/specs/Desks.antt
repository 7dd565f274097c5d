-- A finding that is being written.
use Rattle.std.specs.Prelude.{ℕ, List, Option}
use Rattle.outside.specs.States.{ShelfState}
use Rattle.finding_file.specs.Writing.{Writing}

-- the shelf that it is written to, and the writer
pub record Desk : Type 0 where
  pub shelf : ShelfState
  pub writer : Writing

abbrev pub desk : ShelfState → Writing → Desk
desk shelf writer = record { shelf = shelf; writer = writer }

-- what is told of the finding
abbrev pub finding : Desk → Option (List ℕ)
finding d = d.shelf.file d.writer.name
