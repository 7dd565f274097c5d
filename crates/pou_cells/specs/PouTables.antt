-- The variables and the inputs of all POUs of a file, where blocks have some sizes.
use Rattle.std.specs.Prelude.{ℕ, ◌<◌, ◌^◌, List, [], map}
use Rattle.source_tree.specs.Syntax.{FileData}
use Rattle.naming.specs.FileScope.{pous_of}
use Rattle.typing.specs.declared.scope.Port.{Port}
use Rattle.typing.specs.declared.member.Member.{Member}
use Rattle.typing.specs.Members.{members_in, ports_of}
use Rattle.typing.specs.Places.{count_of_cells, variables_at}

abbrev pub all_members : FileData → List ℕ → List (List Member)
all_members f sizes = map (members_in f sizes) (pous_of f)

abbrev pub all_ports : FileData → List ℕ → List (List Port)
all_ports f sizes = map ports_of (all_members f sizes)

-- no POU has so many cells that a number of 64 bits could not tell them, where each block counts as one without cells
abbrev pub HaveFewCells : FileData → Type 0
HaveFewCells f = (k : ℕ) → count_of_cells f [] (variables_at f k) < 2 ^ 62
