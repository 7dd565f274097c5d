-- What the names of a POU stand for.
use Rattle.std.specs.Prelude.{[]}
use Rattle.pou_cells.specs.declared.scope_of_pou.PouScope.{PouScope}
use Rattle.pou_cells.specs.declared.placed_scope.PlacedScope.{PlacedScope}
use Rattle.typing.specs.Typing.{Scope}
use Rattle.typing.specs.Places.{sizes_of}
use Rattle.typing.specs.Members.{scope_of}
use Rattle.decl_types.specs.Bodies.{file_in}

-- where each block counts as one without cells
abbrev pub means_in : PouScope → Scope
means_in s = scope_of (file_in s.pous.now.domains) [] s.number

-- where blocks have their sizes
abbrev pub means_placed : PlacedScope → Scope
means_placed s = scope_of (file_in s.placed.now.pous.domains) (sizes_of (file_in s.placed.now.pous.domains)) s.number
