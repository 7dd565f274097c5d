-- Names in bodies, whose cells have others behind them.
use Rattle.std.specs.Prelude.{◌<◌, ◌^◌}
use Rattle.source_tree.specs.Syntax.{Named}
use Rattle.naming.specs.Broken.{alone}
use Rattle.typing.specs.Typing.{by_path, Scope}
use Rattle.typing.specs.TypedStatements.{cell_of}

-- behind the cell of each name there are more numbers of 64 bits
abbrev pub HasLowNames : Scope → Type 0
HasLowNames scope = (n : Named) → cell_of (scope.means (by_path (alone n))) < 2 ^ 63
