-- Equality of marks.
use Rattle.std.specs.Prelude.{Bool}
use denote.Enum.Bare.{sameb}
use Rattle.source_tree.specs.contracts.token.Mark.{the_type}
use Rattle.source_tree.specs.declared.token.Mark.{Mark}

unfoldable pub same_mark : Mark → Mark → Bool
same_mark = sameb the_type
