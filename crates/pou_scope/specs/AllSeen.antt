-- What is known of each variable of a POU, in declared order.
use Rattle.std.specs.Prelude.{List, [], ◌∷◌, ◌++◌, ℕ, Some, map}
use Rattle.source_tree.specs.Syntax.{PouData, FileData}
use Rattle.naming.specs.Seen.{Seen}
use Rattle.naming.specs.Broken.{instance_of}
use Rattle.naming.specs.DeclarationUses.{numbers_in}
use Rattle.naming.specs.Scopes.{PouScope, scope_of, seen}

abbrev pub all_seen : FileData → PouScope → List Seen
all_seen f p = map (seen f p) p.variables

abbrev pub seen_in : FileData → PouData → List Seen
seen_in f p = all_seen f (scope_of p)

-- the blocks of instances whose declarations break no rule
abbrev pub blocks_seen : List Seen → List ℕ
blocks_seen [] = []
blocks_seen (s ∷ ss) = numbers_in (instance_of (Some s)) ++ blocks_seen ss
