-- What the path of a cell stands for in the clauses of a relation file.
use Rattle.std.specs.Prelude.{◌≡◌, ℕ, ◌∷◌, Some, true, false}
use Rattle.plc_types.specs.declared.data_type.DataType.{DataType}
use Rattle.source_tree.specs.Syntax.{Named, PathData, PouData, FileData}
use Rattle.naming.specs.Seen.{Seen}
use Rattle.naming.specs.Broken.{in_variable}
use Rattle.naming.specs.Scopes.{scope_of, seen_named}
use Rattle.typing.specs.declared.scope.Place.TheVariants as places
use Rattle.typing.specs.declared.scope.Meaning.{Meaning}

-- a path in the body of a POU begins with one of its names, and breaks no rule on names
pub record IsWholePath (f : FileData) (p : PouData) (q : PathData) : Type 0 where
  pub seen : Seen
  pub known : seen_named f (scope_of p) q.first.text ≡ Some seen
  pub whole : (in_variable f seen q).whole ≡ true

-- the path behind `old` or `new`
abbrev pub of_program : Named → PathData → PathData
of_program n q = record { first = n; members = q.first ∷ q.members }

-- a cell in a clause over a pair, whose data types are those of the pair: it is read alone
abbrev pub in_clause : (DataType → DataType) → ℕ → Meaning → Meaning
in_clause paired place m = record { place = places.Cell place; kind = paired m.kind; range = m.range; whole = true; assignable = false; control = false }
