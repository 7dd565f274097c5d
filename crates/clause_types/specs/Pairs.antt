-- What paths stand for in the clauses over a pair of programs.
use Rattle.std.specs.Prelude.{ℕ, List, Option}
use Rattle.program_tree.specs.View.{program_view}
use Rattle.clause_types.specs.declared.pair.PairScope.{PairScope}
use Rattle.clause_types.specs.PlacesByPath.{places_by_path}
use Rattle.typing.specs.Typing.{Scope}
use Rattle.typing.specs.Programs.{pair_scope}

abbrev pub pair_means : PairScope → Scope
pair_means s = pair_scope (program_view s.old.program.now) (program_view s.new.program.now)

-- the places of the first cells of paths in OLD, and in NEW
abbrev pub old_places : PairScope → List ℕ → Option ℕ
old_places s = places_by_path (program_view s.old.program.now)

abbrev pub new_places : PairScope → List ℕ → Option ℕ
new_places s = places_by_path (program_view s.new.program.now)
