use Rattle.std.proofs.Common.{◌≡◌, ◌++◌, map, drop}
use Rattle.naming.specs.FileScope.{types_of}
use Rattle.naming.specs.ScopeView.{types_view}
use Rattle.decl_types.specs.Bodies.{file_of}
use Rattle.decl_types.specs.Spelled.{spelled_outcome, declared_outcomes}
use Rattle.typing.specs.OwnDomains.{own_domains}
use Rattle.decl_types.proofs.own_domains.own_domains.Given as goal

abbrev pub invariant-loop-number : goal.invariant-loop-number
invariant-loop-number l =
    (map (spelled_outcome (file_of l.file)) l.spelled.items ++ declared_outcomes (file_of l.file) (types_view (drop l.number l.file.types.now)) ≡ declared_outcomes (file_of l.file) (types_of (file_of l.file)))
    × (l.domains.items ++ own_domains (file_of l.file) l.number (types_view (drop l.number l.file.types.now)) ≡ own_domains (file_of l.file) 0 (types_of (file_of l.file)))
