use Rattle.std.proofs.Common.{◌≡◌, [], take, drop}
use Rattle.rules.specs.Rules.{earlier, first_in}
use Rattle.naming.specs.Broken.{names_twice}
use Rattle.file_scope.specs.FileView.{file_names_view}
use Rattle.naming.specs.Table.{entry_named, Holds}
use Rattle.file_scope.proofs.table.table_of.Given as goal

abbrev pub invariant-loop-declared : goal.invariant-loop-declared
invariant-loop-declared l = record {
  held : Holds l.table (entry_named (file_names_view (take l.declared-index l.names)));
  twice : earlier l.first (first_in (names_twice (file_names_view (take l.declared-index l.names)) (file_names_view (drop l.declared-index l.names)))) ≡ earlier l.fn.first (first_in (names_twice [] (file_names_view l.names)));
}
