-- What a finding in a file is judged by.
use Rattle.program_tree.specs.declared.typed.Program.{Program}
use Rattle.program_tree.specs.View.{program_view}
use Rattle.scan_model.specs.declared.relation.Relation.{Relation}
use Rattle.scan_model.specs.Pairs.{relation_view}
use Rattle.queries.specs.Comparisons.{Comparison}

-- two programs and the relation between them, as the definitions see them
abbrev pub comparison_between : Program → Program → Relation → Comparison
comparison_between old new relation = record { old = program_view old; new = program_view new; relation = relation_view relation }
