-- What the code takes, as the definitions see it.
use Rattle.program_tree.specs.View.{program_view}
use Rattle.scan_model.specs.Pairs.{relation_view}
use Rattle.queries.specs.Comparisons.{Comparison}
use Rattle.finding_report.specs.declared.compared.Compared.{Compared}

abbrev pub comparison_in : Compared → Comparison
comparison_in d = record { old = program_view d.old.now; new = program_view d.new.now; relation = relation_view d.relation.now }
