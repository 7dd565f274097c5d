-- What is compared where pairs and rows are tried.
use Rattle.program_tree.specs.View.{program_view}
use Rattle.scan_model.specs.Pairs.{relation_view}
use Rattle.scan_replay.specs.Duos.{Compared}
use Rattle.queries.specs.Comparisons.{Comparison}
use Rattle.queries.specs.Settings.{Setting, setting_of}

abbrev pub comparison_of : Compared → Comparison
comparison_of d = record { old = program_view d.old_program; new = program_view d.new_program; relation = relation_view d.relation }

abbrev pub setting_in : Compared → Setting
setting_in d = setting_of (comparison_of d)
