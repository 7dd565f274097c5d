-- The data that declarations stand for which were judged.
use Rattle.source_tree.specs.SyntaxView.{name_view}
use Rattle.decl_types.specs.declared.told.Told.{Told}
use Rattle.decl_types.specs.Told.{ToldData}

abbrev pub told_view : Told → ToldData
told_view t = record { name = name_view t.name.now; role = t.role; domain = t.domain; initial = t.initial; judged = t.judged; block = t.block }
