-- What is compared, as it is held.
use Rattle.program_tree.specs.declared.typed.Program.{Program}
use Rattle.scan_model.specs.declared.relation.Relation.{Relation}
use Rattle.queries.specs.Comparisons.{Comparison}
use Rattle.product_build.specs.Limits.{HasFewLines}
use Rattle.product_build.specs.MadeCircuits.{comparison_between}
use Rattle.typed_relations.specs.Readings.{IsRead}

-- two programs and the relation between them
pub record Held : Type 0 where
  pub old_program : Program
  pub new_program : Program
  pub relation : Relation

abbrev pub comparison_in : Held → Comparison
comparison_in h = comparison_between h.old_program h.new_program h.relation

-- it was read from texts, so that it is typed and its lines are few
pub record IsHeld (c : Comparison) : Type 0 where
  pub read : IsRead c
  pub lines : HasFewLines c
