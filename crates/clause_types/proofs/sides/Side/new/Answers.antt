use Rattle.std.proofs.Common.{option_map, ap, ◌∙◌}
use Rattle.plc_types.specs.Enumerations.{value_named}
use Rattle.program_tree.specs.View.{lists_of_texts}
use Rattle.clause_types.specs.PathHashes.{first_hashed}
use Rattle.clause_types.specs.Sides.{kept_value}
use Rattle.clause_types.proofs.sides.Side.new.Goals as goal

pub invariant_of-result : goal.invariant_of-result
invariant_of-result c = record {
  finds = λ hash. c.in_ok-first_places.ensures hash ∙ ap (first_hashed hash 0) c.cells.ensures;
  finds_values = λ text. c.in_ok-values.ensures text ∙ ap (λ ts. option_map kept_value (value_named text 0 (lists_of_texts ts))) c.deref.ensures.value;
  room = c.requires;
}
