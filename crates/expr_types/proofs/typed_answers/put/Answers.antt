use Rattle.std.proofs.lemmas.List.{map-set}
use Rattle.program_tree.specs.View.{expr_view}
use Rattle.expr_types.proofs.typed_answers.put.Goals as goal

pub returns-then-place-list : goal.returns-then-place-list
returns-then-place-list c = map-set expr_view c.args.list.now c.args.place c.args.value
