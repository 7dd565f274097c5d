use Rattle.source_tree.specs.SyntaxView.{file_view}
use Rattle.naming.proofs.PouLemmas.{shapes_listed}
use Rattle.file_scope.proofs.scope_of_file.pou_shapes.Goals as goal

pub returns : goal.returns
returns c = shapes_listed (file_view c.args.types.now.names.file.now) c.args.pous.now c.in_ok-shapes.shapes.items c.requires.pous c.in_ok-shapes.ensures
