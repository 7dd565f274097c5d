use Rattle.std.proofs.Common.{arith}
use Rattle.std.proofs.lemmas.Grind.{common_steps}
use Rattle.source_tree.specs.SyntaxView.{file_view}
use Rattle.naming.specs.ScopeView.{types_view}
use Rattle.naming.proofs.ShapeLemmas.{shapes_all}
use Rattle.file_scope.proofs.file_types.shapes.Goals as goal

pub returns : goal.returns
returns c = shapes_all (file_view c.args.names.now.file.now) (types_view c.args.types.now) c.loop-number.shapes.items c.requires (grind (arith, common_steps))
