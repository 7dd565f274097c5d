use Rattle.std.proofs.Common.{arith}
use Rattle.std.proofs.lemmas.Grind.{common_steps}
use Rattle.source_tree.specs.SyntaxView.{file_view}
use Rattle.naming.specs.ScopeView.{types_view}
use Rattle.naming.proofs.ShapeLemmas.{wholes_all}
use Rattle.file_scope.proofs.file_types.FileTypes.wholes.Goals as goal

pub returns : goal.returns
returns c = wholes_all (file_view c.args.self.now.names.file.now) (types_view c.args.types.now) c.loop-number.marks.items c.requires (grind (arith, common_steps))
