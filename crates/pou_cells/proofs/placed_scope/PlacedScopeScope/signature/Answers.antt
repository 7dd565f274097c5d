use Rattle.std.proofs.Common.{[], ◌∙◌}
use Rattle.source_tree.specs.SyntaxView.{name_view}
use Rattle.decl_types.specs.Bodies.{file_in}
use Rattle.typing.specs.Places.{sizes_of}
use Rattle.typing_laws.proofs.FunctionLemmas.{signature_alike}
use Rattle.pou_cells.proofs.placed_scope.PlacedScopeScope.signature.Goals as goal

pub returns : goal.returns
returns c = let f = file_in c.args.self.now.placed.now.pous.domains in c.signature.ensures ∙ signature_alike f [] (sizes_of f) (name_view c.args.name.now).text
