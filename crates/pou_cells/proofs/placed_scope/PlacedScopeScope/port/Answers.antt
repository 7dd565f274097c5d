use Rattle.std.proofs.Common.{List, [], ap, ◌∙◌}
use Rattle.std.specs.List.{slice_get}
use Rattle.decl_types.specs.Bodies.{file_in}
use Rattle.typing.specs.declared.scope.Port.{Port}
use Rattle.typing.specs.Places.{sizes_of}
use Rattle.typing_laws.proofs.FunctionLemmas.{ports_alike}
use Rattle.pou_cells.proofs.placed_scope.PlacedScopeScope.port.Goals as goal

pub returns : goal.returns
returns c =
    let f = file_in c.args.self.now.placed.now.pous.domains in
    c.port.ensures ∙ ap (λ (l : List Port). slice_get l c.args.place) (ports_alike f [] (sizes_of f) c.args.function)
