use Rattle.std.proofs.Common.{sym, ◌∙◌}
use Rattle.source_tree.specs.SyntaxView.{name_view}
use Rattle.decl_types.specs.Bodies.{file_in}
use Rattle.typing.specs.Places.{sizes_of}
use Rattle.pou_cells.proofs.PlacedLemmas.{block_placed}
use Rattle.pou_cells.proofs.placed_scope.PlacedScopeScope.meaning.Goals as goal

pub meant_by-requires-clause-placed : goal.meant_by-requires-clause-placed
meant_by-requires-clause-placed c =
    let f = file_in c.args.self.now.placed.now.pous.domains in
    block_placed f c.args.self.now.number (sizes_of f) (name_view c.args.path.now.first).text c.in-Some.member c.args.self.now.fits (sym c.member_of.ensures.member ∙ c.in-Some.is)
