use Rattle.std.proofs.Common.{◌∙◌}
use Rattle.source_tree.specs.SyntaxView.{name_view}
use Rattle.pou_scope.specs.NamesView.{file_in}
use Rattle.pou_scope.proofs.SeenLemmas.{seen_by_is}
use Rattle.pou_scope.proofs.names.Names.seen.Goals as goal

pub returns : goal.returns
returns c =
    let names = c.args.self.now in
    c.seen.ensures ∙ seen_by_is (file_in names) names.own.now names.known (name_view c.args.name.now).text
