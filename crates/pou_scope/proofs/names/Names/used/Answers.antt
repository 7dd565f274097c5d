use Rattle.std.proofs.Common.{◌∙◌}
use Rattle.source_tree.specs.SyntaxView.{name_view}
use Rattle.pou_scope.specs.NamesView.{file_in}
use Rattle.pou_scope.proofs.SeenLemmas.{seen_by_is}
use Rattle.pou_scope.proofs.names.Names.used.Goals as goal

pub returns-clause-seen : goal.returns-clause-seen
returns-clause-seen c =
    let names = c.args.self.now in
    c.used.ensures.seen ∙ seen_by_is (file_in names) names.own.now names.known (name_view c.args.name.now).text
