use Rattle.std.proofs.Common.{ap, ◌∙◌}
use Rattle.std.specs.HashMap.{get_by_text}
use Rattle.source_tree.specs.SyntaxView.{name_view, file_view}
use Rattle.naming.specs.Table.{standing_by}
use Rattle.naming.proofs.TableLemmas.{standing-named}
use Rattle.file_scope.proofs.file_names.FileNames.standing.Goals as goal

pub returns : goal.returns
returns c =
    let names = c.args.self.now in
    let q = (name_view c.args.name.now).text in
    c.standing_at.ensures ∙ ap (λ t. standing_by (get_by_text names.table t)) c.as_str.ensures.value ∙ ap standing_by (names.held q) ∙ standing-named (file_view names.file.now) q
