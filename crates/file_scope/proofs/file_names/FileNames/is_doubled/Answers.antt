use Rattle.std.proofs.Common.{ap, ◌∙◌}
use Rattle.std.specs.HashMap.{get_by_text}
use Rattle.source_tree.specs.SyntaxView.{name_view, file_view}
use Rattle.naming.specs.Table.{is_doubled_by}
use Rattle.naming.proofs.TableLemmas.{twice-named}
use Rattle.file_scope.proofs.file_names.FileNames.is_doubled.Goals as goal

pub returns : goal.returns
returns c =
    let names = c.args.self.now in
    let q = (name_view c.args.name.now).text in
    c.is_doubled_at.ensures ∙ ap (λ t. is_doubled_by (get_by_text names.table t)) c.as_str.ensures.value ∙ ap is_doubled_by (names.held q) ∙ twice-named (file_view names.file.now) q
