use Rattle.std.proofs.Common.{ap, ◌∙◌}
use Rattle.source_tree.specs.SyntaxView.{name_view, file_view}
use Rattle.naming.specs.Library.{is_library}
use Rattle.rules.specs.Outcomes.{outcome_of}
use Rattle.naming.specs.Table.{used}
use Rattle.naming.proofs.TableLemmas.{used-named}
use Rattle.file_scope.proofs.file_names.FileNames.use_at.Goals as goal

pub returns : goal.returns
returns c =
    let names = c.args.self.now in
    let n = name_view c.args.name.now in
    c.use_in.ensures ∙ ap (λ e. outcome_of (used (is_library n.text) e n)) (names.held n.text) ∙ ap outcome_of (used-named (file_view names.file.now) n)
