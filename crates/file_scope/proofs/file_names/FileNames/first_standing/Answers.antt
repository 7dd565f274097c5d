use Rattle.std.proofs.Common.{ap, ◌∙◌, option_map}
use Rattle.std.specs.HashMap.{get_by_text}
use Rattle.source_tree.specs.SyntaxView.{name_view, file_view}
use Rattle.naming.specs.declared.entry.Entry.{Entry}
use Rattle.naming.proofs.TableLemmas.{first-named}
use Rattle.file_scope.proofs.file_names.FileNames.first_standing.Goals as goal

pub returns : goal.returns
returns c =
    let names = c.args.self.now in
    let q = (name_view c.args.name.now).text in
    c.first_at.ensures ∙ ap (λ t. option_map (λ (e : Entry). e.standing) (get_by_text names.table t)) c.as_str.ensures.value ∙ ap (option_map (λ (e : Entry). e.standing)) (names.held q) ∙ first-named (file_view names.file.now) q
