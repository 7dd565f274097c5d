use Rattle.std.proofs.Common.{ap, ◌∙◌}
use Rattle.std.specs.HashMap.{get_by_text}
use Rattle.source_tree.specs.SyntaxView.{name_view, file_view}
use Rattle.naming.specs.Table.{standing_by}
use Rattle.naming.proofs.TableLemmas.{standing-named}
use Rattle.file_bindings.proofs.bound.Resolved.standing_of_use.Goals as goal

pub returns : goal.returns
returns c =
    let table = c.args.self.now.bindings.table in
    let q = (name_view c.args.name.now).text in
    c.standing_by_number.ensures ∙ ap (λ t. standing_by (get_by_text table t)) c.as_str.ensures.value ∙ ap standing_by (c.args.self.now.bound.table q) ∙ standing-named (file_view c.args.self.now.file.now) q
