use Rattle.std.proofs.Common.{List, ◌∷◌, ap, ◌∙◌}
use Rattle.source_tree.specs.declared.syntax.Name.{Name}
use Rattle.source_tree.specs.SyntaxView.{name_view, names_view, file_view}
use Rattle.naming.specs.Types.{are_first}
use Rattle.file_scope.proofs.file_types.FileTypes.is_whole.Goals as goal

pub returns-in-Enumeration : goal.returns-in-Enumeration
returns-in-Enumeration c =
    rw c.in-Enumeration.is (c.are_first.ensures ∙ ap (λ (ns : List Name). are_first (file_view c.args.self.now.names.file.now) c.args.number 0 (name_view c.in-Enumeration.first ∷ names_view ns)) c.deref.ensures.value)
