use Rattle.std.proofs.Common.{◌≡◌, Some, ap, sym, ◌∙◌, arith}
use Rattle.source_tree.specs.SyntaxView.{name_view, file_view}
use Rattle.naming.specs.FileScope.{standing}
use Rattle.naming.specs.declared.standing.Standing.{Standing}
use Rattle.naming.specs.declared.standing.Standing.TheVariants as standings
use Rattle.naming.proofs.DeclarationLemmas.{standing_pou}
use Rattle.file_scope.proofs.file_names.FileNames.declaration_number.Goals as goal

pub overflow_add-result : goal.overflow_add-result
overflow_add-result c =
    let f = file_view c.args.self.now.file.now in
    let is : standing f (name_view c.args.name.now).text ≡ Some (standings.Pou c.in-Some-Pou.number) = sym c.standing.ensures ∙ c.in-Some-Pou.is ∙ ap (λ (s : Standing). Some s) c.in-Some-Pou.field-0-is in
    let below = standing_pou f (name_view c.args.name.now).text c.in-Some-Pou.number is in
    let few = c.args.self.now.few in
    omega arith
