use Rattle.std.proofs.Common.{◌≡◌, ℕ, ◌++◌, map, List, ap, ◌∙◌, Vec, Global}
use Rattle.call_order.specs.Uses.{Graph, graph_of}
use Rattle.source_tree.specs.Syntax.{TypeDeclarationData, PouData}
use Rattle.source_tree.specs.SyntaxView.{file_view}
use Rattle.naming.specs.DeclarationUses.{used_by_specification, used_by_result, declaration_uses}
use Rattle.naming.specs.FileScope.{types_of}
use Rattle.naming.specs.ScopeView.{types_view, pous_view}
use Rattle.file_scope.proofs.declaration_uses.declaration_uses.Goals as goal

pub returns : goal.returns
unfolding declaration_uses
returns c =
    let f = file_view c.args.names.now.file.now in
    let of_type : TypeDeclarationData → List ℕ = λ d. used_by_specification f d.specification in
    let of_pou : PouData → List ℕ = λ p. used_by_result f p.pou_type in
    let first : graph_of c.append_types.new.all.items ≡ map of_type (types_of f) =
    c.in_ok-append_types.ensures ∙ ap (λ (vs : List (Vec ℕ Global)). graph_of vs ++ map of_type (types_view c.args.types.now)) c.new-all.ensures.items ∙ ap (map of_type) c.requires.types in
    c.in_ok-append_pous.ensures ∙ ap (λ (g : Graph). g ++ map of_pou (pous_view c.args.pous.now)) first ∙ ap (λ (ps : List PouData). map of_type (types_of f) ++ map of_pou ps) c.requires.pous
