use Rattle.std.proofs.Common.{◌+◌, ◌∷◌, [], ◌++◌, length, drop, ap, sym, ◌∙◌, arith}
use Rattle.source_tree.specs.Syntax.{FileData}
use Rattle.source_tree.specs.SyntaxView.{type_declaration_view, pou_view, item_view, items_view}
use Rattle.naming.specs.FileScope.{types_of, pous_of, names_of_items}
use Rattle.file_scope.specs.FileView.{file_names_view}
use Rattle.naming.specs.ScopeView.{types_view, pous_view}
use Rattle.naming.proofs.Steps.{view-drop}
use Rattle.naming.proofs.ListLemmas.{types_more, pous_more, names_more, viewed_length, then_more}
use Rattle.file_scope.proofs.names.list_declarations.Goals as goal

pub loop-item-preserved : goal.loop-item-preserved
loop-item-preserved c =
    let all = c.deref-item-items.result.now in
    let i = c.loop-item.item-index in
    let item = c.item-item.result in
    let x = item_view item in
    let rest = items_view (drop (i + 1) all) in
    let old = c.loop-item.list in
    let new = c.append_item.new.list in
    let left = view-drop item_view all i item (omega arith) c.item-item.is in
    let given = c.in_ok-append_item.ensures in
    let known = c.loop-item.invariant in
    record {
      types = then_more (types_view old.types.items) (types_view new.types.items) (types_of (x ∷ [])) (types_of rest) _ given.types (ap (λ ts. types_view old.types.items ++ ts) (sym (ap types_of left ∙ types_more x rest)) ∙ known.types);
      names = names_more (file_names_view old.names.items) (file_names_view new.names.items) _ (length old.types.items) (length old.pous.items) (length new.types.items) (length new.pous.items) x rest given.names
          (viewed_length (λ d. type_declaration_view d.now) old.types.items new.types.items (types_of (x ∷ [])) given.types) (viewed_length (λ p. pou_view p.now) old.pous.items new.pous.items (pous_of (x ∷ [])) given.pous)
          (ap (λ (is : FileData). file_names_view old.names.items ++ names_of_items (length old.types.items) (length old.pous.items) is) (sym left) ∙ known.names);
      pous = then_more (pous_view old.pous.items) (pous_view new.pous.items) (pous_of (x ∷ [])) (pous_of rest) _ given.pous (ap (λ ps. pous_view old.pous.items ++ ps) (sym (ap pous_of left ∙ pous_more x rest)) ∙ known.pous);
    }
