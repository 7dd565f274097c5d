use Rattle.std.proofs.Common.{◌≡◌, map, ap, sym, ◌∙◌}
use Rattle.source_tree.specs.SyntaxView.{file_view}
use Rattle.naming.specs.FileScope.{pous_of}
use Rattle.naming.specs.ScopeView.{pous_view}
use Rattle.naming.specs.Scopes.{scope_of}
use Rattle.pou_scope.specs.AllSeen.{seen_in}
use Rattle.st_names.proofs.resolution.walk_file.Goals as goal

pub order_of-requires-clause-wholes : goal.order_of-requires-clause-wholes
order_of-requires-clause-wholes c = rw c.in_ok-scope.ensures.file at c.in_ok-judged.ensures.wholes

pub bindings_of-bindings-requires-clause-seen : goal.bindings_of-bindings-requires-clause-seen
bindings_of-bindings-requires-clause-seen c =
    let f = file_view c.in_ok-scope.scope.types.names.file.now in
    let ps = pous_view c.deref-2.result.now in
    let all : ps ≡ pous_of f = ap pous_view c.deref-2.ensures.value ∙ c.in_ok-list.ensures.pous ∙ ap pous_of (sym c.in_ok-scope.ensures.file) in
    c.in_ok-all.ensures.seen ∙ ap (map (seen_in f)) all

pub bindings_of-bindings-requires-clause-scopes : goal.bindings_of-bindings-requires-clause-scopes
bindings_of-bindings-requires-clause-scopes c =
    let ps = pous_view c.deref-2.result.now in
    let all : ps ≡ pous_of (file_view c.in_ok-scope.scope.types.names.file.now) = ap pous_view c.deref-2.ensures.value ∙ c.in_ok-list.ensures.pous ∙ ap pous_of (sym c.in_ok-scope.ensures.file) in
    c.in_ok-all.ensures.scopes ∙ ap (map scope_of) all
