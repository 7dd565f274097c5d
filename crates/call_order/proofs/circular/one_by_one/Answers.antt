use Rattle.std.proofs.Common.{◌≡◌, ◌+◌, ℕ, Bool, sym, ap, ◌∙◌, subst, arith}
use Rattle.std.specs.List.{filter}
use Rattle.call_order.specs.Uses.{Graph, graph_of, uses_at, leads_to}
use Rattle.call_order.proofs.Filters.{AreFilteredBelow, filtered_more, graph-push}
use Rattle.call_order.proofs.Graphs.{uses_at-graph}
use Rattle.call_order.proofs.circular.one_by_one.Goals as goal

pub loop-user-preserved : goal.loop-user-preserved
loop-user-preserved c =
    let g = graph_of c.args.uses.now in
    let test : ℕ → ℕ → Bool = λ user used. leads_to g used user in
    let user = c.loop-user.user in
    let kept = c.in_ok-leading_back.field-0 in
    let used : c.deref.result.now ≡ uses_at g user = c.deref.ensures.value ∙ sym (uses_at-graph c.args.uses.now user c.index-uses-user.result (omega arith) c.index-uses-user.is) in
    let is : kept.items ≡ filter (test user) (uses_at g user) = c.in_ok-leading_back.ensures ∙ ap (filter (test user)) used in
    let pushed = ap graph_of c.in_ok-push.ensures.items ∙ graph-push c.loop-user.all.items kept in
    subst (λ (k : Graph). AreFilteredBelow g test (user + 1) k) (sym pushed) (filtered_more g test user (graph_of c.loop-user.all.items) kept.items c.loop-user.invariant is)
