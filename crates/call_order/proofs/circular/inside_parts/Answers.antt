use Rattle.std.proofs.Common.{◌≡◌, ◌==◌, ◌+◌, ℕ, slice_index, sym, ap, ◌∙◌, subst, arith}
use Rattle.std.specs.List.{filter}
use Rattle.call_order.specs.Uses.{Graph, graph_of, uses_at}
use Rattle.call_order.specs.Parts.{is_inside}
use Rattle.call_order.proofs.Filters.{AreFilteredBelow, filtered_more, graph-push}
use Rattle.call_order.proofs.Graphs.{uses_at-graph}
use Rattle.call_order.proofs.circular.inside_parts.Goals as goal

pub loop-user-preserved : goal.loop-user-preserved
loop-user-preserved c =
    let g = graph_of c.args.uses.now in
    let parts = c.args.parts.now in
    let user = c.loop-user.user in
    let kept = c.in_ok-inside_part.field-0 in
    let used : c.deref.result.now ≡ uses_at g user = c.deref.ensures.value ∙ sym (uses_at-graph c.args.uses.now user c.index-uses-user.result (omega arith) c.index-uses-user.is) in
    let is : kept.items ≡ filter (is_inside parts user) (uses_at g user) =
    c.in_ok-inside_part.ensures ∙ ap (λ (part : ℕ). filter (λ (n : ℕ). slice_index parts n == part) c.deref.result.now) c.part_of.ensures ∙ ap (filter (is_inside parts user)) used in
    let pushed = ap graph_of c.in_ok-push.ensures.items ∙ graph-push c.loop-user.all.items kept in
    subst (λ (k : Graph). AreFilteredBelow g (is_inside parts) (user + 1) k) (sym pushed) (filtered_more g (is_inside parts) user (graph_of c.loop-user.all.items) kept.items c.loop-user.invariant is)
