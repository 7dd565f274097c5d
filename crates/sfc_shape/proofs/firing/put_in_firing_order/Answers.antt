use Rattle.std.proofs.Common.{rules, Bor}
use Rattle.std.proofs.lemmas.List.Sorted.{answers_always}
use Rattle.source_tree.specs.declared.syntax.ChartTransition.{ChartTransition}
use Rattle.source_tree.specs.Syntax.{ChartTransitionData}
use Rattle.source_tree.specs.SyntaxView.{chart_transition_view}
use Rattle.sfc_shape.proofs.FiringOrder.{fires_first, by_priority, sorted_fires}
use Rattle.sfc_shape.proofs.firing.put_in_firing_order.Goals as goal

pub returns : goal.returns
returns c =
    let view : Bor ChartTransition → ChartTransitionData = λ t. chart_transition_view t.now in
    sorted_fires view c.args.transitions.now.items c.sort_by.new.self.items
    (c.in_ok-sort_by.ensures.sorted (fires_first view) (by_priority view) (answers_always _ _ _ (λ f a r g h. search rules)))
    (c.sort_by.ensures.stable (fires_first view) (by_priority view) (answers_always _ _ _ (λ f a r g h. search rules)))
