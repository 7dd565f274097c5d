use Rattle.std.proofs.Common.{◌≡◌, [], ◌+◌, ◌++◌, drop, ap, sym, ◌∙◌, arith}
use Rattle.std.proofs.lemmas.List.{drop_all}
use Rattle.source_tree.specs.SyntaxView.{part_view, parts_view}
use Rattle.naming.specs.Broken.{in_part, in_chart_parts}
use Rattle.pou_scope.specs.NamesView.{file_in, pou_in}
use Rattle.rules.specs.Outcomes.{outcome_of, both}
use Rattle.rules.proofs.Outcomes.{before_rest, loop_done}
use Rattle.naming.specs.Circles.{calls_in_part, calls_in_parts}
use Rattle.naming.proofs.ListLemmas.{then_more}
use Rattle.naming.proofs.Steps.{view-drop}
use Rattle.name_uses.proofs.chart.walk_parts.Goals as goal

pub loop-part-preserved : goal.loop-part-preserved
loop-part-preserved c =
    let f = file_in c.args.scope.now.names in
    let p = pou_in c.args.scope.now.names in
    let x = c.part-item.result in
    let rest = parts_view (drop (c.loop-part.part-index + 1) c.args.parts.now) in
    let left = view-drop part_view c.args.parts.now c.loop-part.part-index x (omega arith) c.part-item.is in
    let all = ap (λ cs. both c.loop-part.outcome (outcome_of (in_chart_parts f p cs))) (sym left) ∙ c.loop-part.invariant.judged in
    let calls = c.loop-part.calls.items in
    record {
      judged = before_rest c.loop-part.outcome c.walk_part.new.outcome _ (in_part f p (part_view x)) (in_chart_parts f p rest) c.in_ok-walk_part.ensures.judged all;
      calls = then_more calls c.walk_part.new.calls.items (calls_in_part f (part_view x)) (calls_in_parts f rest) _ c.in_ok-walk_part.ensures.calls (ap (λ cs. calls ++ calls_in_parts f cs) (sym left) ∙ c.loop-part.invariant.calls);
    }

pub returns-clause-judged : goal.returns-clause-judged
returns-clause-judged c =
    let f = file_in c.args.scope.now.names in
    let p = pou_in c.args.scope.now.names in
    let xs = c.args.parts.now in
    let i = c.loop-part.part-index in
    let none : drop i xs ≡ [] = drop_all i xs (omega arith) in
    loop_done c.loop-part.outcome c.args.outcome.now (in_chart_parts f p (parts_view (drop i xs))) (in_chart_parts f p (parts_view xs)) c.loop-part.invariant.judged (ap (λ ys. in_chart_parts f p (parts_view ys)) none)
