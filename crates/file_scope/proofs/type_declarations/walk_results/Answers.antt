use Rattle.std.proofs.Common.{◌≡◌, ◌+◌, length, drop, ap, sym, ◌∙◌, arith}
use Rattle.rules.specs.Rules.{earlier, first_in}
use Rattle.source_tree.specs.SyntaxView.{pou_view, file_view}
use Rattle.naming.specs.Broken.{in_result, in_results}
use Rattle.naming.specs.FileScope.{types_of}
use Rattle.naming.specs.ScopeView.{pous_view}
use Rattle.rules.specs.Outcomes.{outcome_of}
use Rattle.rules.proofs.Outcomes.{outcome_first, first_before}
use Rattle.naming.proofs.Steps.{view-drop}
use Rattle.file_scope.proofs.type_declarations.walk_results.Goals as goal

pub loop-place-preserved : goal.loop-place-preserved
loop-place-preserved c =
    let types = c.args.scope.now.types in
    let f = file_view types.names.file.now in
    let ps = c.args.pous.now in
    let place = c.loop-place.place in
    let user = length (types_of f) + place in
    let x = c.index-pous-place.result in
    let p = pou_view x.now in
    let rest = pous_view (drop (place + 1) ps) in
    let left = view-drop (λ q. pou_view q.now) ps place x (omega arith) c.index-pous-place.is in
    let all = ap (λ qs. earlier c.loop-place.first (first_in (in_results f user qs))) (sym left) ∙ c.loop-place.invariant in
    let same : length c.as_slice-types.result.now ≡ length (types_of f) = ap length c.as_slice-types.ensures.value ∙ types.all in
    let step = c.earlier.ensures ∙ ap (earlier c.loop-place.first) (outcome_first (in_result f user p.pou_type) c.result-judged.result (c.result-judged.ensures ∙ ap (λ n. outcome_of (in_result f (n + place) p.pou_type)) same)) in
    let moved : user + 1 ≡ length (types_of f) + (place + 1) = omega arith in
    ap (λ k. earlier c.earlier.result (first_in (in_results f k rest))) (sym moved) ∙ first_before c.loop-place.first c.earlier.result _ (in_result f user p.pou_type).broken (in_results f (user + 1) rest) step all
