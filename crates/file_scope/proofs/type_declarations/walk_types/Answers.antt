use Rattle.std.proofs.Common.{◌≡◌, ◌+◌, ◌==◌, ◌++◌, false, get_or, length, drop, ap, sym, ◌∙◌, if◌then◌else◌, arith}
use Rattle.std.specs.List.{list_any}
use Rattle.std.proofs.lemmas.List.{length-map}
use Rattle.rules.specs.Rules.{earlier, first_in}
use Rattle.source_tree.specs.SyntaxView.{type_declaration_view, file_view}
use Rattle.naming.specs.Broken.{circular, in_specification, in_types}
use Rattle.rules.specs.Judgements.{ok}
use Rattle.rules.specs.Outcomes.{outcome_of}
use Rattle.naming.specs.ScopeView.{types_view}
use Rattle.naming.specs.Types.{is_circular}
use Rattle.naming.proofs.CircularLemmas.{circular_is}
use Rattle.rules.proofs.Outcomes.{outcome_first, first_then, first_before}
use Rattle.naming.proofs.Steps.{view-drop}
use Rattle.file_scope.proofs.type_declarations.walk_types.Goals as goal

pub loop-number-preserved : goal.loop-number-preserved
loop-number-preserved c =
    let types = c.args.scope.now.types in
    let f = file_view types.names.file.now in
    let ds = c.args.types.now in
    let number = c.loop-number.number in
    let x = c.index-types-number.result in
    let d = type_declaration_view x.now in
    let rest = types_view (drop (number + 1) ds) in
    let listed : length ds ≡ length types.ends.items = sym (length-map ds (λ t. type_declaration_view t.now)) ∙ ap length c.requires ∙ sym types.all in
    let there = c.is_marked-is_reached.ensures ∙ ap (λ xs. get_or xs number false) c.deref-in-loop-number.ensures.value in
    let marked : c.is_marked-is_reached.result ≡ list_any (λ e. e == number) types.ends.items = there ∙ c.in_ok-reached.ensures number (omega (arith, ap length c.deref.ensures.value)) ∙ ap (list_any (λ e. e == number)) c.deref.ensures.value in
    let is = circular_is f ds types.ends.items number x c.is_marked-is_reached.result c.requires types.led types.all (omega arith) c.index-types-number.is marked in
    let own = if is_circular f number then circular d.name else ok in
    let left = view-drop (λ t. type_declaration_view t.now) ds number x (omega arith) c.index-types-number.is in
    let all = ap (λ ts. earlier c.loop-number.first (first_in (in_types f number ts))) (sym left) ∙ c.loop-number.invariant in
    let first = c.earlier.ensures ∙ ap (earlier c.loop-number.first) (outcome_first own c.circle_of-circle.result (c.circle_of-circle.ensures ∙ ap (λ b. outcome_of (if b then circular d.name else ok)) is)) in
    let second = c.earlier-in-loop-number.ensures ∙ ap (earlier c.earlier.result) (outcome_first (in_specification f number d.specification) c.specification-judged.result c.specification-judged.ensures) in
    let step = first_then c.loop-number.first c.earlier.result c.earlier-in-loop-number.result own.broken (in_specification f number d.specification).broken first second in
    first_before c.loop-number.first c.earlier-in-loop-number.result _ (own.broken ++ (in_specification f number d.specification).broken) (in_types f (number + 1) rest) step all
