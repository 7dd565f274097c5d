use Rattle.std.proofs.Common.{◌≡◌, ◌<◌, ◌+◌, length, [], drop, ap, sym, ◌∙◌, arith}
use Rattle.std.proofs.lemmas.List.{drop_all}
use Rattle.naming.specs.Broken.{in_declaration, in_declarations}
use Rattle.pou_scope.specs.NamesView.{file_in, pou_in}
use Rattle.rules.specs.Outcomes.{outcome_of, both}
use Rattle.naming.specs.ScopeView.{variable_view, variables_view}
use Rattle.rules.proofs.Outcomes.{before_rest, loop_done}
use Rattle.naming.proofs.Steps.{view-drop}
use Rattle.pou_scope.proofs.declarations.walk_declarations.Goals as goal

pub loop-number-preserved : goal.loop-number-preserved
loop-number-preserved c =
    let names = c.args.names.now in
    let f = file_in names in
    let p = pou_in names in
    let own = names.own.now.variables.items in
    let i = c.loop-number.number in
    let x = c.variable-item.result in
    let v = variable_view x in
    let rest = variables_view (drop (i + 1) own) in
    let items = c.deref-variable-items.ensures.value in
    let is = rw items at c.variable-item.is in
    let below : i < length own = omega (arith, ap length items) in
    let left = view-drop variable_view own i x below is in
    let all = ap (λ list. both c.loop-number.outcome (outcome_of (in_declarations f p i list))) (sym left) ∙ c.loop-number.invariant in
    let step = c.and.ensures ∙ ap (both c.loop-number.outcome) c.declaration.ensures in
    before_rest c.loop-number.outcome c.and.result _ (in_declaration f p i v) (in_declarations f p (i + 1) rest) step all

pub returns : goal.returns
returns c =
    let names = c.args.names.now in
    let f = file_in names in
    let p = pou_in names in
    let own = names.own.now.variables.items in
    let i = c.loop-number.number in
    let none : drop i own ≡ [] = drop_all i own (omega (arith, ap length c.deref-variable-items.ensures.value)) in
    loop_done c.loop-number.outcome c.args.outcome.now (in_declarations f p i (variables_view (drop i own))) (in_declarations f p 0 p.variables) c.loop-number.invariant (ap (λ ys. in_declarations f p i (variables_view ys)) none)
