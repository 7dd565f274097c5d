use Rattle.std.proofs.Common.{◌≡◌, ap, ◌∙◌, Option, rules}
use Rattle.source_tree.specs.SyntaxView.{name_view, tree_view}
use Rattle.plc_types.specs.declared.data_type.DataType.{DataType}
use Rattle.plc_types.specs.DataTypes.{is_same_type}
use Rattle.typing.specs.Typing.{type_of, or_dint, or_else}
use Rattle.typing_laws.proofs.Judging.{outcome_of-input}
use Rattle.stmt_types.proofs.connections.judge_input.Goals as goal

pub returns : goal.returns
returns g c =
    let m = g.S.Scope.means c.args.scope.now in
    let e = tree_view c.args.value.now in
    let w : Option DataType = c.kind_at-expected.result in
    let judged = c.in_ok-judged.judged in
    let kind : c.kind.result ≡ type_of m w e = c.kind.ensures ∙ ap (λ (o : Option DataType). or_dint (or_else o w)) c.in_ok-judged.ensures.synthesized in
    let fits : c.is_same-fits.result ≡ is_same_type (type_of m w e) (or_dint w) = search (rules, kind) in
    outcome_of-input m c.args.meaning (name_view c.args.name.now) e w c.judge_meaning.result judged.outcome c.and-parts.result c.require.result c.is_same-fits.result
    (search rules) (search rules) c.in_ok-judged.ensures.outcome (search rules) fits (search rules)
