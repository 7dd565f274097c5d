use Rattle.std.proofs.Common.{ℕ, Bool, ap, ◌∙◌}
use Rattle.std.specs.Prelude.{int_le}
use Rattle.rules.specs.declared.rule.Rule.TheVariants.{OperandType, OutsideType}
use Rattle.plc_types.specs.declared.range.Range.{Range}
use Rattle.source_tree.specs.SyntaxView.{tree_view, bounds_view}
use Rattle.plc_types.specs.Types.{is_integer}
use Rattle.decl_types.specs.Bodies.{file_of}
use Rattle.typing.specs.Domains.{bounds_of, judged_bound_of}
use Rattle.typing.specs.Typing.{place_of}
use Rattle.rules.specs.Outcomes.{tried}
use Rattle.typing_laws.proofs.DeclaredLemmas.{outcome_of-limits}
use Rattle.decl_types.proofs.subranges.judge_subrange.Goals as goal

pub returns : goal.returns
returns c =
    let f = file_of c.args.file.now in
    let k = c.args.kind in
    let b = bounds_view c.args.bounds.now in
    let limits = c.require-limits.result in
    outcome_of-limits (judged_bound_of f k (tree_view c.args.bounds.now.low)) (judged_bound_of f k (tree_view c.args.bounds.now.high)) c.in_ok-low.low c.in_ok-high.high c.and-parts.result limits c.require.result
    (is_integer k) (int_le (bounds_of f k b).low (bounds_of f k b).high) OperandType OutsideType c.args.at (place_of b.low) c.in_ok-low.ensures c.in_ok-high.ensures c.and-parts.ensures
    (c.require-limits.ensures ∙ ap (λ (x : Bool). tried c.and-parts.result x OperandType c.args.at) c.is_integer.ensures)
    (c.require.ensures ∙ ap (λ (x : Bool). tried limits x OutsideType c.place_of.result) (c.are_in_order-in_order.ensures ∙ ap (λ (r : Range). int_le r.low r.high) c.requires) ∙ ap (λ (at : ℕ). tried limits (int_le (bounds_of f k b).low (bounds_of f k b).high) OutsideType at) c.place_of.ensures)
