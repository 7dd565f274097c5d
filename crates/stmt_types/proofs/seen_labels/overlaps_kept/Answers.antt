use Rattle.std.proofs.Common.{◌≡◌, List, [], ◌∷◌, ◌++◌, arith, subst, to_z-of_z}
use Rattle.std.proofs.Math.IntN.{ℤ}
use Rattle.std.proofs.lemmas.Int.{ints}
use Rattle.std.specs.Prelude.{int_le}
use Rattle.std.specs.Ordering.{int_cmp}
use Rattle.std.specs.declared.ops.Bound.TheVariants.{Included, Unbounded}
use Rattle.std.specs.BTreeMap.{BTreeMap}
use Rattle.std.specs.BTreeMap.Range.{IsRangeOf}
use Rattle.typing.specs.Labels.{overlaps}
use Rattle.typing_laws.proofs.Apart.{overlaps_some, overlaps_none}
use Rattle.stmt_types.proofs.seen_labels.overlaps_kept.Goals as goal
use mir.Syntax.{w128}
use mir.Val.{to_z, of_z}

-- the entries up to a high, which code has as its bits
up_to : (m : BTreeMap ℤ ℤ) (high bits : ℤ) (r s : List (ℤ × ℤ)) → bits ≡ high → r ≡ s → IsRangeOf int_cmp Unbounded (Included bits) m r → IsRangeOf int_cmp Unbounded (Included high) m s
up_to m high bits r s same is range =
    subst (λ (x : ℤ). IsRangeOf int_cmp Unbounded (Included x) m s) same (subst (IsRangeOf int_cmp Unbounded (Included bits) m) is range)

pub returns-in-None : goal.returns-in-None
returns-in-None c = λ list keeps.
    let same : to_z w128 (of_z w128 c.args.range.high) ≡ c.args.range.high = omega (arith, ints) in
    overlaps_none c.args.highs.now list c.args.range
    (up_to c.args.highs.now c.args.range.high (to_z w128 (of_z w128 c.args.range.high)) c.range.result [] same c.in-None.ensures.steps.0 (c.range.ensures.in_range tt)) keeps

pub returns-in-Some : goal.returns-in-Some
returns-in-Some c = λ list keeps.
    let same : to_z w128 (of_z w128 c.args.range.high) ≡ c.args.range.high = omega (arith, ints) in
    let fact : int_le c.args.range.low c.in-Some.high.now ≡ overlaps list c.args.range =
    overlaps_some c.args.highs.now list c.args.range c.in-Some.field-0-0.now c.in-Some.high.now c.next_back.new.self
    (up_to c.args.highs.now c.args.range.high (to_z w128 (of_z w128 c.args.range.high)) c.range.result (c.next_back.new.self ++ (c.in-Some.field-0-0.now, c.in-Some.high.now) ∷ []) same c.in-Some.ensures.steps (c.range.ensures.in_range tt)) keeps in
    grind (arith, to_z-of_z)
