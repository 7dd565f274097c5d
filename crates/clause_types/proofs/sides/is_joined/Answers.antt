use Rattle.std.proofs.Common.{◌≡◌, ◌+◌, ◌∷◌, ◌++◌, drop, ap, sym, ◌∙◌, arith}
use Rattle.std.proofs.lemmas.Grind.{common_steps}
use Rattle.source_tree.specs.SyntaxView.{name_view, names_view}
use Rattle.typing.specs.Programs.{joined}
use Rattle.clause_types.proofs.SideLemmas.{behind_points, joined-cons, one_behind, same_text, same_as}
use Rattle.clause_types.proofs.sides.is_joined.Goals as goal

pub returns-in_default-after : goal.returns-in_default-after
returns-in_default-after c =
    let first = name_view c.in-Some.first.now in
    let others = names_view c.in-Some.others.now in
    let whole : joined (names_view c.args.members.now) ≡ first.text ++ behind_points others = ap (λ ms. joined (names_view ms)) c.in-Some.ensures.cases.0 ∙ joined-cons first others in
    let parted : joined (names_view c.args.members.now) ≡ c.as_bytes.result.now ++ behind_points others = whole ∙ ap (λ t. t ++ behind_points others) (sym c.as_bytes.ensures.value) in
    (λ h. absurd (cc), λ e. absurd (c.in_default-after.ensures (behind_points others) (e ∙ parted)))

pub loop-member-init : goal.loop-member-init
loop-member-init c =
    let first = name_view c.in-Some.first.now in
    let others = names_view c.in-Some.others.now in
    let whole : joined (names_view c.args.members.now) ≡ first.text ++ behind_points others = ap (λ ms. joined (names_view ms)) c.in-Some.ensures.cases.0 ∙ joined-cons first others in
    let parted : joined (names_view c.args.members.now) ≡ c.as_bytes.result.now ++ behind_points others = whole ∙ ap (λ t. t ++ behind_points others) (sym c.as_bytes.ensures.value) in
    one_behind c.args.text.now c.as_bytes.result.now c.in-Some-after.behind.now (behind_points others) c.in-Some-after.ensures (same_text c.args.text.now _ _ parted)

pub loop-member-preserved : goal.loop-member-preserved
loop-member-preserved c =
    let i = c.loop-member.member-index in
    let rest = names_view (drop (i + 1) c.in-Some.others.now) in
    let left : names_view (drop i c.in-Some.others.now) ≡ name_view c.member-item.result ∷ rest = grind (arith, common_steps) in
    let parted : behind_points (names_view (drop i c.in-Some.others.now)) ≡ 46 ∷ (c.as_bytes-in-loop-member.result.now ++ behind_points rest) = ap behind_points left ∙ ap (λ t. 46 ∷ (t ++ behind_points rest)) (sym c.as_bytes-in-loop-member.ensures.value) in
    one_behind c.loop-member.rest.now (46 ∷ c.as_bytes-in-loop-member.result.now) c.in-Some-after_point.behind.now (behind_points rest) c.in-Some-after_point.ensures (same_as c.loop-member.rest.now _ _ c.loop-member.invariant parted)
