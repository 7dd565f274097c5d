use Rattle.std.proofs.Common.{◌≡◌, ◌<◌, ◌*◌, length, sym, subst, arith}
use Rattle.std.specs.List.{Contains}
use Rattle.propagation_trail.specs.Trails.{TrailState}
use Rattle.propagation_trail.proofs.Signs.{within-true}
use Rattle.propagation_trail.proofs.trail.Trail.next.Goals as goal

pub returns-then-self-len-clause-within : goal.returns-then-self-len-clause-within
returns-then-self-len-clause-within c =
    let i = c.self.inside in
    let x = c.index.result.now in
    let size = i.literals.ok.0 in
    let lt : i.head < length i.literals.items = omega arith in
    let on : Contains i.literals.items x = (i.head, lt, sym c.index.ensures) in
    subst (λ (t : TrailState). x < 2 * length t.values) c.self.view_is (within-true i.values.items x (c.self.invariant.consistent.holds x on))
