use Rattle.std.proofs.Common.{◌≡◌, ℕ, ◌<◌, ◌≤◌, ◌-◌, take, length, get_or, sym, ◌∙◌, ap, subst}
use Rattle.std.specs.List.{Contains}
use Rattle.propagation_trail.specs.Trails.{TrailState}
use Rattle.propagation_trail.proofs.Tables.{of_last_level}
use Rattle.propagation_trail.proofs.trail.Trail.is_of_last_level.Goals as goal

pub returns-clause-level : goal.returns-clause-level
returns-clause-level c = λ yes.
    let i = c.self.inside in
    let s = c.stands_after in
    let lits = c.as_slice.ensures.value in
    let starts = c.as_slice-2.ensures.value in
    subst (λ (t : TrailState). (j : ℕ) → j < length t.starts → Contains (take (get_or t.starts j 0) t.literals) c.args.code → ⊥) c.self.view_is
    (of_last_level i.literals.items i.starts.items i.values.items c.args.code c.cause-place.result.place c.self.invariant.consistent c.self.invariant.rising
    (subst (λ z. c.cause-place.result.place < length z) lits (s.ensures.within yes))
    (subst (λ z. get_or z c.cause-place.result.place 0 ≡ c.args.code) lits (s.ensures.code yes))
    (subst (λ z. 0 < length z → get_or z (length z - 1) 0 ≤ c.cause-place.result.place) starts (s.ensures.after yes)))
