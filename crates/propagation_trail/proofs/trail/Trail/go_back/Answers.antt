use Rattle.std.proofs.Common.{◌≡◌, ◌<◌, ◌≤◌, ◌++◌, length, take, drop, get_or, sym, ◌∙◌, ap, subst, arith}
use Rattle.std.proofs.lemmas.Grind.{common_steps}
use Rattle.std.proofs.lemmas.List.{take_at, length-take-le, get_or_read}
use Rattle.propagation_trail.specs.Trails.{TrailState, IsRising}
use Rattle.propagation_trail.proofs.Tables.{IsRising-take}
use Rattle.propagation_trail.proofs.trail.Trail.go_back.Goals as goal

pub invariant_of-self : goal.invariant_of-self
invariant_of-self c =
    let i = c.self.inside in
    let inv = c.self.invariant in
    let start = c.index-start.result.now in
    let lt : c.args.level < length i.starts.items = subst (λ (t : TrailState). c.args.level < length t.starts) (sym c.self.view_is) c.requires in
    let is : start ≡ get_or i.starts.items c.args.level 0 = get_or_read i.starts.items c.args.level start lt c.index-start.ensures 0 in
    let below = inv.rising.within c.args.level lt in
    let le : start ≤ length i.literals.items = omega arith in
    let size : length c.pop_to.new.literals.items ≡ start = ap length c.pop_to.ensures.literals ∙ length-take-le start i.literals.items le in
    let one : take i.truths.len (c.pop_to.new.truths ++ drop (length c.pop_to.new.truths) i.truths.items) ≡ c.pop_to.new.truths = take_at c.pop_to.new.truths (drop (length c.pop_to.new.truths) i.truths.items) i.truths.len (grind (arith, common_steps)) in
    let two : take i.values.len (c.pop_to.new.values ++ drop (length c.pop_to.new.values) i.values.items) ≡ c.pop_to.new.values = take_at c.pop_to.new.values (drop (length c.pop_to.new.values) i.values.items) i.values.len (grind (arith, common_steps)) in
    rw (one, two) (record {
      tabled = c.pop_to.ensures.tabled;
      consistent = c.pop_to.ensures.consistent;
      propagated = omega arith;
      rising = rw (c.truncate.ensures.items, size, is) (IsRising-take i.starts.items (length i.literals.items) c.args.level lt inv.rising);
    })
