use Rattle.std.proofs.Common.{arith, ◌≡◌, true, sym, subst}
use Rattle.scan_model.specs.Pairs.{relation_view, is_allowed}
use Rattle.scan_replay.specs.Duos.{Compared, allows}
use Rattle.scan_replay.specs.States.{pair_of}
use Rattle.scan_replay.proofs.DuoLemmas.{step_in_range}
use Rattle.scan_replay.proofs.RowLemmas.{room_kept}
use Rattle.scan_replay.proofs.duo.Duo.step.Goals as goal

pub invariant_of-self : goal.invariant_of-self
invariant_of-self c =
    let may : is_allowed (relation_view c.self.inside.relation.now) c.args.row.now (pair_of c.self.inside.states) ≡ true =
    subst (λ (d : Compared). allows d c.args.row.now ≡ true) (sym c.self.view_is) c.requires in
    let kept = step_in_range _ _ c.self.inside.relation.now c.args.row.now _ _ (pair_of c.scan_both.new.states) _ c.self.invariant.0 may c.self.invariant.1 c.load.ensures c.deref.ensures.value c.scan_both.ensures in
    (c.self.invariant.0, kept, c.self.invariant.2, c.self.invariant.3, c.self.invariant.4, room_kept _ _ _ c.scan_both.new.stack (omega arith) (omega (arith, c.self.invariant.5)), room_kept _ _ _ c.scan_both.new.stack (omega arith) (omega (arith, c.self.invariant.6)))

pub returns-clause-in_range : goal.returns-clause-in_range
returns-clause-in_range c =
    let may : is_allowed (relation_view c.self.inside.relation.now) c.args.row.now (pair_of c.self.inside.states) ≡ true =
    subst (λ (d : Compared). allows d c.args.row.now ≡ true) (sym c.self.view_is) c.requires in
    step_in_range _ _ c.self.inside.relation.now c.args.row.now _ _ (pair_of c.scan_both.new.states) _ c.self.invariant.0 may c.self.invariant.1 c.load.ensures c.deref.ensures.value c.scan_both.ensures
