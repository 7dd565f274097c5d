use Rattle.std.proofs.Common.{◌≡◌, ℕ, arith, refl, ◌-◌, ◌+◌, [], ◌∷◌, List, sym, ap, ◌∙◌, subst, append-nil, slice_range, true}
use Rattle.clause_core.specs.declared.gate.Gate.{Gate}
use Rattle.gates.specs.Clauses.{clauses_from, gate_clauses, with_clauses}
use Rattle.gates.specs.Order.{is_ordered}
use Rattle.clause_core.proofs.Fronts.{BeginsWith-refl, BeginsWith-trans}
use Rattle.gates.proofs.Ordered.{is_ordered-drop, is_ordered-take}
use Rattle.gates.proofs.NextGate.{range_next, ordered_next, clauses_next}
use Rattle.gates.proofs.circuit.Circuit.add_clauses.Goals as goal

pub loop-place-init : goal.loop-place-init
loop-place-init c = record {
  begins = BeginsWith-refl _;
  ordered = rw (c.first-first.ensures.first) (is_ordered-take _ (c.args.to - c.args.from) _ (is_ordered-drop _ c.args.from _ c.requires.ordered.ordered));
  same = refl;
}

-- the gates from this place on are this one, and those from the next on
split : (c : goal.After-add_gate-arg-1) → slice_range c.args.self.now.gates c.loop-place.place c.args.to ≡ c.gate.result ∷ slice_range c.args.self.now.gates (c.loop-place.place + 1) c.args.to
split c =
    range_next c.args.self.now.gates c.loop-place.place c.args.to c.gate.result c.loop-place-test.true c.requires.inside
    ∙ ap (λ (g : Gate). let gs : List Gate = g ∷ slice_range c.args.self.now.gates (c.loop-place.place + 1) c.args.to in gs) (sym (c.gate.ensures c.gate.result))

pub add_gate-requires-clause-below : goal.add_gate-requires-clause-below
add_gate-requires-clause-below c = (ordered_next _ c.gate.result _ _ (split c) c.loop-place.invariant.ordered).0

pub loop-place-preserved : goal.loop-place-preserved
loop-place-preserved c =
    let gates = c.args.self.now.gates in
    let next : (c.first-first.result + c.loop-place.place) + 1 ≡ c.first-first.result + (c.loop-place.place + 1) = omega arith in
    let whole : slice_range gates c.loop-place.place c.args.to ≡ c.gate.result ∷ slice_range gates (c.loop-place.place + 1) c.args.to =
    range_next gates c.loop-place.place c.args.to c.gate.result c.loop-place-test.true c.requires.inside
    ∙ ap (λ (g : Gate). let gs : List Gate = g ∷ slice_range gates (c.loop-place.place + 1) c.args.to in gs) (sym (c.gate.ensures c.gate.result)) in
    record {
      begins = BeginsWith-trans _ _ _ c.loop-place.invariant.begins c.add_gate.ensures.begins;
      ordered = subst (λ (x : ℕ). is_ordered x (slice_range gates (c.loop-place.place + 1) c.args.to) ≡ true) next (ordered_next _ c.gate.result _ _ whole c.loop-place.invariant.ordered).1;
      same =
          ap (λ f. with_clauses f (clauses_from (c.first-first.result + (c.loop-place.place + 1)) (slice_range gates (c.loop-place.place + 1) c.args.to))) (c.in_ok-add_gate.ensures.ok)
          ∙ ap (λ (x : ℕ). with_clauses (with_clauses c.loop-place.formula (gate_clauses (c.first-first.result + c.loop-place.place) c.gate.result)) (clauses_from x (slice_range gates (c.loop-place.place + 1) c.args.to))) (sym next)
          ∙ clauses_next c.loop-place.formula (c.first-first.result + c.loop-place.place) c.gate.result _ _ whole
          ∙ c.loop-place.invariant.same;
    }
