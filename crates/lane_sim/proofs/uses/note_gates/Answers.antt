use Rattle.std.proofs.Common.{◌∙◌, ℕ, ◌+◌, ◌-◌, ◌<◌, sym, ap, subst, length, get_or, arith}
use Rattle.lane_sim.specs.declared.choice.Choice.{Choice}
use Rattle.lane_sim.specs.Choices.{choice_of, IsChoiceBelow}
use Rattle.lane_sim.proofs.ChoiceLaws.{choice_below-at}
use Rattle.lane_sim.proofs.uses.note_gates.Goals as goal

pub note_choice-requires-clause-below : goal.note_choice-requires-clause-below
note_choice-requires-clause-below c =
    let n = c.args.circuit.now in
    let k = c.loop-place.place - 1 in
    let choice : Choice = choice_of (get_or n.gates k c.gate.result) in
    let inside : k < length n.gates = omega (arith, c.loop-place-test.true, c.count-place.ensures.count) in
    let below : IsChoiceBelow (n.first + k) choice = choice_below-at n.first k n.gates c.gate.result c.requires.ordered.one c.requires.ordered.ordered inside in
    subst (λ (z : Choice). IsChoiceBelow (c.first-first.result + k) z) (sym (c.choice_of.ensures ∙ ap choice_of (c.gate.ensures c.gate.result)))
    (subst (λ (x : ℕ). IsChoiceBelow (x + k) choice) (sym c.first-first.ensures.first) below)
