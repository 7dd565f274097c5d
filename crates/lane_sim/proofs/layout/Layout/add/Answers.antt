use Rattle.std.proofs.Common.{◌≡◌, ◌∙◌, ℕ, ◌+◌, ◌<◌, ◌≤◌, Bool, sym, ap, subst, List, length, arith}
use Rattle.std.specs.Prelude.{slice_index, slice_set}
use Rattle.clause_core.specs.declared.literal.Lit.{Lit}
use Rattle.gates.specs.Netlists.{Netlist}
use Rattle.lane_sim.specs.declared.choice.Choice.{Choice}
use Rattle.lane_sim.specs.declared.layout.Layout.{Layout}
use Rattle.lane_sim.specs.Choices.{choice_of, choice_true, EachOf, IsChoiceBelow}
use Rattle.lane_sim.specs.Layouts.{choice_in, IsTaken}
use Rattle.lane_sim.proofs.LayoutLaws.{IsNext, operands_below, choice_wider, choice_inside, laid_out-next}
use Rattle.lane_sim.proofs.layout.Layout.add.Goals as goal

pub choice_in-chosen-requires : goal.choice_in-chosen-requires
choice_in-chosen-requires c =
    let n : Netlist = c.args.circuit.now in
    let below : IsChoiceBelow (n.first + c.args.place) (choice_of c.gate.result) = operands_below n c.args.place c.gate.result c.requires.ordered c.requires.place (λ d. c.gate.ensures d) in
    let room : n.first + c.args.place ≤ length c.as_slice.result.now = omega (arith, c.requires.place, c.requires.laid.len, ap length c.as_slice.ensures.value) in
    subst (λ (z : Choice). IsChoiceBelow (length c.as_slice.result.now) z) (sym c.choice_of-choice.ensures)
    (choice_wider (n.first + c.args.place) (length c.as_slice.result.now) (choice_of c.gate.result) room below)

pub release_operands-requires-clause-below : goal.release_operands-requires-clause-below
release_operands-requires-clause-below c =
    let n : Netlist = c.args.circuit.now in
    let below : IsChoiceBelow (n.first + c.args.place) (choice_of c.gate.result) = operands_below n c.args.place c.gate.result c.requires.ordered c.requires.place (λ d. c.gate.ensures d) in
    subst (λ (z : Choice). IsChoiceBelow (c.first.result + c.args.place) z) (sym c.choice_of-choice.ensures)
    (subst (λ (x : ℕ). IsChoiceBelow (x + c.args.place) (choice_of c.gate.result)) (sym c.first.ensures.first) below)

pub take_word-requires : goal.take_word-requires
take_word-requires c = omega (arith, c.requires.few, c.requires.laid.few)

pub step_of-negative-requires : goal.step_of-negative-requires
step_of-negative-requires c =
    let taken : IsTaken c.args.last.now (c.first.result + c.args.place) c.args.self.now.holders.items c.take_word.new.holders.items c.in_ok-word.word = c.in_ok-word.ensures in
    omega (arith, c.requires.few, c.requires.laid.few, taken.inside, taken.most)

pub returns : goal.returns
returns c =
    let n : Netlist = c.args.circuit.now in
    let last : List ℕ = c.args.last.now in
    let k : ℕ = c.args.place in
    let p : Layout = c.args.self.now in
    let word : ℕ = c.in_ok-word.word in
    let negative : Bool = c.step_of-negative.result.1 in
    let read : 0 < slice_index last (c.first.result + k) = omega arith in
    let next : IsNext n last k c.gate.result p =
    record {
      ordered = c.requires.ordered;
      place = c.requires.place;
      gate = λ d. c.gate.ensures d;
      uses = c.requires.uses;
      read = subst (λ (x : ℕ). 0 < slice_index last (x + k)) c.first.ensures.first read;
      laid = c.requires.laid;
    } in
    let taken : IsTaken last (n.first + k) p.holders.items c.take_word.new.holders.items word =
    subst (λ (x : ℕ). IsTaken last (x + k) p.holders.items c.take_word.new.holders.items word) c.first.ensures.first c.in_ok-word.ensures in
    let chosen : c.choice_in-chosen.result ≡ choice_in p.places.items (choice_of c.gate.result) =
    c.choice_in-chosen.ensures ∙ ap (λ (ps : List Lit). choice_in ps c.choice_of-choice.result) c.as_slice.ensures.value ∙ ap (choice_in p.places.items) c.choice_of-choice.ensures in
    let inside : EachOf (λ l. l.variable < length c.take_word.new.holders.items) c.choice_in-chosen.result =
    subst (λ (z : Choice). EachOf (λ l. l.variable < length c.take_word.new.holders.items) z) (sym chosen) (choice_inside n last k (length c.take_word.new.holders.items) c.gate.result p next taken.more) in
    laid_out-next n last k word negative c.gate.result c.step_of-negative.result.0 p _ next (record {
      taken = taken;
      value = λ w. c.step_of-negative.ensures.value w ∙ ap (choice_true w) chosen;
      target = c.step_of-negative.ensures.target;
      within = c.step_of-negative.ensures.within (length c.take_word.new.holders.items) inside taken.inside;
      steps = c.in_ok-push.ensures.items;
      places = ap (λ (x : ℕ). slice_set p.places.items (x + k) (record { variable = word; negative = negative })) c.first.ensures.first;
    })
