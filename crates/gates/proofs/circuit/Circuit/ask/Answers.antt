use Rattle.std.proofs.Common.{◌≡◌, ◌∙◌, sym, ap, subst, ◌+◌, ◌≤◌, ◌++◌, ◌∷◌, [], length, List, arith}
use Rattle.std.proofs.lemmas.List.{length-append}
use Rattle.clause_core.specs.declared.literal.Lit.{Lit}
use Rattle.clause_core.specs.declared.gate.Gate.{Gate}
use Rattle.gates.specs.declared.plan.Plan.TheVariants.{Ask}
use Rattle.gates.specs.declared.stored.StoredGate.{StoredGate}
use Rattle.gates.specs.Inside.{netlist_of}
use Rattle.gates.specs.Netlists.{Netlist, variable_of, with_gate, IsOverfull, IsExtensionOf}
use Rattle.gates.specs.Places.{IsAbsent}
use Rattle.gates.specs.Stored.{stored_of, gates_of, AreStored}
use Rattle.gates.proofs.Growth.{extends_make}
use Rattle.gates.proofs.StoredGates.{none_absent, place_absent, some_found, place_found, with_there, with_new, kept_added, stored_added, count_kept, overfull}
use Rattle.gates.proofs.circuit.Circuit.ask.Goals as goal

pub returns-in-Some-clause-lit : goal.returns-in-Some-clause-lit
returns-in-Some-clause-lit c =
    let found = c.in-Some.ensures.found in
    ap (λ i. let l : Lit = record { variable = c.self.inside.first + i; negative = c.args.negative } in l)
    (sym (place_found c.args.gate c.self.inside.gates c.self.invariant.stored c.in-Some.ensures.distinct c.in-Some.index found.0 (found.1 ∙ c.stored-kept.ensures)))
    ∙ ap (λ (n : Netlist). let l : Lit = record { variable = variable_of n c.args.gate; negative = c.args.negative } in l) c.self.view_is

pub returns-in-Some-clause-net : goal.returns-in-Some-clause-net
returns-in-Some-clause-net c =
    let found = c.in-Some.ensures.found in
    let P : Netlist → Type 0 = λ n. n ≡ with_gate n c.args.gate in
    subst P c.self.view_is
    (sym (with_there (netlist_of c.self.inside) c.args.gate
    (some_found c.args.gate c.self.inside.gates c.self.invariant.stored c.in-Some.ensures.distinct c.in-Some.index found.0 (found.1 ∙ c.stored-kept.ensures))))

pub returns-then-count-self-clause-too_many : goal.returns-then-count-self-clause-too_many
returns-then-count-self-clause-too_many c e =
    let keys : List StoredGate = c.self.inside.gates in
    let g : Gate = c.args.gate in
    let P : StoredGate → Type 0 = λ s. IsAbsent keys s in
    let absent : IsAbsent keys (stored_of g) = subst P c.stored-kept.ensures c.in_default.ensures.absent in
    subst (λ (n : Netlist). IsOverfull (with_gate n g)) c.self.view_is
    (overfull _ g (none_absent g keys c.self.invariant.stored absent) (omega (arith, count_kept keys, c.if-count-self.true, c.len-count.ensures)))

pub invariant_of-self-2 : goal.invariant_of-self-2
invariant_of-self-2 c =
    let keys : List StoredGate = c.self.inside.gates in
    let added : c.push.new.self ≡ keys ++ stored_of c.args.gate ∷ [] = c.in-Ok.ensures.added ∙ ap (λ (s : StoredGate). keys ++ s ∷ []) c.stored-kept.ensures in
    let P : List StoredGate → Type 0 = λ ss. length ss ≤ c.self.inside.limit in
    record {
      few = subst P (sym added) (omega (arith, length-append keys (stored_of c.args.gate ∷ []), c.if-count-self.false, c.len-count.ensures));
      stored = subst AreStored (sym added) (stored_added keys c.args.gate c.self.invariant.stored);
      one = c.self.invariant.one;
      small = c.self.invariant.small;
    }

pub returns-clause-lit : goal.returns-clause-lit
returns-clause-lit c =
    let keys : List StoredGate = c.self.inside.gates in
    let P : StoredGate → Type 0 = λ s. IsAbsent keys s in
    let absent : IsAbsent keys (stored_of c.args.gate) = subst P c.stored-kept.ensures c.in_default.ensures.absent in
    ap (λ i. let l : Lit = record { variable = c.self.inside.first + i; negative = c.args.negative } in l)
    (c.len-count.ensures ∙ sym (place_absent c.args.gate keys c.self.invariant.stored absent))
    ∙ ap (λ (n : Netlist). let l : Lit = record { variable = variable_of n c.args.gate; negative = c.args.negative } in l) c.self.view_is

pub returns-clause-net : goal.returns-clause-net
returns-clause-net c =
    let keys : List StoredGate = c.self.inside.gates in
    let g : Gate = c.args.gate in
    let P : StoredGate → Type 0 = λ s. IsAbsent keys s in
    let absent : IsAbsent keys (stored_of g) = subst P c.stored-kept.ensures c.in_default.ensures.absent in
    let added : c.push.new.self ≡ keys ++ stored_of g ∷ [] = c.in-Ok.ensures.added ∙ ap (λ (s : StoredGate). keys ++ s ∷ []) c.stored-kept.ensures in
    ap (λ (gs : List Gate). let n : Netlist = record { first = c.self.inside.first; limit = c.self.inside.limit; gates = gs } in n) (ap gates_of added ∙ kept_added keys g)
    ∙ sym (with_new (netlist_of c.self.inside) g (none_absent g keys c.self.invariant.stored absent))
    ∙ ap (λ (n : Netlist). with_gate n g) c.self.view_is

pub returns-clause-extends : goal.returns-clause-extends
returns-clause-extends c =
    let n = c.args.self.now in
    subst (λ (later : Netlist). IsExtensionOf n later) (sym (returns-clause-net c)) (extends_make (Ask c.args.gate c.args.negative) n)
