use Rattle.std.proofs.Common.{◌≡◌, ℕ, ◌+◌, sym, ◌∙◌, ap, subst, List}
use Rattle.std.specs.Prelude.{slice_index}
use Rattle.std.specs.Option.{unwrap_or}
use Rattle.std.proofs.lemmas.Bool.{false≢true}
use Rattle.gates.specs.declared.stored.StoredGate.{StoredGate}
use Rattle.gates.specs.Places.{slot_of, number_in, IsAbsent}
use Rattle.gates.proofs.Placing.{HasNumber, none_left}
use Rattle.gates.proofs.store.GateStore.number.Goals as goal

pub returns-in_default-clause-absent : goal.returns-in_default-clause-absent
returns-in_default-clause-absent c =
    let near : List ℕ = c.self.inside.near.items in
    let g : StoredGate = c.args.gate in
    let first : c.number_at-first.result ≡ slice_index near (slot_of g) =
    c.number_at-first.ensures ∙ ap (λ xs. slice_index xs c.slot-place.result) c.as_slice.ensures.value ∙ ap (λ n. slice_index near n) c.slot-place.ensures.slot in
    let second : c.number_at-second.result ≡ slice_index near (slot_of g + 1) =
    c.number_at-second.ensures ∙ ap (λ xs. slice_index xs (c.slot-place.result + 1)) c.as_slice-2.ensures.value ∙ ap (λ n. slice_index near (n + 1)) c.slot-place.ensures.slot in
    let P : List StoredGate → Type 0 = λ gs. IsAbsent gs g in
    subst P c.self.view_is
    (none_left near (number_in c.self.inside.far) c.self.inside.gates.items c.as_slice-gates.result.now g c.number_at-first.result c.number_at-second.result c.self.invariant.placed
    c.as_slice-gates.ensures.value first second (λ h. false≢true (c.if-has_number.ensures.1 h)) (λ h. false≢true (c.if-has_number-2.ensures.1 h)) (λ k e h. c.in_default.not-Some k (c.number_in_map.ensures ∙ e)))

pub returns-clause-absent : goal.returns-clause-absent
returns-clause-absent c =
    let near : List ℕ = c.self.inside.near.items in
    let g : StoredGate = c.args.gate in
    let first : c.number_at-first.result ≡ slice_index near (slot_of g) =
    c.number_at-first.ensures ∙ ap (λ xs. slice_index xs c.slot-place.result) c.as_slice.ensures.value ∙ ap (λ n. slice_index near n) c.slot-place.ensures.slot in
    let second : c.number_at-second.result ≡ slice_index near (slot_of g + 1) =
    c.number_at-second.ensures ∙ ap (λ xs. slice_index xs (c.slot-place.result + 1)) c.as_slice-2.ensures.value ∙ ap (λ n. slice_index near (n + 1)) c.slot-place.ensures.slot in
    let P : List StoredGate → Type 0 = λ gs. IsAbsent gs g in
    subst P c.self.view_is
    (none_left near (number_in c.self.inside.far) c.self.inside.gates.items c.as_slice-gates.result.now g c.number_at-first.result c.number_at-second.result c.self.invariant.placed
    c.as_slice-gates.ensures.value first second (λ h. false≢true (c.if-has_number.ensures.1 h)) (λ h. false≢true (c.if-has_number-2.ensures.1 h)) (λ k e h.
    let same : k ≡ c.in-Some.third = ap (λ o. unwrap_or o 0) (sym (c.number_in_map.ensures ∙ e) ∙ c.in-Some.is) in
    let H : ℕ → Type 0 = λ n. HasNumber c.as_slice-gates.result.now g n in
    false≢true (c.if-has_number-3.ensures.1 (subst H same h))))
