use Rattle.std.proofs.Common.{◌≡◌, ◌&&◌, ℕ, ◌<◌, ◌≤◌, true, nat_lt, nat_le, length, List, slice_index, sym, ap, ◌∙◌, ⊎_elim, arith}
use Rattle.std.specs.List.{list_all}
use Rattle.std.proofs.lemmas.Bool.{cases_eq, and_parts}
use Rattle.std.proofs.lemmas.Bool.Decides.{nat_tests}
use Rattle.call_order.specs.Uses.{graph_of, uses_at, is_among}
use Rattle.call_order.proofs.Graphs.{uses_at-graph}
use Rattle.call_order.proofs.Members.{list_all-at}
use Rattle.call_order.proofs.circular.never_falls.Goals as goal

-- what each number passes
each : (count part : ℕ) (parts numbers : List ℕ) → list_all (λ used. nat_lt used count && nat_le part (slice_index parts used)) numbers ≡ true → (used : ℕ) → is_among used numbers ≡ true → (used < count) × (part ≤ slice_index parts used)
each count part parts numbers h used m =
    let p = and_parts (nat_lt used count) (nat_le part (slice_index parts used)) (list_all-at (λ u. nat_lt u count && nat_le part (slice_index parts u)) numbers used h m) in
    let low : nat_lt used count ≡ true = p.0 in
    let high : nat_le part (slice_index parts used) ≡ true = p.1 in
    (grind (arith, nat_tests), grind (arith, nat_tests))

pub loop-number-preserved : goal.loop-number-preserved
loop-number-preserved c = λ k used below m.
    let g = graph_of c.args.uses.now in
    let parts = c.args.parts.now in
    let number = c.loop-number.number in
    let numbers : c.deref.result.now ≡ uses_at g number = c.deref.ensures.value ∙ sym (uses_at-graph c.args.uses.now number c.index-uses-number.result (omega arith) c.index-uses-number.is) in
    let passes = sym c.never_falls_at.ensures ∙ c.if-not-never_falls_at.false in
    ⊎_elim
    (λ (e : k ≡ number).
    let here : is_among used c.deref.result.now ≡ true = ap (is_among used) (numbers ∙ ap (uses_at g) (sym e)) ∙ m in
    let p = each (length c.args.uses.now) c.part_of.result parts c.deref.result.now passes used here in
    (p.0, let same : c.part_of.result ≡ slice_index parts k = c.part_of.ensures ∙ ap (slice_index parts) (sym e) in let h = p.1 in omega arith))
    (λ other. c.loop-number.invariant k used (omega arith) m)
    (cases_eq k number)
