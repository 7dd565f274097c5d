use Rattle.std.proofs.Common.{rules, ◌≡◌, ℕ, sym, subst, List, length}
use Rattle.gates.specs.declared.stored.StoredGate.{StoredGate}
use Rattle.gates.specs.Places.{number_in, ArePlaced, IsPlaced, AreDistinct, IsAbsent}
use Rattle.gates.proofs.Placing.{placed_kept, placed_added, distinct_added}
use Rattle.gates.proofs.store.GateStore.push.Goals as goal

pub invariant_of-self-in_default : goal.invariant_of-self-in_default
invariant_of-self-in_default c =
    let gs : List StoredGate = c.self.inside.gates.items in
    let g : StoredGate = c.args.gate in
    let near : List ℕ = c.settle.new.near.items in
    let P : List StoredGate → Type 0 = λ hs. IsAbsent hs g in
    let absent : IsAbsent gs g = subst P (sym c.self.view_is) c.requires.absent in
    let Q : List StoredGate → Type 0 = λ hs. ArePlaced near (number_in c.settle.new.far) hs in
    record {
      placed = subst Q (sym c.in_default.ensures.items)
          (placed_kept c.self.inside.near.items near (number_in c.self.inside.far) (number_in c.settle.new.far) gs g c.settle.ensures.near c.settle.ensures.far absent c.self.invariant.placed);
      distinct = subst AreDistinct (sym c.in_default.ensures.items) c.self.invariant.distinct;
    }

pub invariant_of-self-2 : goal.invariant_of-self-2
invariant_of-self-2 c =
    let gs : List StoredGate = c.self.inside.gates.items in
    let g : StoredGate = c.args.gate in
    let near : List ℕ = c.settle.new.near.items in
    let P : List StoredGate → Type 0 = λ hs. IsAbsent hs g in
    let absent : IsAbsent gs g = subst P (sym c.self.view_is) c.requires.absent in
    let kept : ArePlaced near (number_in c.settle.new.far) gs =
    placed_kept c.self.inside.near.items near (number_in c.self.inside.far) (number_in c.settle.new.far) gs g c.settle.ensures.near c.settle.ensures.far absent c.self.invariant.placed in
    let R : ℕ → Type 0 = λ k. IsPlaced near (number_in c.settle.new.far) g k in
    let last : IsPlaced near (number_in c.settle.new.far) g (length gs) = subst R (let len : c.len-number.result ≡ length gs = search rules in len) c.in_ok-settle.ensures.placed in
    let Q : List StoredGate → Type 0 = λ hs. ArePlaced near (number_in c.settle.new.far) hs in
    record {
      placed = subst Q (sym c.in-Ok.ensures.items) (placed_added near (number_in c.settle.new.far) gs g kept last);
      distinct = subst AreDistinct (sym c.in-Ok.ensures.items) (distinct_added gs g c.self.invariant.distinct absent);
    }
