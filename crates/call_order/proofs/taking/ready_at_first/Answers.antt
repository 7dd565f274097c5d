use Rattle.std.proofs.Common.{◌≡◌, ℕ, ◌∙◌, length, eqb, arith, sym, ap}
use Rattle.std.specs.BTreeSet.{insert_key}
use Rattle.std.specs.Ordering.{nat_cmp}
use Rattle.call_order.specs.Uses.{graph_of, uses_at, is_among}
use Rattle.call_order.proofs.Graphs.{uses_at-graph}
use Rattle.call_order.proofs.Counts.{ready-inserted, ready-passed}
use Rattle.call_order.proofs.taking.ready_at_first.Goals as goal
use Rattle.call_order.proofs.taking.ready_at_first.Goals.{then-is_empty+in_ok-insert, else-is_empty}

pub loop-number-preserved : goal.loop-number-preserved
loop-number-preserved c =
    let g = graph_of c.args.uses.now in
    let number = c.loop-number.number in
    let used : uses_at g number ≡ c.index-uses-number.result.items = uses_at-graph c.args.uses.now number c.index-uses-number.result (omega arith) c.index-uses-number.is in
    let long : c.index-uses-number.result.len ≡ length (uses_at g number) = let o = c.index-uses-number.result.ok in let l = ap length used in omega arith in
    let test : c.is_empty.result ≡ eqb (length (uses_at g number)) 0 = c.is_empty.ensures ∙ ap (λ (n : ℕ). eqb n 0) long in
    elim c.if-is_empty.branch [
      | then-is_empty+in_ok-insert w ↦ λ k.
          let keys : c.if-is_empty.ready.keys ≡ insert_key nat_cmp c.loop-number.ready.keys number = ap (λ s. s.keys) w.ready-is ∙ w.in_ok-insert.ensures.keys in
          ap (is_among k) keys ∙ ready-inserted g number c.loop-number.ready.keys c.loop-number.invariant (sym test ∙ w.if-is_empty.true) k
      | else-is_empty w ↦ λ k.
          ap (λ s. is_among k s.keys) w.ready-is ∙ ready-passed g number c.loop-number.ready.keys c.loop-number.invariant (sym test ∙ w.if-is_empty.false) k
    ]
