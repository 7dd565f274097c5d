use Rattle.std.proofs.Common.{rules, ◌≡◌, ℕ, ◌-◌, ◌<◌, ◌∙◌, length, List, get_or, set, arith, refl, ap}
use Rattle.std.specs.BTreeSet.{insert_key}
use Rattle.std.specs.Ordering.{nat_cmp}
use Rattle.std.proofs.lemmas.List.{get_or_default}
use Rattle.call_order.specs.Uses.{is_among}
use Rattle.call_order.specs.Users.{missing_at}
use Rattle.call_order.proofs.Released.{misses, is_inside, released-more, ready_with, ready_without}
use Rattle.call_order.proofs.taking.release.Goals as goal
use Rattle.call_order.proofs.taking.release.Goals.{then-missing-user-eq0+in_ok-insert, else-missing-user-eq0}

read_again : (xs : List ℕ) (i : ℕ) → i < length xs → get_or xs i 0 ≡ get_or xs i (get_or xs i 0)
read_again xs i below = get_or_default xs i 0 (get_or xs i 0) below

pub bounds-missing-user : goal.bounds-missing-user
bounds-missing-user c =
    is_inside c.loop-user.missing (get_or c.args.users.now c.loop-user.user-index 0)
    (misses c.args.users.now c.loop-user.user-index c.args.missing.now c.loop-user.missing c.args.ready.now.keys c.loop-user.ready.keys (get_or c.args.users.now c.loop-user.user-index 0)
    c.loop-user.invariant (omega arith) (read_again c.args.users.now c.loop-user.user-index (omega arith)))

pub offset_bounds-missing-user : goal.offset_bounds-missing-user
offset_bounds-missing-user c =
    let below : get_or c.args.users.now c.loop-user.user-index 0 < length c.loop-user.missing =
    is_inside c.loop-user.missing (get_or c.args.users.now c.loop-user.user-index 0)
    (misses c.args.users.now c.loop-user.user-index c.args.missing.now c.loop-user.missing c.args.ready.now.keys c.loop-user.ready.keys (get_or c.args.users.now c.loop-user.user-index 0)
    c.loop-user.invariant (omega arith) (read_again c.args.users.now c.loop-user.user-index (omega arith))) in
    search rules

pub loop-user-preserved : goal.loop-user-preserved
loop-user-preserved c =
    let users = c.args.users.now in
    let i = c.loop-user.user-index in
    let user = get_or users i 0 in
    let less = set c.loop-user.missing user (missing_at c.loop-user.missing user - 1) in
    let here : i < length users = omega arith in
    elim c.if-missing-user-eq0.branch [
      | then-missing-user-eq0+in_ok-insert w ↦
          let keys : c.if-missing-user-eq0.ready.keys ≡ insert_key nat_cmp c.loop-user.ready.keys user = ap (λ s. s.keys) w.ready-is ∙ w.in_ok-insert.ensures.keys in
          released-more users i c.args.missing.now c.loop-user.missing c.args.ready.now.keys c.loop-user.ready.keys user less c.if-missing-user-eq0.ready.keys
          c.loop-user.invariant here (read_again users i here) refl
          (λ k. ap (is_among k) keys ∙ ready_with k user c.loop-user.ready.keys (missing_at less user) w.if-missing-user-eq0.true)
      | else-missing-user-eq0 w ↦
          released-more users i c.args.missing.now c.loop-user.missing c.args.ready.now.keys c.loop-user.ready.keys user less c.if-missing-user-eq0.ready.keys
          c.loop-user.invariant here (read_again users i here) refl
          (λ k. ap (λ s. is_among k s.keys) w.ready-is ∙ ready_without k user c.loop-user.ready.keys (missing_at less user) w.if-missing-user-eq0.false)
    ]
