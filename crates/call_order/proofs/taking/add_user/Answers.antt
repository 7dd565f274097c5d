use Rattle.std.proofs.Common.{◌≡◌, ℕ, ◌+◌, ◌≤◌, ◌∙◌, length, List, [], ◌∷◌, ◌++◌, get_or, set, take, arith, sym, ap, subst, Vec, Global}
use Rattle.std.proofs.lemmas.List.{take_more}
use Rattle.call_order.specs.Uses.{graph_of, uses_at}
use Rattle.call_order.specs.Users.{GainsUser}
use Rattle.call_order.proofs.Graphs.{length-graph, uses_at-graph, uses_at-set_same, uses_at-set_other}
use Rattle.call_order.proofs.Gained.{gains-past, gains-more}
use Rattle.call_order.proofs.taking.add_user.Goals as goal
use Rattle.call_order.proofs.taking.add_user.Goals.{then-number-users+in_ok-push, else-number-users}

pub loop-number-preserved : goal.loop-number-preserved
loop-number-preserved c =
    let used = c.args.used.now in
    let i = c.loop-number.number-index in
    let number = get_or used i 0 in
    let old = graph_of c.args.users.now in
    let more : take (i + 1) used ≡ take i used ++ number ∷ [] = take_more used i 0 (omega arith) in
    elim c.if-number-users.branch [
      | then-number-users+in_ok-push w ↦
          let here : uses_at (graph_of (set c.loop-number.users number w.push.new.self)) number ≡ uses_at (graph_of c.loop-number.users) number ++ c.args.user ∷ [] =
          uses_at-set_same c.loop-number.users number w.push.new.self w.if-number-users.true ∙ w.in_ok-push.ensures.items
          ∙ ap (λ (v : Vec ℕ Global). v.items ++ c.args.user ∷ []) (sym w.index-users-number.is)
          ∙ ap (λ (xs : List ℕ). xs ++ c.args.user ∷ []) (sym (uses_at-graph c.loop-number.users number w.index-users-number.result w.if-number-users.true w.index-users-number.is)) in
          let gains = gains-more c.args.user number (take i used) old (graph_of c.loop-number.users) (graph_of (set c.loop-number.users number w.push.new.self)) c.loop-number.invariant here
          (λ k apart. uses_at-set_other c.loop-number.users number k w.push.new.self apart) in
          subst (λ (vs : List (Vec ℕ Global)). GainsUser c.args.user (take (i + 1) used) old (graph_of vs)) (sym w.users-is)
          (subst (λ (ns : List ℕ). GainsUser c.args.user ns old (graph_of (set c.loop-number.users number w.push.new.self))) (sym more) gains)
      | else-number-users w ↦
          let past : length old ≤ number = let l = length-graph c.args.users.now in let a = c.loop-number.auto.users in let d = w.if-number-users.false in omega arith in
          subst (λ (vs : List (Vec ℕ Global)). GainsUser c.args.user (take (i + 1) used) old (graph_of vs)) (sym w.users-is)
          (subst (λ (ns : List ℕ). GainsUser c.args.user ns old (graph_of c.loop-number.users)) (sym more)
          (gains-past c.args.user number (take i used) old (graph_of c.loop-number.users) c.loop-number.invariant past))
    ]
