use Rattle.std.proofs.Common.{◌≡◌, ℕ, ◌+◌, ◌-◌, ◌<◌, ◌≤◌, ◌∙◌, length, List, [], ◌∷◌, ◌++◌, take, drop, arith, refl, sym, ap, subst, ⊎_elim}
use Rattle.std.proofs.lemmas.Bool.{cases_lt, false≢true}
use Rattle.std.proofs.lemmas.List.{take_at}
use Rattle.call_order.specs.Uses.{graph_of, uses_at}
use Rattle.call_order.specs.Users.{times, missing_at, MissesLess, GetReady}
use Rattle.call_order.proofs.Graphs.{length-graph, uses_at-graph, long_at}
use Rattle.call_order.proofs.UnderWay.{IsUnderWay, under_way-begun, none_left, is_below, enough, under_way-more, under_way-all}
use Rattle.call_order.proofs.taking.order.Goals as goal
use Rattle.call_order.proofs.taking.order.Goals.{else-loop-test, then-loop-test+in_default}

pub loop-init : goal.loop-init
loop-init c =
    let g = graph_of c.args.uses.now in
    let users = graph_of c.in_ok-users.users.items in
    let long = length-graph c.args.uses.now in
    let at : (k : ℕ) → missing_at c.in_ok-missing.missing.items k ≡ length (uses_at g k) =
    λ (k : ℕ). ap (λ (ms : List ℕ). missing_at ms k) c.in_ok-missing.ensures ∙ long_at c.args.uses.now k in
    subst (λ (n : ℕ). IsUnderWay g users c.in_ok-missing.missing.items c.in_ok-ready.ready.keys c.new-taken.result.items n) (omega arith)
    (subst (λ (t : List ℕ). IsUnderWay g users c.in_ok-missing.missing.items c.in_ok-ready.ready.keys t (length g)) (sym c.new-taken.ensures.items)
    (under_way-begun g users c.in_ok-missing.missing.items c.in_ok-ready.ready.keys c.in_ok-users.ensures.users at c.in_ok-ready.ensures))

pub index-requires : goal.index-requires
index-requires c =
    let below = is_below _ _ _ _ _ _ c.loop.invariant c.in-Some.number c.pop_first.new.self.keys c.in-Some.ensures.removal c.in-Some.ensures.all_above in
    let long = length-graph c.args.uses.now in
    let l = c.in_ok-users.ensures.len in
    let o = c.in_ok-users.users.ok in
    omega arith

pub release-requires : goal.release-requires
release-requires c = λ k.
    let g = graph_of c.args.uses.now in
    let users = graph_of c.in_ok-users.users.items in
    let number = c.in-Some.number in
    let below = is_below _ _ _ _ _ _ c.loop.invariant number c.pop_first.new.self.keys c.in-Some.ensures.removal c.in-Some.ensures.all_above in
    let long = length-graph c.args.uses.now in
    let l = c.in_ok-users.ensures.len in
    let used : uses_at users number ≡ c.index.result.now.items = uses_at-graph c.in_ok-users.users.items number c.index.result.now (omega arith) c.index.ensures in
    let from : uses_at users number ≡ c.deref.result.now = used ∙ sym c.deref.ensures.value in
    subst (λ (ns : List ℕ). times k ns ≤ missing_at c.deref_mut.result.now k) from
    (subst (λ (ms : List ℕ). times k (uses_at users number) ≤ missing_at ms k) (sym c.deref_mut.ensures.value)
    (enough _ _ _ _ _ _ c.loop.invariant number c.pop_first.new.self.keys c.in-Some.ensures.removal c.in-Some.ensures.all_above k))

pub loop-preserved : goal.loop-preserved
loop-preserved c =
    let g = graph_of c.args.uses.now in
    let users = graph_of c.in_ok-users.users.items in
    let number = c.in-Some.number in
    let others = c.pop_first.new.self.keys in
    let below = is_below _ _ _ _ _ _ c.loop.invariant number others c.in-Some.ensures.removal c.in-Some.ensures.all_above in
    let long = length-graph c.args.uses.now in
    let l = c.in_ok-users.ensures.len in
    let used : uses_at users number ≡ c.index.result.now.items = uses_at-graph c.in_ok-users.users.items number c.index.result.now (omega arith) c.index.ensures in
    let from : c.deref.result.now ≡ uses_at users number = c.deref.ensures.value ∙ sym used in
    let less = c.release.new.missing in
    let same : length less ≡ length c.loop.missing.items = c.release.auto.missing ∙ ap length c.deref_mut.ensures.value in
    let whole : take c.loop.missing.len (less ++ drop (length less) c.loop.missing.items) ≡ less =
    take_at less (drop (length less) c.loop.missing.items) c.loop.missing.len (let o = c.loop.missing.ok in omega arith) in
    let misses : MissesLess (uses_at users number) c.loop.missing.items less =
    subst (λ (ns : List ℕ). MissesLess ns c.loop.missing.items less) from
    (subst (λ (ms : List ℕ). MissesLess c.deref.result.now ms less) c.deref_mut.ensures.value c.in_ok-release.ensures.missing) in
    let got : GetReady (uses_at users number) less others c.release.new.ready.keys =
    subst (λ (ns : List ℕ). GetReady ns less others c.release.new.ready.keys) from c.in_ok-release.ensures.ready in
    let more = under_way-more _ _ _ _ _ _ c.loop.invariant number others c.in-Some.ensures.removal c.in-Some.ensures.all_above less c.release.new.ready.keys misses got
    (length c.args.uses.now - (c.loop.counter + 1)) (omega arith) in
    subst (λ (ms : List ℕ). IsUnderWay g users ms c.release.new.ready.keys c.push.new.self.items (length c.args.uses.now - (c.loop.counter + 1))) (sym whole)
    (subst (λ (t : List ℕ). IsUnderWay g users less c.release.new.ready.keys t (length c.args.uses.now - (c.loop.counter + 1))) (sym c.in_ok-push.ensures.items) more)

empty : (xs : List ℕ) → length xs ≡ 0 → xs ≡ []
empty [] e = refl
empty (x ∷ xs) e = absurd (omega arith)

pub returns : goal.returns
returns c =
    elim c.loop-test.branch [
      | else-loop-test w ↦ under_way-all _ _ _ _ _ _ c.loop.invariant (let f = w.loop-test.false in omega arith)
      | then-loop-test+in_default w ↦ none_left _ _ _ _ _ _ c.loop.invariant
          (empty c.loop.ready.keys
          (⊎_elim (λ (some : 0 < length c.loop.ready.keys). absurd (false≢true (w.in_default.ensures.variant.1 some)))
          (λ (none : length c.loop.ready.keys ≤ 0). omega arith)
          (cases_lt 0 (length c.loop.ready.keys))))
    ]
