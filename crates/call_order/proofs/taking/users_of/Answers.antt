use Rattle.std.proofs.Common.{◌≡◌, ℕ, ◌<◌, ◌≤◌, ◌∙◌, length, Bool, true, false, ltb, cond, List, ◌++◌, take, drop, arith, refl, sym, ap, subst, Vec, Global, ⊎_elim}
use Rattle.std.proofs.lemmas.Bool.{cond-true, lt-ltb, cases_lt}
use Rattle.std.proofs.lemmas.List.{take_at}
use Rattle.call_order.specs.Uses.{graph_of, uses_at}
use Rattle.call_order.specs.Users.{times, GainsUser}
use Rattle.call_order.proofs.Graphs.{length-graph, uses_at-graph}
use Rattle.call_order.proofs.Gained.{users_more}
use Rattle.call_order.proofs.Counts.{past_times}
use Rattle.call_order.proofs.taking.users_of.Goals as goal

ends : (b : Bool) (n : ℕ) → n ≡ 0 → cond b n 0 ≡ n
ends true n e = refl
ends false n e = sym e

pub loop-user-preserved : goal.loop-user-preserved
loop-user-preserved c =
    let g = graph_of c.args.uses.now in
    let i = c.loop-user.invariant in
    let user = c.loop-user.user in
    let long = length-graph c.args.uses.now in
    let b = c.add_user.auto.users in
    let start = c.deref_mut.ensures.value in
    let same : length c.add_user.new.users ≡ length c.loop-user.users.items = b ∙ ap length start in
    let whole : take c.loop-user.users.len (c.add_user.new.users ++ drop (length c.add_user.new.users) c.loop-user.users.items) ≡ c.add_user.new.users =
    take_at c.add_user.new.users (drop (length c.add_user.new.users) c.loop-user.users.items) c.loop-user.users.len (let o = c.loop-user.users.ok in omega arith) in
    let used : c.deref.result.now ≡ uses_at g user = c.deref.ensures.value ∙ sym (uses_at-graph c.args.uses.now user c.index-uses-user.result (omega arith) c.index-uses-user.is) in
    let gains : GainsUser user (uses_at g user) (graph_of c.loop-user.users.items) (graph_of c.add_user.new.users) =
    subst (λ (ns : List ℕ). GainsUser user ns (graph_of c.loop-user.users.items) (graph_of c.add_user.new.users)) used
    (subst (λ (vs : List (Vec ℕ Global)). GainsUser user c.deref.result.now (graph_of vs) (graph_of c.add_user.new.users)) start c.in_ok-add_user.ensures) in
    record {
      size = ap length whole ∙ same ∙ i.size;
      gained = λ k other below.
          let l = length-graph c.loop-user.users.items in
          let s = i.size in
          ap (λ (vs : List (Vec ℕ Global)). times other (uses_at (graph_of vs) k)) whole
          ∙ users_more user k other (times other (uses_at (graph_of c.add_user.new.users) k)) (times other (uses_at (graph_of c.loop-user.users.items) k)) g (gains k other (omega arith)) (i.gained k other below);
    }

pub returns-clause-users : goal.returns-clause-users
returns-clause-users c = λ k user below.
    let g = graph_of c.args.uses.now in
    let long = length-graph c.args.uses.now in
    let i = c.loop-user.invariant.gained k user (omega arith) in
    ⊎_elim (λ (l : user < length g). i ∙ cond-true (ltb user c.loop-user.user) _ _ (lt-ltb user c.loop-user.user (omega arith)))
    (λ (past : length g ≤ user). i ∙ ends (ltb user c.loop-user.user) (times k (uses_at g user)) (past_times g k user past))
    (cases_lt user (length g))
