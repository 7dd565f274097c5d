use Rattle.std.proofs.Common.{◌≡◌, ◌∙◌, ℕ, length, List, Vec, Global, sym, subst}
use Rattle.call_order.specs.Uses.{graph_of}
use Rattle.call_order.specs.Users.{HasUsers}
use Rattle.call_order.specs.Parts.{NeverFalls, AreHeads, ReachesAll}
use Rattle.call_order.proofs.Graphs.{length-graph}
use Rattle.call_order.proofs.PartLemmas.{parts_circles}
use Rattle.call_order.proofs.circular.are_parts.Goals as goal

pub returns : goal.returns
returns c = λ all.
    let g = graph_of c.args.uses.now in
    let inside = graph_of c.args.inside.now in
    let users = graph_of c.in_ok-users.users.items in
    let parts = c.args.proposal.now.parts.items in
    let heads = c.args.proposal.now.heads.items in
    let starts = c.in_ok-heads.heads.items in
    let rise : NeverFalls g parts = subst (λ (ps : List ℕ). NeverFalls g ps) c.deref.ensures.value (c.never_falls.ensures c.if-not-never_falls.false) in
    let own : AreHeads parts heads starts =
    subst (λ (ps : List ℕ). AreHeads ps heads starts) c.deref-2.ensures.value
    (subst (λ (hs : List ℕ). AreHeads c.deref-2.result.now hs starts) c.deref-3.ensures.value c.in_ok-heads.ensures) in
    let forth : ReachesAll inside starts = subst (λ (ss : List ℕ). ReachesAll inside ss) c.deref-4.ensures.value (c.in_ok-reaches_all.ensures c.if-not-branch.false) in
    let back : ReachesAll users starts =
    subst (λ (ss : List ℕ). ReachesAll users ss) c.deref-6.ensures.value
    (subst (λ (us : List (Vec ℕ Global)). ReachesAll (graph_of us) c.deref-6.result.now) c.deref-5.ensures.value (c.in_ok-all.ensures all)) in
    let sized : length users ≡ length inside = length-graph c.in_ok-users.users.items ∙ c.in_ok-users.ensures.len ∙ sym (length-graph c.args.inside.now) in
    let has : HasUsers inside users = λ k user below. c.in_ok-users.ensures.users k user below in
    parts_circles g inside parts heads c.requires users sized has starts own forth back rise
