use Rattle.std.proofs.Common.{◌≡◌, ◌<◌, [], length, sym, ◌∙◌, ap, subst}
use Rattle.std.specs.List.{Contains}
use Rattle.std.proofs.lemmas.List.{get_or_default}
use Rattle.watched_propagation.specs.Watching.{clause_in, pair_in, list_in, watch_in, IsWatch}
use Rattle.watched_propagation.specs.Visits.{IsSettledAs}
use Rattle.watched_propagation.proofs.Turns.{visited_all, turned, visiting_removed, visiting_kept}
use Rattle.watched_propagation.proofs.visit.visit_at.Goals as goal

pub returns-then-place-list-clause-visited : goal.returns-then-place-list-clause-visited
returns-then-place-list-clause-visited c =
    let a = c.args in
    let list = c.as_slice-list.result.now in
    let is : list ≡ list_in a.lists.now a.falsified = c.as_slice-list.ensures ∙ get_or_default a.lists.now a.falsified c.index-lists-falsified.result [] c.requires.within in
    visited_all a.arena.now a.pairs.now a.lists.now a.trail.now a.falsified a.start c.next_place-place.result list is c.requires c.next_place-place.ensures.passed c.if-place-list.true

pub settle_watch-requires-clause-blocker : goal.settle_watch-requires-clause-blocker
settle_watch-requires-clause-blocker c =
    let a = c.args in
    let list = c.as_slice-list.result.now in
    let place = c.next_place-place.result in
    let is : list ≡ list_in a.lists.now a.falsified = c.as_slice-list.ensures ∙ get_or_default a.lists.now a.falsified c.index-lists-falsified.result [] c.requires.within in
    subst (λ z. Contains (clause_in a.arena.now (watch_in z place).clause) (watch_in z place).blocker) (sym is) (c.requires.watching.listing.blockers a.falsified place (subst (λ z. place < length z) is c.if-place-list.false))

pub returns-in-Moved : goal.returns-in-Moved
returns-in-Moved c =
    let a = c.args in
    let list = c.as_slice-list.result.now in
    let place = c.next_place-place.result in
    let n = c.settle_watch.new in
    let e = c.settle_watch.ensures in
    let is : list ≡ list_in a.lists.now a.falsified = c.as_slice-list.ensures ∙ get_or_default a.lists.now a.falsified c.index-lists-falsified.result [] c.requires.within in
    let turn = turned a.arena.now a.pairs.now n.pairs a.lists.now n.lists a.trail.now n.trail a.falsified a.start place list is c.requires c.next_place-place.ensures.from c.next_place-place.ensures.passed c.if-place-list.false e.watching e.grown e.same e.others in
    let away : IsWatch (pair_in n.pairs (watch_in list place).clause) a.falsified → ⊥ = subst (IsSettledAs a.arena.now n.pairs n.trail.literals a.falsified (watch_in list place).clause) c.in-Moved.is c.in_ok-settled.ensures.settled in
    let both = visiting_removed a.arena.now a.pairs.now n.pairs a.lists.now n.lists a.trail.now n.trail a.falsified a.start place turn (subst (λ z. IsWatch (pair_in n.pairs (watch_in z place).clause) a.falsified → ⊥) is away) in
    record {
      watching = rw c.remove_watch.ensures both.0.watching;
      grown = e.grown;
      kept = e.kept;
      visited = rw c.remove_watch.ensures both;
    }

pub returns-in-Satisfied : goal.returns-in-Satisfied
returns-in-Satisfied c =
    let a = c.args in
    let list = c.as_slice-list.result.now in
    let place = c.next_place-place.result in
    let n = c.settle_watch.new in
    let e = c.settle_watch.ensures in
    let is : list ≡ list_in a.lists.now a.falsified = c.as_slice-list.ensures ∙ get_or_default a.lists.now a.falsified c.index-lists-falsified.result [] c.requires.within in
    let turn = turned a.arena.now a.pairs.now n.pairs a.lists.now n.lists a.trail.now n.trail a.falsified a.start place list is c.requires c.next_place-place.ensures.from c.next_place-place.ensures.passed c.if-place-list.false e.watching e.grown e.same e.others in
    let k = (watch_in list place).clause in
    let b = c.in-Satisfied.blocker in
    let true_by : Contains (clause_in a.arena.now k) b × Contains n.trail.literals b = subst (IsSettledAs a.arena.now n.pairs n.trail.literals a.falsified k) c.in-Satisfied.is c.in_ok-settled.ensures.settled in
    let both = visiting_kept a.arena.now a.pairs.now n.pairs a.lists.now n.lists a.trail.now n.trail a.falsified a.start place k b (watch_in list place).is_short turn (ap (λ z. (watch_in z place).clause) is) true_by.0 true_by.1 in
    record {
      watching = rw c.set_watch.ensures both.0.watching;
      grown = e.grown;
      kept = e.kept;
      visited = rw c.set_watch.ensures both;
    }
