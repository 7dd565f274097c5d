use Rattle.std.proofs.Common.{◌≡◌, subst, length, arith}
use Rattle.std.specs.Prelude.{OnOk, IfErr}
use Rattle.std.proofs.lemmas.Result.{on_ok_weaker}
use Rattle.node_core.specs.Stores.{MadeStore}
use Rattle.scan_ssa.specs.Making.{list_view, IsOver}
use Rattle.scan_ssa.specs.Trails.{store_at}
use Rattle.scan_ssa.specs.declared.fault.NodeFault.TheVariants.{TooMany}
use Rattle.scan_ssa.proofs.TrailLemmas.{keeps_none, keeps_less, keeps_undo, keeps_both}
use Rattle.scan_ssa.proofs.MergeLemmas.{sides_are}
use Rattle.scan_ssa.proofs.merging.merge.Goals as goal

pub returns-clause-store : goal.returns-clause-store
returns-clause-store c =
    let begun = store_at c.args.trail.now c.args.arm.now.mark in
    let is = sides_are c.args.places.now c.args.arm.now.condition c.deref.result.now c.args.arm.now.changes.items c.deref-2.result.now c.in_ok-otherwise.otherwise.items begun c.take_back.new.trail.store.items c.args.trail.now.store.items (list_view c.args.making.now)
    c.in_ok-otherwise.ensures.store c.deref.ensures.value c.deref-2.ensures.value c.in_ok-otherwise.ensures.changes in
    subst (λ (m : MadeStore). OnOk c.merge_sides.result (c.merge_sides.new.trail.store.items ≡ m.store)) is c.merge_sides.ensures.store

pub returns-clause-list : goal.returns-clause-list
returns-clause-list c =
    let begun = store_at c.args.trail.now c.args.arm.now.mark in
    let is = sides_are c.args.places.now c.args.arm.now.condition c.deref.result.now c.args.arm.now.changes.items c.deref-2.result.now c.in_ok-otherwise.otherwise.items begun c.take_back.new.trail.store.items c.args.trail.now.store.items (list_view c.args.making.now)
    c.in_ok-otherwise.ensures.store c.deref.ensures.value c.deref-2.ensures.value c.in_ok-otherwise.ensures.changes in
    subst (λ (m : MadeStore). OnOk c.merge_sides.result (list_view c.merge_sides.new.making ≡ m.list)) is c.merge_sides.ensures.list

pub returns-clause-too_many : goal.returns-clause-too_many
returns-clause-too_many c =
    let begun = store_at c.args.trail.now c.args.arm.now.mark in
    let is = sides_are c.args.places.now c.args.arm.now.condition c.deref.result.now c.args.arm.now.changes.items c.deref-2.result.now c.in_ok-otherwise.otherwise.items begun c.take_back.new.trail.store.items c.args.trail.now.store.items (list_view c.args.making.now)
    c.in_ok-otherwise.ensures.store c.deref.ensures.value c.deref-2.ensures.value c.in_ok-otherwise.ensures.changes in
    subst (λ (m : MadeStore). IfErr c.merge_sides.result (λ e. e ≡ TooMany → IsOver c.args.making.now.limit (length m.list.nodes))) is c.merge_sides.ensures.too_many

pub returns-clause-kept : goal.returns-clause-kept
returns-clause-kept c =
    let mark = c.args.arm.now.mark in
    let old = c.args.trail.now in
    let later = c.take_back.new.trail in
    let kept = keeps_undo mark old old later (keeps_less mark (length old.log.items) old old (omega arith) (keeps_none old)) c.in_ok-otherwise.ensures.store c.in_ok-otherwise.ensures.log in
    on_ok_weaker c.merge_sides.result (λ k. keeps_both mark (length later.log.items) old later c.merge_sides.new.trail kept.longer kept k) c.merge_sides.ensures.kept
