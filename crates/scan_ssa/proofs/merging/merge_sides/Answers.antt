use Rattle.std.proofs.Common.{◌≡◌, subst, length}
use Rattle.std.specs.Prelude.{OnOk, IfErr}
use Rattle.node_core.specs.Stores.{MadeStore}
use Rattle.scan_ssa.specs.Making.{list_view, IsOver}
use Rattle.scan_ssa.specs.declared.fault.NodeFault.TheVariants.{TooMany}
use Rattle.scan_ssa.proofs.MergeSides.{sides_end, keeps_three}
use Rattle.scan_ssa.proofs.merging.merge_sides.Goals as goal

pub returns-clause-store : goal.returns-clause-store
returns-clause-store c =
    let is = sides_end c.args.places.now c.args.condition c.args.one.now c.args.other.now c.args.trail.now.store.items c.words_under.new.trail.store.items c.words_under-2.new.trail.store.items c.in_ok-touched.touched.items
    c.deref.result.now c.deref-2.result.now c.deref-3.result.now c.in_ok-on.on.items c.deref-4.result.now c.in_ok-off.off.items c.deref-5.result.now (list_view c.args.making.now)
    c.in_ok-touched.ensures.rising c.in_ok-touched.ensures.all c.deref.ensures.value c.in_ok-on.ensures.words c.in_ok-on.ensures.store c.deref-2.ensures.value c.in_ok-off.ensures.words c.in_ok-off.ensures.store c.deref-3.ensures.value c.deref-4.ensures.value c.deref-5.ensures.value in
    subst (λ (m : MadeStore). OnOk c.merge_all.result (c.merge_all.new.trail.store.items ≡ m.store)) is c.merge_all.ensures.store

pub returns-clause-list : goal.returns-clause-list
returns-clause-list c =
    let is = sides_end c.args.places.now c.args.condition c.args.one.now c.args.other.now c.args.trail.now.store.items c.words_under.new.trail.store.items c.words_under-2.new.trail.store.items c.in_ok-touched.touched.items
    c.deref.result.now c.deref-2.result.now c.deref-3.result.now c.in_ok-on.on.items c.deref-4.result.now c.in_ok-off.off.items c.deref-5.result.now (list_view c.args.making.now)
    c.in_ok-touched.ensures.rising c.in_ok-touched.ensures.all c.deref.ensures.value c.in_ok-on.ensures.words c.in_ok-on.ensures.store c.deref-2.ensures.value c.in_ok-off.ensures.words c.in_ok-off.ensures.store c.deref-3.ensures.value c.deref-4.ensures.value c.deref-5.ensures.value in
    subst (λ (m : MadeStore). OnOk c.merge_all.result (list_view c.merge_all.new.making ≡ m.list)) is c.merge_all.ensures.list

pub returns-clause-too_many : goal.returns-clause-too_many
returns-clause-too_many c =
    let is = sides_end c.args.places.now c.args.condition c.args.one.now c.args.other.now c.args.trail.now.store.items c.words_under.new.trail.store.items c.words_under-2.new.trail.store.items c.in_ok-touched.touched.items
    c.deref.result.now c.deref-2.result.now c.deref-3.result.now c.in_ok-on.on.items c.deref-4.result.now c.in_ok-off.off.items c.deref-5.result.now (list_view c.args.making.now)
    c.in_ok-touched.ensures.rising c.in_ok-touched.ensures.all c.deref.ensures.value c.in_ok-on.ensures.words c.in_ok-on.ensures.store c.deref-2.ensures.value c.in_ok-off.ensures.words c.in_ok-off.ensures.store c.deref-3.ensures.value c.deref-4.ensures.value c.deref-5.ensures.value in
    subst (λ (m : MadeStore). IfErr c.merge_all.result (λ e. e ≡ TooMany → IsOver c.args.making.now.limit (length m.list.nodes))) is c.merge_all.ensures.too_many

pub returns-clause-kept : goal.returns-clause-kept
returns-clause-kept c = keeps_three _ _ c.merge_all.result c.args.trail.now c.words_under.new.trail c.words_under-2.new.trail c.merge_all.new.trail c.in_ok-on.ensures.kept c.in_ok-off.ensures.kept c.merge_all.ensures.kept
