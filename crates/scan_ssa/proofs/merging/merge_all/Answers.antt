use Rattle.std.proofs.Common.{suc, subst, drop, arith, None}
use Rattle.std.specs.Prelude.{slice_index_or}
use Rattle.std.proofs.lemmas.Result.{err_from_is_err_and}
use Rattle.program_tree.specs.Places.{place_at}
use Rattle.node_core.specs.Stores.{MadeStore, merged_word}
use Rattle.node_core.proofs.Growth.{Grows}
use Rattle.scan_ssa.specs.Making.{list_view}
use Rattle.scan_ssa.specs.Merging.{merge_all}
use Rattle.scan_ssa.proofs.Faults.{handed_on}
use Rattle.scan_ssa.proofs.MergeLemmas.{behind_one, first_left, front_left}
use Rattle.scan_ssa.proofs.merging.merge_all.Goals as goal

pub returns-in_err-merge_one-clause-too_many : goal.returns-in_err-merge_one-clause-too_many
returns-in_err-merge_one-clause-too_many c =
    let p = err_from_is_err_and c.from_residual.result c.from_residual.ensures.1 in
    let i = c.loop-i.i in
    let ps = c.args.places.now in
    let place = slice_index_or c.args.touched.now i 0 in
    let a = slice_index_or c.args.on.now i 0 in
    let b = slice_index_or c.args.off.now i 0 in
    let store = c.loop-i.trail.store.items in
    let n = list_view c.loop-i.making in
    let first = (merged_word (place_at ps place) c.args.condition (slice_index_or store place None) a b n).1 in
    let whole = merge_all ps c.args.condition c.args.touched.now c.args.on.now c.args.off.now c.args.trail.now.store.items (list_view c.args.making.now) in
    handed_on c.from_residual.result p.0 _ _ _ first whole.list p.1 p.2 c.loop-i.invariant.limit c.in_err-merge_one.ensures.too_many
    (subst (λ (m : MadeStore). Grows first m.list) c.loop-i.invariant.rest
    (behind_one ps c.args.condition place a b (drop (suc i) c.args.touched.now) (drop i c.args.touched.now) (drop i c.args.on.now) (drop i c.args.off.now) store n
    (front_left c.args.touched.now i (omega arith)) (first_left c.args.on.now i) (first_left c.args.off.now i)))
