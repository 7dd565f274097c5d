use Rattle.std.proofs.Common.{◌≡◌, ◌∙◌, ◌+◌, [], ◌∷◌, ◌++◌, List, drop, length, refl, sym, ap, subst, rules, arith}
use Rattle.std.specs.Prelude.{OnOk, IfErr}
use Rattle.std.proofs.lemmas.Result.{err_from_is_err_and, on_ok_weaker}
use Rattle.program_tree.specs.View.{expr_view}
use Rattle.flat_core.specs.declared.flat_tree.FlatStmt.TheFolds.{fold-roll-FlatStmt}
use Rattle.flat_core.specs.declared.flat_tree.FlatStmt.TheVariants.{rolls-If}
use Rattle.flat_core.specs.declared.flat_tree.FlatArm.{out-FlatArm}
use Rattle.flat_core.specs.FlatTree.{FlatStatement}
use Rattle.flat_core.specs.FlatView.{FlatArmData, flats_of, nested, flat_step, flat_arm_step, flat_view, flats_view, flat_arm_view, flat_arms_view}
use Rattle.node_core.specs.Words.{word_of}
use Rattle.node_core.specs.Stores.{MadeStore, with_fault_of, store_of_all}
use Rattle.plc_types.specs.declared.elementary.Elementary.TheVariants as types
use Rattle.scan_ssa.specs.declared.fault.NodeFault.TheVariants.{TooMany}
use Rattle.scan_ssa.specs.declared.merging.OpenArm.{OpenArm}
use Rattle.scan_ssa.specs.Making.{list_view, IsOver}
use Rattle.scan_ssa.specs.OpenArms.{opened, closed, open_views, AreMarks}
use Rattle.scan_ssa.proofs.Faults.{handed_on}
use Rattle.scan_ssa.proofs.TrailLemmas.{keeps_both}
use Rattle.scan_ssa.proofs.OpenLemmas.{behind_statement, behind_arm, one_opened, marks_below, marks_higher, marks_lower, marks_push}
use Rattle.scan_ssa.proofs.StatementLemmas.{handed_on_any, next_statements, arm_is, behind_before, behind_test, arm_opened, arm_begun, arm_kept, arms_view-drop, arms_closed, behind_rest, if_is, if_begins}
use Rattle.scan_ssa.proofs.statements.+scan.Goals as goal

-- ---- statements, one behind the other

pub run_all-returns-in_err-run_one-clause-too_many : goal.run_all-returns-in_err-run_one-clause-too_many
run_all-returns-in_err-run_one-clause-too_many t c =
    let p = err_from_is_err_and c.from_residual.result c.from_residual.ensures.1 in
    let ps = c.args.places.now in
    let s = c.loop-stmt.trail.store.items in
    let n = list_view c.loop-stmt.making in
    let x = c.stmt-item.result in
    let whole = store_of_all ps (flats_of (flats_view c.args.list.now)) c.args.trail.now.store.items (list_view c.args.making.now) in
    handed_on c.from_residual.result p.0 _ _ _ (store_of_all ps (flats_of (flat_view x)) s n).list whole.list p.1 p.2 c.loop-stmt.invariant.limit c.in_err-run_one.ensures.too_many
    (behind_statement ps c.args.list.now c.loop-stmt.stmt-index x s n whole c.loop-stmt-test.true (sym c.stmt-item.is) c.loop-stmt.invariant.rest)

pub run_all-loop-stmt-preserved : goal.run_all-loop-stmt-preserved
run_all-loop-stmt-preserved t c =
    let ps = c.args.places.now in
    let first = c.args.trail.now in
    let old = c.loop-stmt.trail in
    let whole = store_of_all ps (flats_of (flats_view c.args.list.now)) first.store.items (list_view c.args.making.now) in
    record {
      rest = next_statements ps c.args.list.now c.loop-stmt.stmt-index c.stmt-item.result old.store.items c.run_one.new.trail.store.items (list_view c.loop-stmt.making) (list_view c.run_one.new.making) whole
          c.loop-stmt-test.true (sym c.stmt-item.is) c.in_ok-run_one.ensures.store c.in_ok-run_one.ensures.list c.loop-stmt.invariant.rest;
      kept = keeps_both (length first.log.items) (length old.log.items) first old c.run_one.new.trail c.loop-stmt.invariant.kept.longer c.loop-stmt.invariant.kept c.in_ok-run_one.ensures.kept;
      limit = c.in_ok-run_one.ensures.limit ∙ c.loop-stmt.invariant.limit;
    }

-- ---- one arm

pub open_arm-returns-in_err-run_all-clause-too_many : goal.open_arm-returns-in_err-run_all-clause-too_many
open_arm-returns-in_err-run_all-clause-too_many t c =
    let p = err_from_is_err_and c.from_residual.result c.from_residual.ensures.1 in
    let ps = c.args.places.now in
    let s = c.args.trail.now.store.items in
    let n = list_view c.args.making.now in
    let a = c.args.arm.now in
    let o = out-FlatArm a in
    let listed : c.deref.result.now ≡ o.before.items = search (rules, c.deref.ensures) in
    let before = flats_view c.deref.result.now in
    handed_on c.from_residual.result p.0 _ _ _ (store_of_all ps (flats_of before) s n).list (opened ps (flat_arm_view a) s n).list p.1 p.2 refl c.in_err-run_all.ensures.too_many
    (behind_before ps (flat_arm_view a) before (flats_view o.body.items) (expr_view o.condition) s n
    (arm_is a ∙ ap (λ l. let d : FlatArmData = (flats_view l, expr_view o.condition, flats_view o.body.items) in d) (sym listed)))

pub open_arm-returns-in_err-condition-clause-too_many : goal.open_arm-returns-in_err-condition-clause-too_many
open_arm-returns-in_err-condition-clause-too_many t c =
    let p = err_from_is_err_and c.from_residual-in_err-condition.result c.from_residual-in_err-condition.ensures.1 in
    let ps = c.args.places.now in
    let s = c.args.trail.now.store.items in
    let n = list_view c.args.making.now in
    let a = c.args.arm.now in
    let o = out-FlatArm a in
    let listed : c.deref.result.now ≡ o.before.items = search (rules, c.deref.ensures) in
    let s1 = c.run_all.new.trail.store.items in
    let n1 = list_view c.run_all.new.making in
    handed_on c.from_residual-in_err-condition.result p.0 _ _ _ (word_of s1 types.Bool (expr_view o.condition) (with_fault_of s1 n1)).list (opened ps (flat_arm_view a) s n).list p.1 p.2 c.in_ok-run_all.ensures.limit c.in_err-condition.ensures.too_many
    (behind_test ps (flat_arm_view a) (flats_view c.deref.result.now) (flats_view o.body.items) (expr_view o.condition) s s1 n n1
    (arm_is a ∙ ap (λ l. let d : FlatArmData = (flats_view l, expr_view o.condition, flats_view o.body.items) in d) (sym listed)) c.in_ok-run_all.ensures.store c.in_ok-run_all.ensures.list)

pub open_arm-returns-clause-arm : goal.open_arm-returns-clause-arm
open_arm-returns-clause-arm t c =
    let a = c.args.arm.now in
    let o = out-FlatArm a in
    let listed : c.deref.result.now ≡ o.before.items = search (rules, c.deref.ensures) in
    let body : c.deref-2.result.now ≡ o.body.items = search (rules, c.deref-2.ensures) in
    arm_opened c.args.places.now (flat_arm_view a) (flats_view c.deref.result.now) (flats_view c.deref-2.result.now) (expr_view o.condition) c.args.trail.now.store.items c.run_all.new.trail.store.items (list_view c.args.making.now) (list_view c.run_all.new.making) (list_view c.test.new.making)
    c.test.new.trail c.run_all-2.new.trail c.take_back.new.trail c.in_ok-condition.condition c.len-mark.result c.in_ok-changes.changes.items
    (arm_is a ∙ ap (λ l. let d : FlatArmData = (flats_view l, expr_view o.condition, flats_view o.body.items) in d) (sym listed) ∙ ap (λ l. let d : FlatArmData = (flats_view c.deref.result.now, expr_view o.condition, flats_view l) in d) (sym body))
    c.in_ok-run_all.ensures.store c.in_ok-run_all.ensures.list c.in_ok-condition.ensures.word c.in_ok-condition.ensures.store c.in_ok-condition.ensures.list
    c.in_ok-run_all-2.ensures.store c.in_ok-run_all-2.ensures.kept (c.len-mark.ensures ∙ c.test.new.trail.log.ok.0) c.in_ok-changes.ensures.store c.in_ok-changes.ensures.log c.in_ok-changes.ensures.changes

pub open_arm-returns-clause-store : goal.open_arm-returns-clause-store
open_arm-returns-clause-store t c =
    let a = c.args.arm.now in
    let o = out-FlatArm a in
    let listed : c.deref.result.now ≡ o.before.items = search (rules, c.deref.ensures) in
    arm_begun c.args.places.now (flat_arm_view a) (flats_view c.deref.result.now) (flats_view o.body.items) (expr_view o.condition) c.args.trail.now.store.items c.run_all.new.trail.store.items (list_view c.args.making.now) (list_view c.run_all.new.making) (list_view c.test.new.making)
    c.test.new.trail c.run_all-2.new.trail c.take_back.new.trail.store.items c.in_ok-condition.condition c.len-mark.result
    (arm_is a ∙ ap (λ l. let d : FlatArmData = (flats_view l, expr_view o.condition, flats_view o.body.items) in d) (sym listed))
    c.in_ok-run_all.ensures.store c.in_ok-run_all.ensures.list c.in_ok-condition.ensures.word c.in_ok-condition.ensures.store c.in_ok-condition.ensures.list
    c.in_ok-run_all-2.ensures.kept (c.len-mark.ensures ∙ c.test.new.trail.log.ok.0) c.in_ok-changes.ensures.store

pub open_arm-returns-clause-kept : goal.open_arm-returns-clause-kept
open_arm-returns-clause-kept t c =
    arm_kept c.args.trail.now c.run_all.new.trail c.test.new.trail c.run_all-2.new.trail c.take_back.new.trail c.len-mark.result
    c.in_ok-run_all.ensures.kept c.in_ok-condition.ensures.kept c.in_ok-run_all-2.ensures.kept (c.len-mark.ensures ∙ c.test.new.trail.log.ok.0) c.in_ok-changes.ensures.store c.in_ok-changes.ensures.log

-- ---- arms

pub open_arms-returns-in_err-next-clause-too_many : goal.open_arms-returns-in_err-next-clause-too_many
open_arms-returns-in_err-next-clause-too_many t c =
    let p = err_from_is_err_and c.from_residual.result c.from_residual.ensures.1 in
    let ps = c.args.places.now in
    let s = c.loop-arm.trail.store.items in
    let n = list_view c.loop-arm.making in
    let i = c.loop-arm.arm-index in
    let arms = c.args.arms.now in
    let a = flat_arm_view c.arm-item.result in
    let ds = open_views c.loop-arm.trail c.loop-arm.sides.items in
    let left = arms_view-drop arms i c.arm-item.result c.arm-item.result c.loop-arm-test.true (sym c.arm-item.is) in
    let first = c.args.trail.now.store.items in
    let made = list_view c.args.making.now in
    handed_on_any c.from_residual.result p.0 _ _ _ (opened ps a s n).list (λ (rest : List FlatStatement). (store_of_all ps (flats_of (nested (flat_arms_view arms) rest)) first made).list) p.1 p.2 c.loop-arm.invariant.limit c.in_err-next.ensures.too_many
    (λ rest. behind_arm ps ds a (flat_arms_view (drop (i + 1) arms)) rest s n (store_of_all ps (flats_of (nested (flat_arms_view arms) rest)) first made)
    (ap (λ (l : List FlatArmData). closed ps ds (store_of_all ps (flats_of (nested l rest)) s n)) (sym left) ∙ c.loop-arm.invariant.rest rest))

pub open_arms-loop-arm-preserved : goal.open_arms-loop-arm-preserved
open_arms-loop-arm-preserved t c =
    let ps = c.args.places.now in
    let first = c.args.trail.now in
    let old = c.loop-arm.trail in
    let new = c.open_arm.new.trail in
    let low = length first.log.items in
    let high = length old.log.items in
    let n = list_view c.loop-arm.making in
    let i = c.loop-arm.arm-index in
    let arms = c.args.arms.now in
    let a = flat_arm_view c.arm-item.result in
    let os = c.loop-arm.sides.items in
    let o = c.in_ok-next.next in
    let left = arms_view-drop arms i c.arm-item.result c.arm-item.result c.loop-arm-test.true (sym c.arm-item.is) in
    let pushed : c.push.new.self.items ≡ os ++ o ∷ [] = c.in-Ok.ensures.items in
    record {
      rest = λ rest.
          let more = store_of_all ps (flats_of (nested (flat_arms_view (drop (i + 1) arms)) rest)) new.store.items (list_view c.open_arm.new.making) in
          ap (λ (all : List OpenArm). closed ps (open_views new all) more) pushed
          ∙ one_opened ps low high os o old new a (flat_arms_view (drop (i + 1) arms)) rest n (list_view c.open_arm.new.making) (store_of_all ps (flats_of (nested (flat_arms_view arms) rest)) first.store.items (list_view c.args.making.now))
          c.loop-arm.invariant.marks c.in_ok-next.ensures.kept c.in_ok-next.ensures.arm c.in_ok-next.ensures.store c.in_ok-next.ensures.list
          (ap (λ (l : List FlatArmData). closed ps (open_views old os) (store_of_all ps (flats_of (nested l rest)) old.store.items n)) (sym left) ∙ c.loop-arm.invariant.rest rest);
      marks = subst (λ (all : List OpenArm). AreMarks low all (length new.log.items)) (sym pushed) (marks_push low os o high (length new.log.items) c.loop-arm.invariant.marks c.in_ok-next.ensures.begun c.in_ok-next.ensures.ended);
      kept = keeps_both low high first old new (marks_below low os high c.loop-arm.invariant.marks) c.loop-arm.invariant.kept c.in_ok-next.ensures.kept;
      limit = c.in_ok-next.ensures.limit ∙ c.loop-arm.invariant.limit;
    }

-- ---- an IF

pub run_one-returns-in_err-sides-in-If-clause-too_many : goal.run_one-returns-in_err-sides-in-If-clause-too_many
run_one-returns-in_err-sides-in-If-clause-too_many t c =
    let p = err_from_is_err_and c.from_residual.result c.from_residual.ensures.1 in
    let ps = c.args.places.now in
    let s = c.args.trail.now.store.items in
    let n = list_view c.args.making.now in
    let listed : c.deref.result.now ≡ c.in-If.arms.items = search (rules, c.deref.ensures) in
    let is : flat_view c.args.stmt.now ≡ nested (flat_arms_view c.in-If.arms.items) (flats_view c.in-If.rest.items)
    = ap flat_view (c.in-If.is ∙ sym (rolls-If _ _)) ∙ fold-roll-FlatStmt (List FlatStatement) FlatArmData flat_step flat_arm_step _ in
    let rest = flats_view c.in-If.rest.items in
    let arms = flat_arms_view c.deref.result.now in
    handed_on c.from_residual.result p.0 _ _ _ (store_of_all ps (flats_of (nested arms rest)) s n).list (store_of_all ps (flats_of (flat_view c.args.stmt.now)) s n).list p.1 p.2 refl (λ many. c.in_err-sides-in-If.ensures.too_many many rest)
    (if_begins ps arms rest (flat_view c.args.stmt.now) s n (if_is (flat_view c.args.stmt.now) c.in-If.arms.items c.deref.result.now c.in-If.rest.items c.in-If.rest.items is listed refl))

pub run_one-returns-in_err-run_all-in-If-clause-too_many : goal.run_one-returns-in_err-run_all-in-If-clause-too_many
run_one-returns-in_err-run_all-in-If-clause-too_many t c =
    let p = err_from_is_err_and c.from_residual-in_err-run_all-in-If.result c.from_residual-in_err-run_all-in-If.ensures.1 in
    let ps = c.args.places.now in
    let s = c.args.trail.now.store.items in
    let n = list_view c.args.making.now in
    let listed : c.deref.result.now ≡ c.in-If.arms.items = search (rules, c.deref.ensures) in
    let rest : c.deref-in-If.result.now ≡ c.in-If.rest.items = search (rules, c.deref-in-If.ensures) in
    let is : flat_view c.args.stmt.now ≡ nested (flat_arms_view c.in-If.arms.items) (flats_view c.in-If.rest.items)
    = ap flat_view (c.in-If.is ∙ sym (rolls-If _ _)) ∙ fold-roll-FlatStmt (List FlatStatement) FlatArmData flat_step flat_arm_step _ in
    let arms = flat_arms_view c.deref.result.now in
    let others = flats_view c.deref-in-If.result.now in
    let r = store_of_all ps (flats_of others) c.open_arms.new.trail.store.items (list_view c.open_arms.new.making) in
    handed_on c.from_residual-in_err-run_all-in-If.result p.0 _ _ _ r.list (store_of_all ps (flats_of (flat_view c.args.stmt.now)) s n).list p.1 p.2 c.in_ok-sides-in-If.ensures.limit c.in_err-run_all-in-If.ensures.too_many
    (behind_rest ps (open_views c.open_arms.new.trail c.in_ok-sides-in-If.sides.items) arms others (flat_view c.args.stmt.now) r s n
    (if_is (flat_view c.args.stmt.now) c.in-If.arms.items c.deref.result.now c.in-If.rest.items c.deref-in-If.result.now is listed rest) (c.in_ok-sides-in-If.ensures.rest others))

pub run_one-close_arms-requires : goal.run_one-close_arms-requires
run_one-close_arms-requires t c =
    let low = length c.args.trail.now.log.items in
    let high = length c.open_arms.new.trail.log.items in
    let os = c.in_ok-sides-in-If.sides.items in
    marks_higher 0 os high (length c.run_all.new.trail.log.items) c.in_ok-run_all-in-If.ensures.kept.longer (marks_lower 0 low os high (omega arith) c.in_ok-sides-in-If.ensures.marks)

pub run_one-returns-in_ok-run_all-in-If-clause-store : goal.run_one-returns-in_ok-run_all-in-If-clause-store
run_one-returns-in_ok-run_all-in-If-clause-store t c =
    let ps = c.args.places.now in
    let s = c.args.trail.now.store.items in
    let n = list_view c.args.making.now in
    let listed : c.deref.result.now ≡ c.in-If.arms.items = search (rules, c.deref.ensures) in
    let rest : c.deref-in-If.result.now ≡ c.in-If.rest.items = search (rules, c.deref-in-If.ensures) in
    let is : flat_view c.args.stmt.now ≡ nested (flat_arms_view c.in-If.arms.items) (flats_view c.in-If.rest.items)
    = ap flat_view (c.in-If.is ∙ sym (rolls-If _ _)) ∙ fold-roll-FlatStmt (List FlatStatement) FlatArmData flat_step flat_arm_step _ in
    let others = flats_view c.deref-in-If.result.now in
    let all = arms_closed ps (length c.args.trail.now.log.items) c.in_ok-sides-in-If.sides.items c.open_arms.new.trail c.run_all.new.trail (flat_arms_view c.deref.result.now) others (flat_view c.args.stmt.now) s n (list_view c.open_arms.new.making) (list_view c.run_all.new.making)
    c.in_ok-sides-in-If.ensures.marks c.in_ok-run_all-in-If.ensures.kept (if_is (flat_view c.args.stmt.now) c.in-If.arms.items c.deref.result.now c.in-If.rest.items c.deref-in-If.result.now is listed rest)
    c.in_ok-run_all-in-If.ensures.store c.in_ok-run_all-in-If.ensures.list (c.in_ok-sides-in-If.ensures.rest others) in
    subst (λ (m : MadeStore). OnOk c.close_arms.result (c.close_arms.new.trail.store.items ≡ m.store)) all c.close_arms.ensures.store

pub run_one-returns-in_ok-run_all-in-If-clause-list : goal.run_one-returns-in_ok-run_all-in-If-clause-list
run_one-returns-in_ok-run_all-in-If-clause-list t c =
    let ps = c.args.places.now in
    let s = c.args.trail.now.store.items in
    let n = list_view c.args.making.now in
    let listed : c.deref.result.now ≡ c.in-If.arms.items = search (rules, c.deref.ensures) in
    let rest : c.deref-in-If.result.now ≡ c.in-If.rest.items = search (rules, c.deref-in-If.ensures) in
    let is : flat_view c.args.stmt.now ≡ nested (flat_arms_view c.in-If.arms.items) (flats_view c.in-If.rest.items)
    = ap flat_view (c.in-If.is ∙ sym (rolls-If _ _)) ∙ fold-roll-FlatStmt (List FlatStatement) FlatArmData flat_step flat_arm_step _ in
    let others = flats_view c.deref-in-If.result.now in
    let all = arms_closed ps (length c.args.trail.now.log.items) c.in_ok-sides-in-If.sides.items c.open_arms.new.trail c.run_all.new.trail (flat_arms_view c.deref.result.now) others (flat_view c.args.stmt.now) s n (list_view c.open_arms.new.making) (list_view c.run_all.new.making)
    c.in_ok-sides-in-If.ensures.marks c.in_ok-run_all-in-If.ensures.kept (if_is (flat_view c.args.stmt.now) c.in-If.arms.items c.deref.result.now c.in-If.rest.items c.deref-in-If.result.now is listed rest)
    c.in_ok-run_all-in-If.ensures.store c.in_ok-run_all-in-If.ensures.list (c.in_ok-sides-in-If.ensures.rest others) in
    subst (λ (m : MadeStore). OnOk c.close_arms.result (list_view c.close_arms.new.making ≡ m.list)) all c.close_arms.ensures.list

pub run_one-returns-in_ok-run_all-in-If-clause-kept : goal.run_one-returns-in_ok-run_all-in-If-clause-kept
run_one-returns-in_ok-run_all-in-If-clause-kept t c =
    let first = c.args.trail.now in
    let low = length first.log.items in
    let opening = c.open_arms.new.trail in
    let later = c.run_all.new.trail in
    let high = length opening.log.items in
    let os = c.in_ok-sides-in-If.sides.items in
    let both = keeps_both low high first opening later c.in_ok-sides-in-If.ensures.kept.longer c.in_ok-sides-in-If.ensures.kept c.in_ok-run_all-in-If.ensures.kept in
    let marks = marks_higher low os high (length later.log.items) c.in_ok-run_all-in-If.ensures.kept.longer c.in_ok-sides-in-If.ensures.marks in
    on_ok_weaker c.close_arms.result (λ k. keeps_both low low first later c.close_arms.new.trail (omega arith) both (k low marks)) c.close_arms.ensures.kept

pub run_one-returns-in_ok-run_all-in-If-clause-too_many : goal.run_one-returns-in_ok-run_all-in-If-clause-too_many
run_one-returns-in_ok-run_all-in-If-clause-too_many t c =
    let ps = c.args.places.now in
    let s = c.args.trail.now.store.items in
    let n = list_view c.args.making.now in
    let listed : c.deref.result.now ≡ c.in-If.arms.items = search (rules, c.deref.ensures) in
    let rest : c.deref-in-If.result.now ≡ c.in-If.rest.items = search (rules, c.deref-in-If.ensures) in
    let is : flat_view c.args.stmt.now ≡ nested (flat_arms_view c.in-If.arms.items) (flats_view c.in-If.rest.items)
    = ap flat_view (c.in-If.is ∙ sym (rolls-If _ _)) ∙ fold-roll-FlatStmt (List FlatStatement) FlatArmData flat_step flat_arm_step _ in
    let others = flats_view c.deref-in-If.result.now in
    let all = arms_closed ps (length c.args.trail.now.log.items) c.in_ok-sides-in-If.sides.items c.open_arms.new.trail c.run_all.new.trail (flat_arms_view c.deref.result.now) others (flat_view c.args.stmt.now) s n (list_view c.open_arms.new.making) (list_view c.run_all.new.making)
    c.in_ok-sides-in-If.ensures.marks c.in_ok-run_all-in-If.ensures.kept (if_is (flat_view c.args.stmt.now) c.in-If.arms.items c.deref.result.now c.in-If.rest.items c.deref-in-If.result.now is listed rest)
    c.in_ok-run_all-in-If.ensures.store c.in_ok-run_all-in-If.ensures.list (c.in_ok-sides-in-If.ensures.rest others) in
    subst (λ (m : MadeStore). IfErr c.close_arms.result (λ e. e ≡ TooMany → IsOver c.args.making.now.limit (length m.list.nodes))) all
    (subst (λ limit. IfErr c.close_arms.result (λ e. e ≡ TooMany → IsOver limit (length (closed ps (open_views c.run_all.new.trail c.in_ok-sides-in-If.sides.items) (record { store = c.run_all.new.trail.store.items; list = list_view c.run_all.new.making })).list.nodes)))
    (c.in_ok-run_all-in-If.ensures.limit ∙ c.in_ok-sides-in-If.ensures.limit) c.close_arms.ensures.too_many)
