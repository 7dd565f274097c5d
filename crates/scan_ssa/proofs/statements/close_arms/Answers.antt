use Rattle.std.proofs.Common.{◌++◌, ◌∷◌, [], ◌∙◌, List, length, refl, sym, ap, subst}
use Rattle.std.proofs.lemmas.Result.{err_from_is_err_and}
use Rattle.node_core.specs.Stores.{MadeStore}
use Rattle.scan_ssa.specs.declared.merging.OpenArm.{OpenArm}
use Rattle.scan_ssa.specs.Making.{list_view}
use Rattle.scan_ssa.specs.Trails.{Keeps}
use Rattle.scan_ssa.specs.OpenArms.{open_view, open_views, AreMarks, closed}
use Rattle.scan_ssa.proofs.Faults.{handed_on}
use Rattle.scan_ssa.proofs.OpenLemmas.{made_store, marks_begin, marks_next, marks_pop, one_closed, behind_closed}
use Rattle.scan_ssa.proofs.statements.close_arms.Goals as goal

pub loop-arm-init : goal.loop-arm-init
loop-arm-init c = record {
  marks = c.requires;
  kept = λ low are. marks_begin low c.args.sides.items c.args.trail.now are;
  rest = refl;
  limit = refl;
}

pub merge-requires : goal.merge-requires
merge-requires c =
    let high = length c.loop-arm.trail.log.items in
    (marks_pop 0 c.pop.new.self.items c.in-Some.arm high (subst (λ (os : List OpenArm). AreMarks 0 os high) c.in-Some.ensures.items c.loop-arm.invariant.marks)).1

pub returns-in_err-merge-clause-too_many : goal.returns-in_err-merge-clause-too_many
returns-in_err-merge-clause-too_many c =
    let p = err_from_is_err_and c.from_residual.result c.from_residual.ensures.1 in
    let ps = c.args.places.now in
    let o = c.in-Some.arm in
    let here : MadeStore = record { store = c.loop-arm.trail.store.items; list = list_view c.loop-arm.making } in
    let whole = closed ps (open_views c.args.trail.now c.args.sides.items) (record { store = c.args.trail.now.store.items; list = list_view c.args.making.now }) in
    handed_on c.from_residual.result p.0 _ _ _ (closed ps (open_view c.loop-arm.trail o ∷ []) here).list whole.list p.1 p.2 c.loop-arm.invariant.limit c.in_err-merge.ensures.too_many
    (behind_closed ps c.pop.new.self.items o c.loop-arm.trail here whole
    (ap (λ (os : List OpenArm). closed ps (open_views c.loop-arm.trail os) here) (sym c.in-Some.ensures.items) ∙ c.loop-arm.invariant.rest))

pub loop-arm-preserved : goal.loop-arm-preserved
loop-arm-preserved c =
    let ps = c.args.places.now in
    let os = c.pop.new.self.items in
    let o = c.in-Some.arm in
    let old = c.loop-arm.trail in
    let new = c.merge.new.trail in
    let high = length old.log.items in
    let here : MadeStore = record { store = old.store.items; list = list_view c.loop-arm.making } in
    let later : MadeStore = record { store = new.store.items; list = list_view c.merge.new.making } in
    let whole = closed ps (open_views c.args.trail.now c.args.sides.items) (record { store = c.args.trail.now.store.items; list = list_view c.args.making.now }) in
    let marks : AreMarks 0 (os ++ o ∷ []) high = subst (λ (all : List OpenArm). AreMarks 0 all high) c.in-Some.ensures.items c.loop-arm.invariant.marks in
    let kept : Keeps o.mark old new = c.in_ok-merge.ensures.kept in
    record {
      marks = (marks_next 0 os o old old new (marks_begin 0 (os ++ o ∷ []) old marks) kept).0;
      kept = λ low are. marks_next low os o c.args.trail.now old new
          (subst (λ (all : List OpenArm). AreMarks low all high × Keeps low c.args.trail.now old) c.in-Some.ensures.items (c.loop-arm.invariant.kept low are)) kept;
      rest = one_closed ps 0 high os o old new here later whole marks kept
          (made_store new.store.items (list_view c.merge.new.making) (closed ps (open_view old o ∷ []) here) c.in_ok-merge.ensures.store c.in_ok-merge.ensures.list)
          (ap (λ (all : List OpenArm). closed ps (open_views old all) here) (sym c.in-Some.ensures.items) ∙ c.loop-arm.invariant.rest);
      limit = c.in_ok-merge.ensures.limit ∙ c.loop-arm.invariant.limit;
    }
