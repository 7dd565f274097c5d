use Rattle.std.proofs.Common.{◌≡◌, ◌+◌, false, Some, option_map, List, length, IsTrue, refl, ap, sym, ◌∙◌, subst, arith, ℕ, Vec, Global}
use Rattle.std.specs.List.{slice_get}
use Rattle.std.proofs.lemmas.List.{length-map}
use Rattle.std.proofs.lemmas.Option.{slice_get_read, slice_get-map}
use Rattle.call_order.specs.Uses.{graph_of, HasCircles, Reaches}
use Rattle.rules.specs.Rules.{earlier}
use Rattle.source_tree.specs.SyntaxView.{pou_view, file_view}
use Rattle.naming.specs.Broken.{circular}
use Rattle.naming.specs.FileScope.{pous_of, pou_at}
use Rattle.naming.proofs.CircleLemmas.{AreCircles, no_circles, more_circles, same_circles, all_circles, mark_of}
use Rattle.rules.proofs.Outcomes.{outcome_first}
use Rattle.st_names.proofs.circles.walk_circles.Goals.{then-is_in_circle, else-is_in_circle}
use Rattle.st_names.proofs.circles.walk_circles.Goals as goal

pub loop-number-init : goal.loop-number-init
loop-number-init c = no_circles (file_view c.args.file.now) c.args.first.now c.requires.broken

pub loop-number-preserved : goal.loop-number-preserved
loop-number-preserved c =
    let f = file_view c.args.file.now in
    let ps = c.args.pous.now in
    let number = c.loop-number.number in
    let x = c.index-pous-number.result in
    let p = pou_view x.now in
    let read : slice_get ps number ≡ Some x = slice_get_read ps (length ps) number x refl (omega arith) c.index-pous-number.is in
    let there : pou_at f number ≡ Some p = ap (λ qs. slice_get qs number) (sym c.requires.pous) ∙ slice_get-map (λ q. pou_view q.now) ps number ∙ ap (option_map (λ q. pou_view q.now)) read in
    let mark = mark_of f number p c.args.judged.now.wholes.items c.requires.wholes there in
    let g = graph_of c.args.judged.now.uses.items in
    let has : HasCircles g (graph_of c.deref-in-loop-number.result.now) =
    subst (λ (vs : List (Vec ℕ Global)). HasCircles g (graph_of vs)) (sym c.deref-in-loop-number.ensures.value)
    (subst (λ (vs : List (Vec ℕ Global)). HasCircles (graph_of vs) (graph_of c.in_ok-circles.circles.items)) c.deref.ensures.value c.in_ok-circles.ensures) in
    let found = c.is_in_circle.ensures g has in
    let known = c.loop-number.invariant in
    elim c.if-is_in_circle.branch [
      | then-is_in_circle w ↦ let both = found.0 (subst IsTrue (sym w.if-is_in_circle.true) refl) in
          more_circles f number p c.loop-number.first c.if-is_in_circle.first known there (subst IsTrue mark both.0) (subst (λ g. Reaches g number number) c.requires.uses both.1)
          (w.first-is ∙ w.earlier.ensures ∙ ap (earlier c.loop-number.first) (outcome_first (circular p.name) w.circular.result w.circular.ensures))
      | else-is_in_circle w ↦ subst (AreCircles f (number + 1)) (sym w.first-is)
          (same_circles f number p c.loop-number.first known there
          (λ h. let does = found.1 (subst IsTrue (sym mark) h.0, subst (λ g. Reaches g number number) (sym c.requires.uses) h.1) in
          let never : IsTrue false = subst IsTrue w.if-is_in_circle.false does in
          let e : ⊥ = cc in e))
    ]

pub returns : goal.returns
returns c =
    let f = file_view c.args.file.now in
    let same : length (pous_of f) ≡ length c.args.pous.now = ap length (sym c.requires.pous) ∙ length-map c.args.pous.now (λ q. pou_view q.now) in
    all_circles f c.loop-number.number c.loop-number.first c.loop-number.invariant (omega arith)
