use Rattle.std.proofs.Common.{◌≡◌, length, ap, sym, ◌∙◌, subst}
use Rattle.std.proofs.lemmas.List.{length-map}
use Rattle.call_order.specs.Uses.{graph_of, order_of}
use Rattle.call_order.proofs.Orders.{none_reaches}
use Rattle.source_tree.specs.SyntaxView.{pou_view, file_view}
use Rattle.naming.specs.Circles.{uses_in, uses_of, IsBroken}
use Rattle.naming.specs.FileScope.{pous_of}
use Rattle.naming.specs.FirstOf.{IsFirstOf}
use Rattle.naming.proofs.CircleLemmas.{without_circles}
use Rattle.st_names.proofs.resolution.order_of.Goals.{then-as_slice-pous+in_ok-walk_circles, else-as_slice-pous}
use Rattle.st_names.proofs.resolution.order_of.Goals as goal

pub returns-clause-broken : goal.returns-clause-broken
returns-clause-broken c =
    let f = file_view c.args.file.now in
    let numbers : c.in_ok-numbers.numbers.items ≡ order_of (uses_of f) = c.in_ok-numbers.ensures ∙ ap (λ us. order_of (graph_of us)) c.deref.ensures.value ∙ ap order_of c.requires.uses in
    let pous : length c.args.pous.now ≡ length (pous_of f) = sym (length-map c.args.pous.now (λ p. pou_view p.now)) ∙ ap length c.requires.pous in
    elim c.if-as_slice-pous.branch [
      | then-as_slice-pous+in_ok-walk_circles w ↦ subst (IsFirstOf (IsBroken f)) (sym w.first-is) w.in_ok-walk_circles.ensures
      | else-as_slice-pous w ↦ let same : length (order_of (uses_of f)) ≡ length (uses_of f) = ap length (sym numbers) ∙ ap length (sym c.as_slice.ensures.value) ∙ w.if-as_slice-pous.false ∙ pous ∙ sym (length-map (pous_of f) (uses_in f)) in
          subst (IsFirstOf (IsBroken f)) (sym w.first-is) (without_circles f c.args.first.now c.requires.broken (none_reaches (uses_of f) same))
    ]
