use Rattle.std.proofs.Common.{Bool, ◌≡◌, ℕ, ◌<◌, length, subst, sym, List, [], ◌∷◌, ◌++◌, ◌∙◌, get_or, reverse, arith, ap, Vec, Global}
use Rattle.std.proofs.lemmas.List.{map-append, reverse-reverse}
use Rattle.call_order.specs.Marks.{is_marked}
use Rattle.program_tree.specs.declared.typed.Called.{Called}
use Rattle.program_tree.specs.declared.typed.TypedStmt.{TypedStmt}
use Rattle.program_tree.specs.View.{called_view, all_called_view}
use Rattle.decl_types.specs.Bodies.{file_in}
use Rattle.running_pous.specs.Bodies.{bodies_view, running_body}
use Rattle.running_pous.specs.Stated.{stated_if, stated_from}
use Rattle.running_pous.proofs.StatedLemmas.{next-body, some-body, stated-next}
use Rattle.st_types.proofs.called.stated_from.Goals as goal

pub loop-place-init : goal.loop-place-init
loop-place-init c = record {
  left = ap (λ (bs : List (Vec TypedStmt Global)). bodies_view (reverse bs)) c.reverse.ensures.items ∙ ap bodies_view (reverse-reverse c.args.bodies.items) ∙ c.requires;
  made = ap (λ (cs : List Called). all_called_view cs ++ stated_from (file_in c.args.placed.now.pous.domains) (is_marked c.args.marks.now) 0 c.args.placed.now.pous.called.items) c.new-list.ensures.items;
}

pub unreachable-requires : goal.unreachable-requires
unreachable-requires c =
    let below = subst (λ (ks : List ℕ). c.loop-place.place < length ks) c.deref-number-items.ensures.value c.loop-place-test.true in
    some-body (file_in c.args.placed.now.pous.domains) (is_marked c.args.marks.now) c.args.placed.now.pous.called.items c.loop-place.place c.loop-place.left.items c.loop-place.invariant.left below
    (let o = c.loop-place.left.ok in let n = c.in_default.ensures.cases in omega arith)

pub stated_if-requires : goal.stated_if-requires
stated_if-requires c =
    let f = file_in c.args.placed.now.pous.domains in
    let place = c.loop-place.place in
    let runs = is_marked c.args.marks.now in
    let same = c.deref-number-items.ensures.value in
    let below = subst (λ (ks : List ℕ). place < length ks) same c.loop-place-test.true in
    let next = next-body f runs c.args.placed.now.pous.called.items place c.loop-place.left.items c.pop.new.self.items c.in-Some.body c.in-Some.ensures.items c.loop-place.invariant.left below in
    next.0 ∙ ap (λ (b : Bool). running_body f (get_or c.args.placed.now.pous.called.items place 0) b) (sym c.is_marked-runs.ensures)
    ∙ ap (λ (ks : List ℕ). running_body f (get_or ks place 0) c.is_marked-runs.result) (sym same)

pub loop-place-preserved : goal.loop-place-preserved
loop-place-preserved c =
    let f = file_in c.args.placed.now.pous.domains in
    let ks = c.args.placed.now.pous.called.items in
    let place = c.loop-place.place in
    let called = c.in_ok-called.called in
    let same = c.deref-number-items.ensures.value in
    let below = subst (λ (ks : List ℕ). place < length ks) same c.loop-place-test.true in
    let next = next-body f (is_marked c.args.marks.now) ks place c.loop-place.left.items c.pop.new.self.items c.in-Some.body c.in-Some.ensures.items c.loop-place.invariant.left below in
    let stated : called_view called ≡ stated_if f (get_or ks place 0) (is_marked c.args.marks.now place) =
    c.in_ok-called.ensures ∙ ap (stated_if f (get_or c.deref-number-items.result.now place 0)) c.is_marked-runs.ensures
    ∙ ap (λ (ks : List ℕ). stated_if f (get_or ks place 0) (is_marked c.args.marks.now place)) same in
    record {
      left = next.1;
      made = stated-next f (is_marked c.args.marks.now) ks place (all_called_view c.loop-place.list.items) (all_called_view c.push.new.self.items) (called_view called) below
          (ap all_called_view c.in_ok-push.ensures.items ∙ map-append called_view c.loop-place.list.items (called ∷ [])) stated
          ∙ c.loop-place.invariant.made;
    }
