use Rattle.std.proofs.Common.{◌≡◌, ◌<◌, false, length, vec_len, sym, ap, ◌∙◌, arith}
use Rattle.std.specs.Prelude.{◌==◌}
use Rattle.std.proofs.lemmas.Bool.Decides.{nat_tests}
use Rattle.flat_core.specs.declared.flat_tree.FlatStmt.{FlatStmt}
use Rattle.flat_core.specs.FlatView.{flat_view}
use Rattle.fb_inline.specs.Leaving.{are_none}
use Rattle.fb_inline.proofs.LeavingLemmas.{some-with}
use Rattle.fb_inline.proofs.leaving.+nothing.Goals as goal

pub is_none-returns-else-is_empty : goal.is_none-returns-else-is_empty
is_none-returns-else-is_empty t c =
    let filled : (vec_len c.in-If.arms == 0) ≡ false = sym c.is_empty.ensures ∙ c.if-is_empty.false in
    let some : 0 < length c.in-If.arms.items = grind (arith, nat_tests, filled, c.in-If.arms.ok.0, c.in-If.arms.ok.1) in
    c.if-is_empty.false ∙ sym (some-with c.in-If.arms c.in-If.rest some) ∙ ap (λ (s : FlatStmt). are_none (flat_view s)) (sym c.in-If.is)
