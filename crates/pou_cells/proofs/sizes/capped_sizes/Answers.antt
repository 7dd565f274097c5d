use Rattle.std.proofs.Common.{◌≡◌, ℕ, List, length, replicate, ap, ◌∙◌}
use Rattle.naming.specs.FileScope.{pous_of}
use Rattle.decl_types.specs.Bodies.{file_in}
use Rattle.typing.specs.Reached.{reached_order}
use Rattle.typing.specs.Places.{sizes_of}
use Rattle.pou_cells.specs.Placing.{capped_along}
use Rattle.pou_cells.proofs.SizeLemmas.{capped_sizes-are}
use Rattle.pou_cells.proofs.sizes.capped_sizes.Goals as goal

pub loop-number-init : goal.loop-number-init
unfolding sizes_of
loop-number-init c =
    let f = file_in c.args.pous.now.domains in
    let ks = reached_order f in
    let numbers : c.deref-number-items.result.now ≡ ks = c.deref-number-items.ensures.value ∙ c.args.pous.now.within in
    let sizes : c.in_ok-sizes.sizes.items ≡ replicate (length (pous_of f)) 0 = c.in_ok-sizes.ensures.items_if_clones_equal (λ y h. h) ∙ ap (λ (n : ℕ). replicate n 0) c.pou_count.ensures in
    ap (capped_along f c.in_ok-sizes.sizes.items) numbers ∙ ap (λ (s : List ℕ). capped_along f s ks) sizes ∙ capped_sizes-are f (length (pous_of f)) ks
