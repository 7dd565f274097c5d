use Rattle.std.proofs.Common.{◌≡◌, ◌<◌, ◌+◌, ap, ◌∙◌, arith, length, [], ◌∷◌, ◌++◌, map, drop}
use Rattle.naming.specs.FileScope.{pous_of}
use Rattle.decl_types.specs.Bodies.{file_in}
use Rattle.pou_cells.specs.Placing.{placed_in}
use Rattle.pou_cells.proofs.PlacedLemmas.{placed_items}
use Rattle.pou_cells.proofs.TableLemmas.{one_placed_more}
use Rattle.pou_cells.proofs.placed_pous.all_placed.Goals as goal

pub loop-number-preserved : goal.loop-number-preserved
loop-number-preserved c =
    let f = file_in c.args.pous.now.domains in
    let k = c.loop-number.number in
    let below : k < length (pous_of f) = omega (arith, c.loop-number-test.true, c.pou_count-number-end.ensures) in
    let items : c.push.new.self.items ≡ c.loop-number.list.items ++ c.in_ok-placed_members.field-0 ∷ [] = c.in_ok-push.ensures.items in
    ap (λ l. map placed_items l ++ map (placed_in f) (drop (k + 1) (pous_of f))) items
    ∙ one_placed_more f c.loop-number.list.items c.in_ok-placed_members.field-0 k below c.in_ok-placed_members.ensures c.loop-number.invariant
