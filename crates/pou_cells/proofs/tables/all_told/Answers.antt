use Rattle.std.proofs.Common.{◌≡◌, ◌<◌, ◌+◌, ap, ◌∙◌, arith, length, [], ◌∷◌, ◌++◌, map, drop}
use Rattle.naming.specs.FileScope.{pous_of}
use Rattle.naming.specs.Scopes.{variables_in_pou}
use Rattle.decl_types.specs.Bodies.{file_in}
use Rattle.decl_types.specs.Told.{told_in}
use Rattle.decl_types.specs.ToldView.{told_view}
use Rattle.pou_cells.proofs.TableLemmas.{one_told_more}
use Rattle.pou_cells.proofs.tables.all_told.Goals as goal

pub loop-number-preserved : goal.loop-number-preserved
loop-number-preserved c =
    let f = file_in c.args.domains.now in
    let k = c.loop-number.number in
    let below : k < length (pous_of f) = omega (arith, c.loop-number-test.true, c.pou_count-number-end.ensures) in
    let items : c.push.new.self.items ≡ c.loop-number.list.items ++ c.in_ok-told_pou.field-0 ∷ [] = c.in_ok-push.ensures.items in
    ap (λ l. map (λ v. map told_view v.items) l ++ map (λ p. told_in f (variables_in_pou p)) (drop (k + 1) (pous_of f))) items
    ∙ one_told_more f c.loop-number.list.items c.in_ok-told_pou.field-0 k below c.in_ok-told_pou.ensures c.loop-number.invariant
