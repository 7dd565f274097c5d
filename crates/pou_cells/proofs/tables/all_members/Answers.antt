use Rattle.std.proofs.Common.{◌≡◌, ◌<◌, ◌^◌, ◌+◌, ap, ◌∙◌, arith, below_more, length, [], ◌∷◌, ◌++◌, map, drop}
use Rattle.naming.specs.FileScope.{pous_of}
use Rattle.decl_types.specs.Bodies.{file_in}
use Rattle.typing.specs.Members.{members_in}
use Rattle.typing.specs.Places.{count_of_cells, variables_at}
use Rattle.pou_cells.specs.PouTables.{all_members}
use Rattle.pou_cells.proofs.TableLemmas.{one_number_more}
use Rattle.pou_cells.proofs.RoomLemmas.{few_beyond}
use Rattle.pou_cells.proofs.tables.all_members.Goals as goal

pub loop-number-preserved : goal.loop-number-preserved
loop-number-preserved c =
    let f = file_in c.args.domains.now in
    let k = c.loop-number.number in
    let below : k < length (pous_of f) = omega (arith, c.loop-number-test.true, c.pou_count-number-end.ensures) in
    let items : c.push.new.self.items ≡ c.loop-number.list.items ++ c.in_ok-members_of_pou.field-0 ∷ [] = c.in_ok-push.ensures.items in
    record {
      made =
          ap (λ l. map (λ v. v.items) l ++ map (members_in f []) (drop (k + 1) (pous_of f))) items
          ∙ one_number_more f [] c.loop-number.list.items c.in_ok-members_of_pou.field-0 k (all_members f []) below c.in_ok-members_of_pou.ensures.members c.loop-number.invariant.made;
      few = below_more (λ n. count_of_cells f [] (variables_at f n) < 2 ^ 62) k c.loop-number.invariant.few c.members_of_pou.ensures.few;
    }

pub returns-clause-few : goal.returns-clause-few
returns-clause-few c =
    let f = file_in c.args.domains.now in
    λ k. few_beyond f k c.loop-number.number (omega (arith, c.loop-number-test.false, c.pou_count-number-end.ensures)) (c.loop-number.invariant.few k)
