use Rattle.std.proofs.Common.{ℕ, List, Bool, ap, ◌∙◌}
use Rattle.rules.specs.Rules.{first_in}
use Rattle.source_tree.specs.SyntaxView.{name_view}
use Rattle.scan_model.specs.declared.side.Side.TheVariants as sides
use Rattle.indexmap.specs.IndexSet.{contains_text}
use Rattle.candidates.specs.ByPath.{is_among, cell_named, found_view}
use Rattle.relation_file.specs.Inputs.{names_in, broken_at_cell}
use Rattle.candidates.specs.PairView.{old_of, new_of}
use Rattle.relation_file.proofs.inputs.name_refusal.Goals as goal

pub returns-in-Old : goal.returns-in-Old
returns-in-Old c = λ before recalls.
    let n = name_view c.args.name.now in
    let p = old_of c.args.pair.now in
    let named = c.as_str-text.ensures.value in
    let names = names_in sides.Old before in
    let again = c.contains.ensures ∙ ap (contains_text c.args.seen.now.of_old) named ∙ ap (λ (f : List ℕ → Bool). f n.text) recalls.of_old in
    let found = c.find_old.ensures ∙ ap (λ (t : List ℕ). cell_named t p.cells) named in
    let without = c.is_without_cell-without_cell.ensures ∙ ap (λ (t : List ℕ). is_among p.without_cell t) named in
    rw c.in-Old.is (c.at_cell.ensures ∙ ap (λ b. first_in (broken_at_cell b c.is_without_cell-without_cell.result n (found_view c.find_old.result))) again
    ∙ ap (λ b. first_in (broken_at_cell (is_among names n.text) b n (found_view c.find_old.result))) without ∙ ap (λ o. first_in (broken_at_cell (is_among names n.text) (is_among p.without_cell n.text) n o)) found)

pub returns-in-New : goal.returns-in-New
returns-in-New c = λ before recalls.
    let n = name_view c.args.name.now in
    let p = new_of c.args.pair.now in
    let named = c.as_str-text.ensures.value in
    let names = names_in sides.New before in
    let again = c.contains-in-New.ensures ∙ ap (contains_text c.args.seen.now.of_new) named ∙ ap (λ (f : List ℕ → Bool). f n.text) recalls.of_new in
    let found = c.find_new.ensures ∙ ap (λ (t : List ℕ). cell_named t p.cells) named in
    let without = c.is_without_cell-without_cell-in-New.ensures ∙ ap (λ (t : List ℕ). is_among p.without_cell t) named in
    rw c.in-New.is (c.at_cell-in-New.ensures ∙ ap (λ b. first_in (broken_at_cell b c.is_without_cell-without_cell-in-New.result n (found_view c.find_new.result))) again
    ∙ ap (λ b. first_in (broken_at_cell (is_among names n.text) b n (found_view c.find_new.result))) without ∙ ap (λ o. first_in (broken_at_cell (is_among names n.text) (is_among p.without_cell n.text) n o)) found)
