use Rattle.std.proofs.Common.{[], ap, ◌∙◌, map}
use Rattle.decl_types.specs.Bodies.{file_in}
use Rattle.typing.specs.Members.{ports_of}
use Rattle.pou_cells.specs.PouTables.{all_members}
use Rattle.pou_cells.proofs.TableLemmas.{ports_of_all}
use Rattle.pou_cells.proofs.pous.Pous.new.Goals as goal

pub invariant_of-result : goal.invariant_of-result
invariant_of-result c =
    let f = file_in c.in_ok-domains.domains in
    record {
      within = c.in_ok-reached.ensures;
      ordered = c.in_ok-called.ensures;
      numbered = c.in_ok-numbers.ensures;
      judged = c.in_ok-told.ensures;
      known = c.in_ok-members.ensures.members;
      given = c.in_ok-ports.ensures ∙ ap (map (λ v. ports_of v.items)) c.deref-4.ensures.value ∙ ports_of_all c.in_ok-members.members.items (all_members f []) c.in_ok-members.ensures.members;
      few = c.in_ok-members.ensures.few;
    }
