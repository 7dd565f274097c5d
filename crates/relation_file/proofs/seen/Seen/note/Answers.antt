use Rattle.scan_model.specs.declared.side.Side.TheVariants as sides
use Rattle.relation_file.specs.Inputs.{names_in}
use Rattle.relation_file.proofs.seen.Seen.note.Goals as goal

pub returns : goal.returns
returns c = λ before recalls. record {
  ranks = c.with-self.ensures before recalls.ranks;
  of_old = c.in_ok-list_line.ensures (names_in sides.Old before) recalls.of_old;
  of_new = c.in_ok-list_line-2.ensures (names_in sides.New before) recalls.of_new;
}
