use Rattle.text_doors.proofs.relation.compared.Goals as goal

pub returns : goal.returns
returns c = record {
  comparable = record {
    old_is_program = c.in_ok-old.ensures.fit;
    new_is_program = c.in_ok-new.ensures.fit;
    belongs = c.in_ok-relation.ensures.belongs;
  };
}
