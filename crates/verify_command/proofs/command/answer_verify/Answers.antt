use Rattle.outside.specs.States.{change}
use Rattle.command_answers.proofs.EndLemmas.{by_either, complete_of}
use Rattle.verify_command.specs.Reports.{asking_to_verify}
use Rattle.verify_command.proofs.Answering.{saved_of}
use Rattle.verify_command.proofs.command.answer_verify.Goals as goal

pub returns-clause-ends : goal.returns-clause-ends
returns-clause-ends g c =
    let e = c.answer_files.ensures in
    record {
      kept = e.others;
      untouched = by_either e.unread (λ is. absurd (e.usage is));
      left = e.left;
      answer = e.answer;
      read_fault = e.read_fault;
      write_fault = e.write_fault;
      reads = e.reads;
      writes = e.writes;
      faults = e.faults;
    }

pub returns-clause-saved : goal.returns-clause-saved
returns-clause-saved g c = λ t told is.
    let k = change (g.S.Shelf.state c.args.shelf.now) (g.S.Shelf.state c.answer_files.new.shelf) in
    let asked = asking_to_verify c.args.old.now c.args.new.now c.args.relation.now c.args.finding.now in
    saved_of t k c.args.finding.now (asked.ReadRose k) c.answer_files.result _ _ is (c.answer_files.ensures.answer t told)

pub returns-clause-complete : goal.returns-clause-complete
returns-clause-complete g c =
    let k = change (g.S.Shelf.state c.args.shelf.now) (g.S.Shelf.state c.answer_files.new.shelf) in
    let asked = asking_to_verify c.args.old.now c.args.new.now c.args.relation.now c.args.finding.now in
    complete_of asked c.answer_files.result k (g.K.Sink.state c.args.out.now) (g.K.Sink.state c.answer_files.new.out) c.answer_files.ensures.answer c.answer_files.ensures.write_fault
