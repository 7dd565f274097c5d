use Rattle.outside.specs.States.{change}
use Rattle.command_answers.proofs.EndLemmas.{by_either, complete_of}
use Rattle.gen_command.specs.Reports.{asking_to_generate}
use Rattle.gen_command.proofs.Shown.{saved_of}
use Rattle.gen_command.proofs.command.answer_gen.Goals as goal

pub returns-clause-ends : goal.returns-clause-ends
returns-clause-ends g c =
    let e = c.answer_count.ensures in
    record {
      kept = e.others;
      untouched = by_either (λ is. absurd (e.read_fault is)) (λ is. absurd (e.usage is));
      left = λ t told. e.left;
      answer = λ t told. e.answer;
      read_fault = e.read_fault;
      write_fault = e.write_fault;
      reads = e.reads;
      writes = e.writes;
      faults = e.faults;
    }

pub returns-clause-saved : goal.returns-clause-saved
returns-clause-saved g c = λ is.
    let k = change (g.S.Shelf.state c.args.shelf.now) (g.S.Shelf.state c.answer_count.new.shelf) in
    saved_of c.args.count k c.answer_count.result _ _ is ⊥ c.answer_count.ensures.answer

pub returns-clause-complete : goal.returns-clause-complete
returns-clause-complete g c =
    let k = change (g.S.Shelf.state c.args.shelf.now) (g.S.Shelf.state c.answer_count.new.shelf) in
    complete_of (asking_to_generate c.args.count) c.answer_count.result k (g.K.Sink.state c.args.out.now) (g.K.Sink.state c.answer_count.new.out)
    (λ t told. c.answer_count.ensures.answer) c.answer_count.ensures.write_fault
