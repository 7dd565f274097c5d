use Rattle.std.proofs.Common.{inr}
use Rattle.outside.specs.States.{change}
use Rattle.command_answers.proofs.EndLemmas.{complete_of}
use Rattle.replay_command.specs.Reports.{asking_to_replay}
use Rattle.replay_command.proofs.command.answer_replay.Goals as goal

pub returns-clause-ends : goal.returns-clause-ends
returns-clause-ends g c =
    let e = c.answer_files.ensures in
    record {
      kept = e.kept;
      untouched = λ _. e.kept;
      left = λ t told. tt;
      answer = e.answer;
      read_fault = e.read_fault;
      write_fault = λ is. inr (e.write_fault is);
      reads = e.reads;
      writes = e.writes;
      faults = e.faults;
    }

pub returns-clause-complete : goal.returns-clause-complete
returns-clause-complete g c =
    let k = change (g.S.Shelf.state c.args.shelf.now) (g.S.Shelf.state c.answer_files.new.shelf) in
    let asked = asking_to_replay c.args.old.now c.args.new.now c.args.relation.now c.args.trace.now in
    complete_of asked c.answer_files.result k (g.K.Sink.state c.args.out.now) (g.K.Sink.state c.answer_files.new.out) c.answer_files.ensures.answer (λ is. inr (c.answer_files.ensures.write_fault is))
