use Rattle.std.proofs.Common.{inr, subst}
use Rattle.outside.specs.States.{change}
use Rattle.command_answers.specs.Answers.{Answers}
use Rattle.command_answers.proofs.EndLemmas.{complete_of}
use Rattle.finding_commands.specs.Checks.{asking_to_check}
use Rattle.finding_commands.proofs.CheckAnswers.{exact_shown}
use Rattle.finding_commands.proofs.check.answer_check.Goals as goal

pub returns-clause-ends : goal.returns-clause-ends
returns-clause-ends g c =
    let e = c.answer_on_finding.ensures in
    record {
      kept = e.kept;
      untouched = λ _. e.kept;
      left = λ t told. tt;
      answer = e.answer;
      read_fault = e.read_fault;
      write_fault = λ is. inr (e.write_fault is);
      reads = e.reads;
      writes = e.writes;
      faults = e.faults;
    }

pub returns-clause-shown : goal.returns-clause-shown
returns-clause-shown g c = λ t told valid.
    let k = change (g.S.Shelf.state c.args.shelf.now) (g.S.Shelf.state c.answer_on_finding.new.shelf) in
    let asked = asking_to_check c.args.old.now c.args.new.now c.args.relation.now c.args.finding.now in
    exact_shown t _ _ (subst (λ s. Answers (asked.Reports k t) (asked.ReadRose k) s (g.K.Sink.state c.args.out.now).taken (g.K.Sink.state c.answer_on_finding.new.out).taken) valid (c.answer_on_finding.ensures.answer t told))

pub returns-clause-complete : goal.returns-clause-complete
returns-clause-complete g c =
    let k = change (g.S.Shelf.state c.args.shelf.now) (g.S.Shelf.state c.answer_on_finding.new.shelf) in
    let asked = asking_to_check c.args.old.now c.args.new.now c.args.relation.now c.args.finding.now in
    complete_of asked c.answer_on_finding.result k (g.K.Sink.state c.args.out.now) (g.K.Sink.state c.answer_on_finding.new.out) c.answer_on_finding.ensures.answer (λ is. inr (c.answer_on_finding.ensures.write_fault is))
