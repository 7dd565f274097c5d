use Rattle.std.proofs.Common.{ap, ◌∙◌}
use Rattle.command_files.proofs.Keeping.{kept_of}
use Rattle.replay_command.proofs.command.read_all.Goals as goal

pub returns-clause-texts : goal.returns-clause-texts
returns-clause-texts g c = λ t told. record {
  three = c.in_ok-three.ensures.texts t told.three_told;
  trace = kept_of _ t.trace c.in_ok-trace.trace (ap (λ f. f c.args.trace.now) c.in_ok-three.ensures.kept ∙ told.fourth_told) c.in_ok-trace.ensures.text;
}
