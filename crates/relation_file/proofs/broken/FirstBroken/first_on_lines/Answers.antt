use Rattle.std.proofs.Common.{ap, ◌∙◌}
use Rattle.rules.specs.Rules.{earlier}
use Rattle.candidates.specs.PairView.{old_of, new_of}
use Rattle.relation_file.proofs.FirstBrokenLemmas.{first_on_lines}
use Rattle.relation_file.proofs.broken.FirstBroken.first_on_lines.Goals as goal

pub returns : goal.returns
returns c = λ ls w.
    let kept = c.args.self.now in
    c.earlier.ensures ∙ ap (earlier kept.on_lines) (c.missing.ensures w.before w.recalled) ∙ first_on_lines (old_of c.args.pair.now) (new_of c.args.pair.now) c.args.end ls kept w
