use Rattle.std.proofs.Common.{ap, ◌∙◌}
use Rattle.rules.specs.Rules.{earlier}
use Rattle.relation_lines.specs.View.{line_view}
use Rattle.candidates.specs.PairView.{old_of, new_of}
use Rattle.relation_file.proofs.FirstBrokenLemmas.{one_more_broken}
use Rattle.relation_file.proofs.broken.FirstBroken.note.Goals as goal

pub returns : goal.returns
returns c = λ end ls w.
    let kept = c.args.self.now in
    one_more_broken (old_of c.args.pair.now) (new_of c.args.pair.now) end ls (line_view c.args.line.now) kept _ w
    (c.earlier-on_lines.ensures ∙ ap (earlier kept.on_lines) (c.line_refusal.ensures w.before w.recalled))
    (c.in_ok-note.ensures w.before w.recalled)
    (c.earlier-on_types.ensures ∙ ap (earlier kept.on_types) c.in_ok-of_clause.ensures)
