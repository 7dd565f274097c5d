use Rattle.candidates.specs.PairView.{old_of, new_of}
use Rattle.relation_file.proofs.FirstBrokenLemmas.{first_on_types, first_some, none_on_lines, none_on_types}
use Rattle.relation_file.proofs.broken.FirstBroken.first.Goals as goal

pub returns-clause-some : goal.returns-clause-some
returns-clause-some c = λ ls w.
    let old = old_of c.args.pair.now in
    let new = new_of c.args.pair.now in
    let kept = c.args.self.now in
    first_some old new c.args.end ls c.or.result c.first_on_lines.result kept.on_types c.or.ensures (c.first_on_lines.ensures ls w) (first_on_types old new c.args.end ls kept w)

pub returns-clause-sound : goal.returns-clause-sound
returns-clause-sound c = λ ls w.
    none_on_lines (old_of c.args.pair.now) (new_of c.args.pair.now) c.args.end ls c.or.result c.first_on_lines.result c.args.self.now.on_types c.or.ensures (c.first_on_lines.ensures ls w)

pub returns-clause-typing : goal.returns-clause-typing
returns-clause-typing c = λ ls w.
    let old = old_of c.args.pair.now in
    let new = new_of c.args.pair.now in
    let kept = c.args.self.now in
    none_on_types old new c.args.end ls c.or.result c.first_on_lines.result kept.on_types c.or.ensures (first_on_types old new c.args.end ls kept w)
