use Rattle.std.proofs.Common.{◌≡◌, ◌+◌, ◌-◌}
use Rattle.scan_model.specs.Pairs.{relation_view}
use Rattle.line_trials.specs.Held.{candidates_hold}
use Rattle.line_trials.proofs.held.candidates_hold.Given as goal

abbrev pub invariant-loop-offset : goal.invariant-loop-offset
invariant-loop-offset l =
    candidates_hold (relation_view l.duo.relation) l.first l.count l.duo.pair ≡ candidates_hold (relation_view l.duo.relation) (l.first + l.offset) (l.count - l.offset) l.duo.pair
