use Rattle.std.proofs.Common.{◌≤◌, sym, ◌∙◌, length}
use Rattle.scan_replay.proofs.RowLemmas.{put_at-end}
use Rattle.scan_replay.proofs.states.put_all.Goals as goal

pub returns-then-i-row : goal.returns-then-i-row
returns-then-i-row c =
    let over : length c.args.row.now ≤ c.loop-i.i = c.if-i-row.true in
    sym (put_at-end c.loop-i.i _ _ _ over) ∙ c.loop-i.invariant
