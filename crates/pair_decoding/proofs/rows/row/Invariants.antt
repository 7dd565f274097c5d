use Rattle.std.proofs.Common.{◌≡◌, ◌++◌, drop}
use Rattle.pair_decoding.proofs.rows.row.Given as goal

abbrev pub invariant-loop-number : goal.invariant-loop-number
invariant-loop-number l = l.row ++ drop l.number-index l.number-items ≡ l.number-items
