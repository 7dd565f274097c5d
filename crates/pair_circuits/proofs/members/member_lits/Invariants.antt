use Rattle.std.proofs.Common.{◌≡◌, ◌++◌, drop}
use Rattle.queries.specs.Sets.{members}
use Rattle.query_formulas.specs.QueryClauses.{members_from, members_of}
use Rattle.pair_circuits.proofs.members.member_lits.Given as goal

abbrev pub invariant-loop-i : goal.invariant-loop-i
invariant-loop-i l = l.found.items ++ members_from l.i (members l.set) (drop l.i l.lits) ≡ members_of (members l.set) l.lits
