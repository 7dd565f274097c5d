use Rattle.std.proofs.Common.{◌≢◌, pos, ap, rules}
use Rattle.std.proofs.lemmas.Int.{rem_is}
use Rattle.std.specs.Int.{w128, cast_unsigned}
use Rattle.num_core.proofs.Quotients.{remainder_is, only_remainder}
use Rattle.num_core.proofs.division.rem.Goals as goal

pub returns-else-b-eq0-clause-divides : goal.returns-else-b-eq0-clause-divides
returns-else-b-eq0-clause-divides c =
    let some : c.args.b ≢ pos 0 = λ h. c.if-b-eq0.false (ap (cast_unsigned w128) h) in
    remainder_is c.args.a c.args.b _ some (search (rules, rem_is))

pub returns-else-b-eq0-clause-only : goal.returns-else-b-eq0-clause-only
returns-else-b-eq0-clause-only c =
    let some : c.args.b ≢ pos 0 = λ h. c.if-b-eq0.false (ap (cast_unsigned w128) h) in
    only_remainder c.args.a c.args.b _ some (search (rules, rem_is))
