use Rattle.std.proofs.Common.{◌≢◌, pos, ap, rules}
use Rattle.std.proofs.lemmas.Int.{quot_is}
use Rattle.std.specs.Int.{w128, cast_unsigned}
use Rattle.num_core.proofs.Quotients.{quotient_is, only_quotient}
use Rattle.num_core.proofs.division.quot.Goals as goal

pub returns-else-b-eq0-clause-divides : goal.returns-else-b-eq0-clause-divides
returns-else-b-eq0-clause-divides c =
    let some : c.args.b ≢ pos 0 = λ h. c.if-b-eq0.false (ap (cast_unsigned w128) h) in
    quotient_is c.args.a c.args.b _ some (search (rules, quot_is))

pub returns-else-b-eq0-clause-only : goal.returns-else-b-eq0-clause-only
returns-else-b-eq0-clause-only c =
    let some : c.args.b ≢ pos 0 = λ h. c.if-b-eq0.false (ap (cast_unsigned w128) h) in
    only_quotient c.args.a c.args.b _ some (search (rules, quot_is))
