use Rattle.std.proofs.Common.{sym, subst}
use Rattle.finding_lines.specs.Numbers.{IsMagnitude}
use Rattle.finding_lines.proofs.DigitLemmas.{DigitsSoFar, digits-start, digits-none, digits-nothing, digits-step, stuck-zero, stuck-large}
use Rattle.finding_lines.proofs.digits.take_magnitude.Goals as goal

pub returns-in_err-first : goal.returns-in_err-first
returns-in_err-first c = rw c.from_residual.ensures (digits-nothing c.args.bytes.now c.in_err-first.ensures.cases)

pub returns-in_err-number : goal.returns-in_err-number
returns-in_err-number c =
    rw c.from_residual-in_err-number.ensures
    (digits-none c.args.bytes.now c.in_ok-first.behind.now c.in_ok-first.first.now c.in_ok-first.ensures.cases.0 c.in_err-number.ensures)

pub digits-init : goal.digits-init
digits-init c =
    let digit = c.in_ok-number.ensures in
    digits-start c.args.bytes.now c.in_ok-first.behind.now c.in_ok-first.first.now c.in_ok-number.number c.in_ok-first.ensures.cases.0 digit.0 digit.1 digit.2

pub returns-then-number-eq0 : goal.returns-then-number-eq0
returns-then-number-eq0 c =
    stuck-zero c.args.bytes.now c.digits.rest.now c.in-Some.more.now c.digits.number c.in-Some.byte.now c.digits.invariant c.in-Some.ensures.cases.0 c.if-byte-eq32.false c.if-number-eq0.true

pub returns-in_err-number-2 : goal.returns-in_err-number-2
returns-in_err-number-2 c =
    rw c.from_residual-in_err-number-2.ensures
    (stuck-large c.args.bytes.now c.digits.rest.now c.in-Some.more.now c.digits.number c.in-Some.byte.now c.in_ok-digit.digit c.digits.invariant c.in-Some.ensures.cases.0 c.if-byte-eq32.false c.in_ok-digit.ensures.2 c.in_err-number-2.ensures)

pub digits-preserved : goal.digits-preserved
digits-preserved c =
    let digit = c.in_ok-digit.ensures in
    let more = c.in_ok-number-2.ensures in
    subst (λ n. DigitsSoFar c.args.bytes.now n c.in-Some.more.now) (sym more.0)
    (digits-step c.args.bytes.now c.digits.rest.now c.in-Some.more.now c.digits.number c.in-Some.byte.now c.in_ok-digit.digit c.digits.invariant c.in-Some.ensures.cases.0 c.if-byte-eq32.false digit.0 digit.1 digit.2 c.if-number-eq0.false (subst IsMagnitude more.0 more.1))
