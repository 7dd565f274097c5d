use Rattle.std.proofs.Common.{◌^◌, ◌*◌, ◌+◌, drop, unwrap_or, false, ap, arith}
use Rattle.std.proofs.lemmas.Grind.{common_steps}
use Rattle.std.proofs.lemmas.Bool.Decides.{nat_tests}
use Rattle.st_lexer.proofs.Digits.{cut, cut_digits, digits_step, digits_end, based_is}
use Rattle.st_lexer.proofs.numbers.digits.Goals as goal
use Rattle.st_lexer.proofs.numbers.digits.Goals.{then-b-eq95+else-needed, else-b-eq95+else-digit-base}

pub loop-b-init : goal.loop-b-init
loop-b-init c = record { small = omega arith; same = ap (cut (2 ^ 64)) (based_is c.args.base c.args.text.now c.requires.high) }

pub returns-then-needed : goal.returns-then-needed
returns-then-needed c =
    let s = digits_step c.args.base (unwrap_or c.loop-b.value (2 ^ 64)) c.loop-b.needed c.args.text.now c.loop-b.b-index (omega arith) in
    grind (arith, common_steps, nat_tests)

pub returns-then-digit-base : goal.returns-then-digit-base
returns-then-digit-base c =
    let s = digits_step c.args.base (unwrap_or c.loop-b.value (2 ^ 64)) c.loop-b.needed c.args.text.now c.loop-b.b-index (omega arith) in
    grind (arith, common_steps, nat_tests)

pub loop-b-preserved : goal.loop-b-preserved
loop-b-preserved c =
    let s = digits_step c.args.base (unwrap_or c.loop-b.value (2 ^ 64)) c.loop-b.needed c.args.text.now c.loop-b.b-index (omega arith) in
    let inv = c.loop-b.invariant in
    elim c.if-b-eq95.branch [
      | then-b-eq95+else-needed w ↦ record { small = rw w.value-is inv.small; same = grind (arith, common_steps, nat_tests) }
      | else-b-eq95+else-digit-base w ↦ (
          let cuts = cut_digits (2 ^ 64) c.args.base (unwrap_or c.loop-b.value (2 ^ 64) * c.args.base + w.digit-digit.result) false (drop (c.loop-b.b-index + 1) c.args.text.now) (omega arith) in
          record { small = rw (w.value-is, w.with_digit-value.ensures) (omega arith); same = grind (arith, common_steps, nat_tests) })
    ]

pub returns-then-needed-2 : goal.returns-then-needed-2
returns-then-needed-2 c =
    let s = digits_end c.args.base (unwrap_or c.loop-b.value (2 ^ 64)) c.loop-b.needed c.args.text.now c.loop-b.b-index (omega arith) in
    grind (arith, common_steps, nat_tests)

pub returns-else-needed-2 : goal.returns-else-needed-2
returns-else-needed-2 c =
    let s = digits_end c.args.base (unwrap_or c.loop-b.value (2 ^ 64)) c.loop-b.needed c.args.text.now c.loop-b.b-index (omega arith) in
    grind (arith, common_steps, nat_tests)
