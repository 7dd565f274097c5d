use Rattle.std.proofs.Common.{◌∙◌, ap, sym, length, arith}
use Rattle.std.proofs.lemmas.Bool.{false≢true}
use Rattle.finding_lines.specs.Form.{rises_from, all_positive}
use Rattle.finding_lines.proofs.ReadLemmas.{derived-literals, derived-hints, derived-taken, some-left}
use Rattle.finding_lines.proofs.rows.read_derived.Goals as goal

pub returns-in_default-2 : goal.returns-in_default-2
returns-in_default-2 c =
    derived-literals c.args.bytes.now c.in-Some.rest.now c.in-Some.ensures (rw c.in_default-2.is at c.in_ok-literals.ensures)

pub returns-in_default-3 : goal.returns-in_default-3
returns-in_default-3 c =
    derived-hints c.args.bytes.now c.in-Some.rest.now c.in-Some-2.rest.now c.in-Some-2.literals c.in-Some.ensures
    (rw c.in-Some-2.is at c.in_ok-literals.ensures) (rw c.in_default-3.is at c.in_ok-hints.ensures)

pub returns-then-not-is_empty : goal.returns-then-not-is_empty
returns-then-not-is_empty c ls hs gl gh rises positive e =
    let all = derived-taken c.args.bytes.now c.in-Some.rest.now c.in-Some-2.rest.now c.in-Some-3.rest.now c.in-Some-2.literals c.in-Some-3.hints c.in-Some.ensures
    (rw c.in-Some-2.is at c.in_ok-literals.ensures) (rw c.in-Some-3.is at c.in_ok-hints.ensures) ls hs gl gh rises positive e in
    let none = ap length all.2 in
    let some = some-left c.in-Some-3.rest.now c.is_empty.result c.is_empty.ensures c.if-not-is_empty.true in
    omega (arith, none, some)

pub returns-else-has_form : goal.returns-else-has_form
returns-else-has_form c ls hs gl gh rises positive e =
    let all = derived-taken c.args.bytes.now c.in-Some.rest.now c.in-Some-2.rest.now c.in-Some-3.rest.now c.in-Some-2.literals c.in-Some-3.hints c.in-Some.ensures
    (rw c.in-Some-2.is at c.in_ok-literals.ensures) (rw c.in-Some-3.is at c.in_ok-hints.ensures) ls hs gl gh rises positive e in
    false≢true (sym c.if-has_form.false ∙ c.has_form.ensures.1 (ap (rises_from 0) all.0 ∙ rises, ap all_positive all.1 ∙ positive))
