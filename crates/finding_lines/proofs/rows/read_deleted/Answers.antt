use Rattle.std.proofs.Common.{◌∙◌, ap, sym, length, arith}
use Rattle.std.proofs.lemmas.Bool.{false≢true}
use Rattle.finding_lines.specs.Form.{are_ids}
use Rattle.finding_lines.proofs.ReadLemmas.{deleted-list, deleted-taken, some-left}
use Rattle.finding_lines.proofs.rows.read_deleted.Goals as goal

pub returns-in_default-2 : goal.returns-in_default-2
returns-in_default-2 c =
    deleted-list c.args.bytes.now c.in-Some.rest.now c.in-Some.ensures (rw c.in_default-2.is at c.in_ok-ids.ensures)

pub returns-then-not-is_empty : goal.returns-then-not-is_empty
returns-then-not-is_empty c ns good form e =
    let all = deleted-taken c.args.bytes.now c.in-Some.rest.now c.in-Some-2.rest.now c.in-Some-2.ids c.in-Some.ensures
    (rw c.in-Some-2.is at c.in_ok-ids.ensures) ns good form e in
    let none = ap length all.1 in
    let some = some-left c.in-Some-2.rest.now c.is_empty.result c.is_empty.ensures c.if-not-is_empty.true in
    omega (arith, none, some)

pub returns-else-name_clauses : goal.returns-else-name_clauses
returns-else-name_clauses c ns good form e =
    let all = deleted-taken c.args.bytes.now c.in-Some.rest.now c.in-Some-2.rest.now c.in-Some-2.ids c.in-Some.ensures
    (rw c.in-Some-2.is at c.in_ok-ids.ensures) ns good form e in
    false≢true (sym c.if-name_clauses.false ∙ c.name_clauses.ensures ∙ ap are_ids all.0 ∙ form)
