use Rattle.finding_lines.proofs.ReadLemmas.{query-none, query-more, some-left}
use Rattle.finding_lines.proofs.fields.read_asked.Goals as goal

pub returns-in_err-query : goal.returns-in_err-query
returns-in_err-query c =
    rw c.from_residual-in_err-query.ensures
    (query-none c.args.bytes.now c.args.keyword.now c.in_ok-rest.rest.now c.in_ok-rest.ensures c.in_err-query.ensures)

pub returns-else-is_empty : goal.returns-else-is_empty
returns-else-is_empty c =
    query-more c.args.bytes.now c.args.keyword.now c.in_ok-rest.rest.now c.in_ok-query.more.now c.in_ok-query.query c.in_ok-rest.ensures c.in_ok-query.ensures
    (some-left c.in_ok-query.more.now c.is_empty.result c.is_empty.ensures c.if-is_empty.false)
