use Rattle.std.proofs.lemmas.Result.{IfOk-weaker}
use Rattle.finding_lines.specs.Numbers.{AreNumbers}
use Rattle.finding_lines.specs.Spelling.{spaced_all}
use Rattle.finding_lines.specs.Reading.{Reads}
use Rattle.finding_lines.proofs.ReadLemmas.{ReadsRow, row-behind}
use Rattle.finding_lines.proofs.rows.read_row.Goals as goal

pub returns : goal.returns
returns c =
    IfOk-weaker c.read_numbers.result (Reads AreNumbers spaced_all c.in-Some.rest.now) (ReadsRow c.args.bytes.now c.args.keyword.now)
    (row-behind c.args.bytes.now c.args.keyword.now c.in-Some.rest.now c.in-Some.ensures) c.read_numbers.ensures
