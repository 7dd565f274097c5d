use Rattle.std.proofs.Common.{length, sym, ap, ◌∙◌}
use Rattle.trace_rows.proofs.RowLemmas.{length-rows_of}
use Rattle.trace_rows.proofs.rows.TraceRows.len.Goals as goal

pub returns : goal.returns
returns c = sym (length-rows_of c.self.inside.width c.self.inside.count c.self.inside.numbers.items) ∙ ap length c.self.view_is
