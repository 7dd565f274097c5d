use Rattle.std.proofs.Common.{sym, subst, List, ℤ, arith}
use Rattle.finding_lines.specs.declared.line.Line.TheVariants as lines
use Rattle.finding_search.specs.Passing.{Passes}
use Rattle.finding_search.proofs.RowNumbers.{row_at}
use Rattle.finding_search.proofs.RowPasses.{read_row}
use Rattle.finding_search.proofs.saving.write_seen.Goals as goal

pub row_numbers-requires : goal.row_numbers-requires
row_numbers-requires g c = row_at c.args.found.now.rows.items 0 c.index.result.now (let one = c.requires.one in omega (arith, one)) c.index.ensures c.requires.numbers

pub returns : goal.returns
returns g c s formula from to passes =
    c.write_line.ensures s formula from to (subst (λ (n : List ℤ). Passes s formula from (lines.Seen n) to) (sym c.in_ok-numbers.ensures.same)
    (passes c.index.result.now (read_row c.args.found.now.rows.items c.index.result.now c.requires.one c.index.ensures)))
