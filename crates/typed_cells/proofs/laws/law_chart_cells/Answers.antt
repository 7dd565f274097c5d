use Rattle.typed_cells.proofs.ChartCells.{chart_flags, chart_rising}
use Rattle.typed_cells.proofs.laws.law_chart_cells.Goals as goal

pub returns : goal.returns
returns c = λ f used ordered k p there ps body fault unique plain. (chart_flags f used ordered k p there ps body fault unique plain, chart_rising f used ordered k p there ps body fault unique plain)
