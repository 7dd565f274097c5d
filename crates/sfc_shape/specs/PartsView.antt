-- The parts of the chart of a shape.
use Rattle.std.specs.Prelude.{List}
use Rattle.source_tree.specs.Syntax.{PartData}
use Rattle.source_tree.specs.SyntaxView.{parts_view}
use Rattle.sfc_shape.specs.declared.shape.Shape.{Shape}

abbrev pub parts_in : Shape → List PartData
parts_in shape = parts_view shape.chart.now.parts.items
