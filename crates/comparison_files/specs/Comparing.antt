-- The formulas of the queries of what is compared.
use Rattle.clause_core.specs.Formula.{Formula}
use Rattle.queries.specs.Comparisons.{Comparison}
use Rattle.queries.specs.Questions.{QueryData}
use Rattle.node_core.specs.Scans.{ScanData}
use Rattle.query_formulas.specs.Parts.{parts_of}
use Rattle.query_formulas.specs.QueryClauses.{formula_of}
use Rattle.product_build.specs.Limits.{most_gates}
use Rattle.comparison_files.specs.Accepting.{nodes_of}

-- the formula of each query of a comparison, by the nodes of both scans
abbrev pub formulas_by : Comparison → ScanData → ScanData → QueryData → Formula
formulas_by c old new = formula_of (parts_of c old new) most_gates

-- by those of its programs
abbrev pub formulas_of : Comparison → QueryData → Formula
formulas_of c = formulas_by c (nodes_of c.old) (nodes_of c.new)
