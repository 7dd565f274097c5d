-- Two programs and a relation between them, with the circuits that are made for them.
use Rattle.std.specs.Prelude.{◌≡◌, length}
use Rattle.clause_core.specs.Formula.{Formula}
use Rattle.program_tree.specs.declared.typed.Program.{Program}
use Rattle.program_tree.specs.View.{program_view}
use Rattle.scan_model.specs.declared.relation.Relation.{Relation}
use Rattle.scan_model.specs.Pairs.{relation_view}
use Rattle.queries.specs.Comparisons.{Comparison}
use Rattle.queries.specs.Questions.{QueryData}
use Rattle.node_core.specs.Scans.{ScanData}
use Rattle.query_formulas.specs.Parts.{Parts, parts_of}
use Rattle.query_formulas.specs.Products.{Product, product_of}
use Rattle.query_formulas.specs.Breaks.{Breaks, breaks_of}
use Rattle.query_formulas.specs.QueryClauses.{gates_formula, formula_by}
use Rattle.query_formula_laws.specs.TypedComparisons.{IsTypedComparison, IsScanOf}
use Rattle.product_build.specs.Limits.{most_gates, HasFewGates, HasFewLines}

-- the circuit of one scan from any pair, and that of scans from the start
pub record MadeCircuits : Type 0 where
  pub old_program : Program
  pub new_program : Program
  pub relation : Relation
  pub product : Product
  pub breaks : Breaks

abbrev pub comparison_between : Program → Program → Relation → Comparison
comparison_between old new relation = record { old = program_view old; new = program_view new; relation = relation_view relation }

abbrev pub comparison_of : MadeCircuits → Comparison
comparison_of m = comparison_between m.old_program m.new_program m.relation

-- the formula of a query
abbrev pub formula_of : MadeCircuits → QueryData → Formula
formula_of m q = formula_by m.product m.breaks q

-- what the formulas of queries for one scan from any pair begin with
abbrev pub front_of : MadeCircuits → Formula
front_of m = gates_formula m.product.lits.net (length m.product.lits.net.gates)

-- the circuits are those of the comparison, by the nodes of scans of its programs
pub record AreCircuitsOf (c : Comparison) (parts : Parts) (product : Product) (breaks : Breaks) : Type 0 where
  pub typed : IsTypedComparison c
  pub lines : HasFewLines c
  pub old_scan : ScanData
  pub new_scan : ScanData
  pub old_is_scan : IsScanOf c.old old_scan
  pub new_is_scan : IsScanOf c.new new_scan
  pub gates : HasFewGates c old_scan new_scan
  pub parts_are : parts ≡ parts_of c old_scan new_scan
  pub product_is : product ≡ product_of (parts_of c old_scan new_scan) most_gates
  pub breaks_are : breaks ≡ breaks_of (parts_of c old_scan new_scan) most_gates
