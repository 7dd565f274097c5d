use Rattle.std.proofs.Common.{◌≡◌, ◌++◌, drop}
use Rattle.program_tree.specs.View.{exprs_view}
use Rattle.pair_circuits.specs.Views.{clauses_view}
use Rattle.query_formulas.specs.Parts.{clauses_of}
use Rattle.pair_circuits.proofs.parts.clauses.Given as goal

abbrev pub invariant-loop-expr : goal.invariant-loop-expr
invariant-loop-expr l = clauses_view l.all.items ++ clauses_of l.cells (exprs_view (drop l.expr-index l.exprs)) ≡ clauses_of l.cells (exprs_view l.exprs)
