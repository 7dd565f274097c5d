-- The formula of each query has a solution exactly where the query has an answer, and each solution stands for one.
use Rattle.std.proofs.Common.{ℕ, Bool}
use Rattle.clause_core.specs.Satisfaction.{Satisfies}
use Rattle.queries.specs.Comparisons.{Comparison}
use Rattle.queries.specs.Questions.{QueryData, first, step, goal, deep, walk, IsQueryOf}
use Rattle.queries.specs.Meaning.{HasAnswer, Means}
use Rattle.node_core.specs.Scans.{ScanData}
use Rattle.query_formulas.specs.Parts.{parts_of}
use Rattle.query_formulas.specs.Products.{product_of}
use Rattle.query_formulas.specs.Breaks.{breaks_of}
use Rattle.query_formulas.specs.QueryClauses.{formula_of}
use Rattle.query_formulas.specs.Decoded.{IsAnswer, decoded_of}
use Rattle.query_formula_laws.specs.TypedComparisons.{IsTypedComparison, IsScanOf}
use Rattle.query_formula_laws.proofs.StepGoal.{step_decoded, step_asked_of, goal_decoded, goal_asked_of}
use Rattle.query_formula_laws.proofs.FromStart.{first_decoded, first_asked, deep_decoded, deep_asked, walk_decoded, walk_asked}
use Rattle.query_formula_laws.proofs.ClauseSets.{formula_sets}

module _ (c : Comparison) (t : IsTypedComparison c) (a b : ScanData) (is_a : IsScanOf c.old a) (is_b : IsScanOf c.new b) (limit : ℕ) where
  pub query_decoded : (q : QueryData) → IsQueryOf c q → (v : ℕ → Bool) → Satisfies v (formula_of (parts_of c a b) limit q).clauses → IsAnswer c q (decoded_of (parts_of c a b) limit q v)
  query_decoded first h v s = first_decoded c t a b is_a is_b limit v s
  query_decoded (step set) h v s = step_decoded c t a b is_a is_b limit set v s
  query_decoded (goal set) h v s = goal_decoded c t a b is_a is_b limit set v s
  query_decoded (deep scans) h v s = deep_decoded c t a b is_a is_b limit scans h.0 h.1 v s
  query_decoded (walk rows) h v s = walk_decoded c t a b is_a is_b limit rows h.0 h.1 v s

  query_asked : (q : QueryData) → IsQueryOf c q → HasAnswer c q → (values : ℕ → Bool) × Satisfies values (formula_of (parts_of c a b) limit q).clauses
  query_asked first h answer = first_asked c t a b is_a is_b limit answer
  query_asked (step set) h answer = step_asked_of c t a b is_a is_b limit set answer
  query_asked (goal set) h answer = goal_asked_of c t a b is_a is_b limit set answer
  query_asked (deep scans) h answer = deep_asked c t a b is_a is_b limit scans h.0 h.1 answer
  query_asked (walk rows) h answer = walk_asked c t a b is_a is_b limit rows h.0 h.1 answer

  pub query_means : (q : QueryData) → IsQueryOf c q → Means c q (formula_of (parts_of c a b) limit q)
  query_means q h = record {
    found = λ v s. let d = decoded_of (parts_of c a b) limit q v in (d.pair, d.rows, query_decoded q h v s);
    asked = λ answer. query_asked q h answer;
    sets = formula_sets (product_of (parts_of c a b) limit) (breaks_of (parts_of c a b) limit) q;
  }
