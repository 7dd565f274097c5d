-- What is known of the circuits of a comparison: they are in order, and the formula of each query means it and has few clauses.
use Rattle.std.proofs.Common.{ℕ, Bool, ◌^◌, ◌<◌, sym, subst, length}
use Rattle.clause_core.specs.Satisfaction.{Satisfies}
use Rattle.queries.specs.Comparisons.{Comparison}
use Rattle.queries.specs.Questions.{QueryData, IsQueryOf}
use Rattle.queries.specs.Meaning.{Means}
use Rattle.query_formulas.specs.Parts.{Parts, parts_of}
use Rattle.query_formulas.specs.Products.{Product, product_of}
use Rattle.query_formulas.specs.Breaks.{Breaks, breaks_of}
use Rattle.query_formulas.specs.QueryClauses.{IsProductInOrder, formula_by, formula_of}
use Rattle.query_formulas.specs.Decoded.{IsAnswer, decoded}
use Rattle.pair_decoding.specs.Widths.{IsWideProduct, AreWideRows}
use Rattle.pair_decoding.proofs.FreeWords.{product_wide as wide_product, breaks_wide as wide_breaks}
use Rattle.query_formula_laws.proofs.Orders.{product_in_order}
use Rattle.query_formula_laws.proofs.Meanings.{query_means as means, query_decoded as is_answer}
use Rattle.product_build.specs.Counts.{AreScansInOrder}
use Rattle.product_build.specs.Limits.{most_gates}
use Rattle.product_build.specs.MadeCircuits.{AreCircuitsOf}
use Rattle.product_build.proofs.Rising.{scans_in_order}
use Rattle.product_build.proofs.Sizes.{query_few}

module _ (c : Comparison) (parts : Parts) (p : Product) (b : Breaks) (a : AreCircuitsOf c parts p b) where
  abbrev meant : Parts
  meant = parts_of c a.old_scan a.new_scan

  pub product_ordered : IsProductInOrder p.lits
  product_ordered = subst (λ (x : Product). IsProductInOrder x.lits) (sym a.product_is) (product_in_order meant most_gates)

  pub scans_ordered : AreScansInOrder b
  scans_ordered = subst (λ (x : Breaks). AreScansInOrder x) (sym a.breaks_are) (scans_in_order meant most_gates)

  pub query_means : (q : QueryData) → IsQueryOf c q → Means c q (formula_by p b q)
  query_means q h =
      subst (λ (x : Product). Means c q (formula_by x b q)) (sym a.product_is)
      (subst (λ (x : Breaks). Means c q (formula_by (product_of meant most_gates) x q)) (sym a.breaks_are) (means c a.typed a.old_scan a.new_scan a.old_is_scan a.new_is_scan most_gates q h))

  -- ---- what a solution stands for

  pub product_wide : IsWideProduct parts p
  product_wide = rw (a.parts_are, a.product_is) (wide_product meant most_gates)

  pub rows_wide : AreWideRows parts.lines b.scans
  rows_wide = rw (a.parts_are, a.breaks_are) (wide_breaks meant most_gates)

  pub query_decoded : (q : QueryData) (v : ℕ → Bool) → IsQueryOf c q → Satisfies v (formula_by p b q).clauses → IsAnswer c q (decoded parts p b q v)
  query_decoded q v h s =
      let of_made : Satisfies v (formula_of meant most_gates q).clauses =
      subst (λ (x : Breaks). Satisfies v (formula_by (product_of meant most_gates) x q).clauses) a.breaks_are (subst (λ (x : Product). Satisfies v (formula_by x b q).clauses) a.product_is s) in
      subst (λ (x : Parts). IsAnswer c q (decoded x p b q v)) (sym a.parts_are)
      (subst (λ (x : Product). IsAnswer c q (decoded meant x b q v)) (sym a.product_is)
      (subst (λ (x : Breaks). IsAnswer c q (decoded meant (product_of meant most_gates) x q v)) (sym a.breaks_are) (is_answer c a.typed a.old_scan a.new_scan a.old_is_scan a.new_is_scan most_gates q h v of_made)))

  pub clauses_few : (q : QueryData) → length (formula_by p b q).clauses < 2 ^ 31
  clauses_few q =
      subst (λ (x : Product). length (formula_by x b q).clauses < 2 ^ 31) (sym a.product_is)
      (subst (λ (x : Breaks). length (formula_by (product_of meant most_gates) x q).clauses < 2 ^ 31) (sym a.breaks_are) (query_few c a.old_scan a.new_scan a.typed.comparison a.lines a.gates q))
