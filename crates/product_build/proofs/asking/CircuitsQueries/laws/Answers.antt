use Rattle.std.proofs.Common.{◌^◌, ◌<◌, length, subst}
use Rattle.queries.specs.Questions.{QueryData, IsQueryOf}
use Rattle.queries.specs.Meaning.{Means}
use Rattle.product_build.specs.MadeCircuits.{MadeCircuits, comparison_of, formula_of}
use Rattle.product_build.proofs.Meanings.{query_means, clauses_few}
use Rattle.product_build.proofs.asking.CircuitsQueries.laws.Goals as goal

pub returns-clause-means : goal.returns-clause-means
returns-clause-means c =
    subst (λ (m : MadeCircuits). (q : QueryData) → IsQueryOf (comparison_of m) q → Means (comparison_of m) q (formula_of m q)) c.self.view_is (λ q h. query_means _ _ _ _ c.self.invariant q h)

pub returns-clause-few : goal.returns-clause-few
returns-clause-few c =
    subst (λ (m : MadeCircuits). (q : QueryData) → IsQueryOf (comparison_of m) q → length (formula_of m q).clauses < 2 ^ 31) c.self.view_is (λ q h. clauses_few _ _ _ _ c.self.invariant q)
