-- What an answer to a query owes.
use Rattle.std.specs.Prelude.{ℕ}
use Rattle.clause_core.specs.Decisions.{IsRefutation, IsSpent}
use Rattle.clause_core.specs.Formula.{Formula}
use Rattle.scan_model.specs.Pairs.{Pair}
use Rattle.queries.specs.Comparisons.{Comparison}
use Rattle.queries.specs.Questions.{QueryData}
use Rattle.queries.specs.Meaning.{Answers}
use Rattle.queries.specs.declared.decoded.Decoded.{Decoded}
use Rattle.invariant_prune.specs.declared.answer.Answer.{Answer}
use Rattle.invariant_prune.specs.declared.answer.Answer.TheVariants.{Found, Refuted, Spent}

-- the pair that was found
abbrev pub pair_of : Decoded → Pair
pair_of d = record { old = d.old.items; new = d.new.items }

-- The pair and rows are what the query asks for. Or the log refutes its formula: at most so many accepted steps, the last alone
-- empty and the others fresh. Or it spends it: exactly so many accepted steps, all fresh and none empty.
abbrev pub IsAnswer : Comparison → (QueryData → Formula) → ℕ → QueryData → Answer → Type 0
IsAnswer c formula limit query (Found d) = Answers c query (pair_of d) d.rows.items
IsAnswer c formula limit query (Refuted log) = IsRefutation (formula query) limit log
IsAnswer c formula limit query (Spent log) = IsSpent (formula query) limit log
