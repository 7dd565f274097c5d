-- What a command on a finding answers.
use Rattle.std.specs.Prelude.{ℕ, List}
use Rattle.clause_core.specs.Formula.{Formula}
use Rattle.queries.specs.Comparisons.{Comparison}
use Rattle.queries.specs.Questions.{QueryData}
use Rattle.command_answers.specs.Reports.{Report}
use Rattle.comparison_files.specs.Texts.{Texts}
use Rattle.comparison_files.specs.Accepting.{AreAccepted}
use Rattle.comparison_files.specs.Comparing.{formulas_of}
use Rattle.comparison_files.specs.Refusals.{ReportsRefusal}

-- The report on four texts: that on the first three, where they are not compared, or that on the finding, by what they state. What is reported
-- on a finding is told by a comparison and the formula of each query.
pub data ReportsOn (on : Comparison → (QueryData → Formula) → List ℕ → Report → Type 0) (t : Texts) (r : Report) : Type 0 where
  not_compared : ReportsRefusal t r → ReportsOn on t r
  on_finding : (c : Comparison) → AreAccepted t c → on c (formulas_of c) t.finding r → ReportsOn on t r
