use Rattle.std.proofs.Common.{subst}
use Rattle.queries.specs.Comparisons.{IsComparison}
use Rattle.product_build.specs.Limits.{HasFewLines}
use Rattle.typed_relations.specs.Readings.{IsRead}
use Rattle.comparison_files.specs.Held.{Held, comparison_in}
use Rattle.comparison_files.proofs.compared.Compared.laws.Goals as goal

pub returns-clause-comparison : goal.returns-clause-comparison
returns-clause-comparison c = subst (λ (h : Held). IsComparison (comparison_in h)) c.self.view_is c.self.invariant.read.typed.comparison

pub returns-clause-read : goal.returns-clause-read
returns-clause-read c = subst (λ (h : Held). IsRead (comparison_in h)) c.self.view_is c.self.invariant.read

pub returns-clause-lines : goal.returns-clause-lines
returns-clause-lines c = subst (λ (h : Held). HasFewLines (comparison_in h)) c.self.view_is c.self.invariant.lines
