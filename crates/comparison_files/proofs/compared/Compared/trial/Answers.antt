use Rattle.std.proofs.Common.{subst}
use Rattle.queries.specs.Comparisons.{IsComparison}
use Rattle.comparison_files.specs.Held.{Held, comparison_in}
use Rattle.comparison_files.proofs.compared.Compared.trial.Goals as goal

pub returns-clause-comparison : goal.returns-clause-comparison
returns-clause-comparison c = subst (λ (h : Held). IsComparison (comparison_in h)) c.self.view_is c.self.invariant.read.typed.comparison

pub new-requires : goal.new-requires
new-requires c =
    let read = c.self.invariant.read in
    record { old_is_program = read.old_is_program; new_is_program = read.new_is_program; belongs = read.belongs }
