-- Behind a log that is to spend the query for allowed rows.
use Rattle.std.proofs.Common.{◌≡◌, ℕ, ℤ, Bool, true, List, refl}
use Rattle.clause_core.specs.Formula.{Formula}
use Rattle.finding_lines.specs.declared.line.Line.{Line}
use Rattle.finding_lines.specs.declared.line.Line.TheVariants as lines
use Rattle.derivation_check.specs.Checks.{Derivation}
use Rattle.queries.specs.Settings.{Setting, first_set}
use Rattle.queries.specs.Questions.{QueryData}
use Rattle.judgement.specs.Places.{Moved, in_walk}
use Rattle.judgement.specs.Tests.{at_drops_next, in_walk_next, when_spent, IsTold}
use Rattle.judgement.specs.declared.answers.Reach.TheVariants.{AtLeast}

-- a line that is no part of the log asks nothing, and may drop candidates
pub behind_log : (s : Setting) (formula : QueryData → Formula) (rows : ℕ) (d : Derivation) (left : ℕ) (line : Line) (moved : Moved)
    → ((literals hints : List ℤ) → line ≡ lines.Derived literals hints → ⊥) → ((ids : List ℤ) → line ≡ lines.Deleted ids → ⊥)
    → moved ≡ when_spent left (at_drops_next s formula (AtLeast rows) (first_set s) line)
    → (told : Bool) × IsTold s (in_walk rows d left) line told × (moved ≡ in_walk_next s formula rows d left told line)
behind_log s formula rows d left (lines.Derived literals hints) moved no_step no_deletion e = absurd (no_step literals hints refl)
behind_log s formula rows d left (lines.Deleted ids) moved no_step no_deletion e = absurd (no_deletion ids refl)
behind_log s formula rows d left line moved no_step no_deletion e = (true, (λ asked. ((λ t. tt), (λ t. refl))), e)
