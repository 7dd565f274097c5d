-- What comes of a step whose variables are those of the formula, in their order.
use Rattle.std.specs.Prelude.{◌≡◌, ◌↔◌, ℕ, ◌-◌, ℤ, Bool, not, ◌&&◌, nat_lt, IsTrue, List, if◌then◌else◌}
use Rattle.clause_core.specs.Clauses.{rises}
use Rattle.clause_core.specs.Freshness.{IsFresh}
use Rattle.clause_core.specs.Formula.{Formula}
use Rattle.clause_core.specs.declared.step.Step.{Step}
use Rattle.finding_lines.specs.declared.line.Line.{Line}
use Rattle.derivation_check.specs.Checks.{Derivation, held_of}
use Rattle.queries.specs.Questions.{QueryData}
use Rattle.queries.specs.Settings.{Setting}
use Rattle.judgement.specs.Steps.{clause_of, step_of, with_derived, accepts, is_empty}
use Rattle.judgement.specs.Places.{Place, in_log, Moved, goes}
use Rattle.judgement.specs.Tests.{when, IsTold, next_by}
use Rattle.judgement.specs.declared.answers.Reason.TheVariants.{B2, B6, B10}

-- in a log that is to refute its query
abbrev pub log_moved : Derivation → Place → Step → Moved
log_moved d behind step = when (accepts d step) B6 (goes (if is_empty step.clause then behind else in_log (with_derived d step.clause) behind))

-- in one that is to spend it, at the place of what is held and of how many steps are to come
abbrev pub spent_moved : (Derivation → ℕ → Place) → Derivation → ℕ → Bool → Step → Moved
spent_moved place d left fresh step =
    when (accepts d step) B6 (when (not (is_empty step.clause) && (fresh && nat_lt 0 left)) B10 (goes (place (with_derived d step.clause) (left - 1))))

-- the numbers of a step there
abbrev pub spent_next : (Derivation → ℕ → Place) → Derivation → ℕ → Bool → List ℤ → List ℤ → Moved
spent_next place d left told literals hints = when (rises d.formula.variables (clause_of literals)) B2 (spent_moved place d left told (step_of literals hints))

-- where its variables are those of the formula, `told` says whether it is fresh
abbrev pub IsToldFresh : Derivation → List ℤ → Bool → Type 0
IsToldFresh d literals told = IsTrue (rises d.formula.variables (clause_of literals)) → IsTrue told ↔ IsFresh (held_of d) (clause_of literals)

-- in a version that has a form for it, the line leads there, or fails so
abbrev pub MovesBy : Setting → (QueryData → Formula) → Place → Line → Moved → Type 0
MovesBy s formula place line moved = (told : Bool) × IsTold s place line told × (moved ≡ next_by s formula place told line)
