-- What a checker holds, and what a step does to it.
use Rattle.std.specs.Prelude.{◌≡◌, ℕ, List, [], ◌∷◌, ◌++◌, drop}
use Rattle.clause_core.specs.declared.literal.Lit.{Lit}
use Rattle.clause_core.specs.declared.step.Step.{Step}
use Rattle.clause_core.specs.declared.check.Outcome.{Outcome}
use Rattle.clause_core.specs.declared.check.Outcome.TheVariants.{Accepted, UnknownHint as HintUnknown, NotUnit as HintNotUnit, NoConflict as HintsNoConflict}
use Rattle.clause_core.specs.Formula.{Formula, first_clauses}
use Rattle.clause_core.specs.Steps.{outcome}
use Rattle.derivation_check.specs.declared.fault.StepFault.{StepFault}
use Rattle.derivation_check.specs.declared.fault.StepFault.TheVariants.{UnknownHint, NotUnit, NoConflict, Memory}

-- a formula, and the clauses derived from it
pub record Derivation : Type 0 where
  pub formula : Formula
  pub derived : List (List Lit)

-- the first `given` clauses are the formula's
abbrev pub derivation_from : ℕ → Formula → Derivation
derivation_from given f = record { formula = first_clauses given f; derived = drop given f.clauses }

abbrev pub held_of : Derivation → List (List Lit)
held_of d = d.formula.clauses ++ d.derived

-- the clause is held too, behind the others
abbrev pub Holds : Derivation → Derivation → List Lit → Type 0
Holds old new clause = new ≡ record { formula = old.formula; derived = old.derived ++ clause ∷ [] }

-- the fault that says how the step's hints end
abbrev pub fault_fits : Outcome → StepFault → Type 0
fault_fits end (UnknownHint h) = end ≡ HintUnknown h
fault_fits end (NotUnit h) = end ≡ HintNotUnit h
fault_fits end NoConflict = end ≡ HintsNoConflict
fault_fits end Memory = end ≡ Accepted

abbrev pub FaultFits : Derivation → Step → StepFault → Type 0
FaultFits d s fault = fault_fits (outcome d.formula.variables (held_of d) s.clause s.hints) fault
