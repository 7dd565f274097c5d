-- The numbers of a line as what they stand for: a clause, hints, a pair and a row.
use Rattle.std.specs.Prelude.{ℕ, ℤ, pos, negsuc, Bool, true, false, int_lt, List, [], ◌∷◌, ◌++◌, map, take, drop}
use Rattle.std.specs.Int.RustNames.{unsigned_abs}
use Rattle.clause_core.specs.declared.literal.Lit.{Lit}
use Rattle.clause_core.specs.declared.step.Step.{Step}
use Rattle.clause_core.specs.declared.check.Outcome.{Outcome}
use Rattle.clause_core.specs.declared.check.Outcome.TheVariants.{Accepted, UnknownHint, NotUnit, NoConflict}
use Rattle.clause_core.specs.Formula.{Formula}
use Rattle.clause_core.specs.Steps.{outcome}
use Rattle.derivation_check.specs.Checks.{Derivation, held_of}
use Rattle.scan_model.specs.InRange.{Row}
use Rattle.scan_model.specs.Pairs.{Pair}
use Rattle.queries.specs.Settings.{Setting}

-- a literal is written as its variable, negative for the negative one
abbrev pub literal_of : ℤ → Lit
literal_of n = record { variable = unsigned_abs n; negative = int_lt n (pos 0) }

abbrev pub clause_of : List ℤ → List Lit
clause_of literals = map literal_of literals

-- a hint is the number of a clause; a number that is not above 0 is that of none
abbrev pub hint_of : ℤ → ℕ
hint_of (pos n) = n
hint_of (negsuc n) = 0

abbrev pub hints_of : List ℤ → List ℕ
hints_of hints = map hint_of hints

abbrev pub step_of : List ℤ → List ℤ → Step
step_of literals hints = record { clause = clause_of literals; hints = hints_of hints }

-- a formula, and nothing derived from it
abbrev pub opened : Formula → Derivation
opened formula = record { formula = formula; derived = [] }

-- a clause is held too, behind the others
abbrev pub with_derived : Derivation → List Lit → Derivation
with_derived d clause = record { formula = d.formula; derived = d.derived ++ clause ∷ [] }

abbrev pub is_accepted : Outcome → Bool
is_accepted Accepted = true
is_accepted (UnknownHint hint) = false
is_accepted (NotUnit hint) = false
is_accepted NoConflict = false

-- the step is accepted over what is held
abbrev pub accepts : Derivation → Step → Bool
accepts d step = is_accepted (outcome d.formula.variables (held_of d) step.clause step.hints)

abbrev pub is_empty : List Lit → Bool
is_empty [] = true
is_empty (l ∷ ls) = false

-- the cells of OLD, then those of NEW
abbrev pub pair_in : Setting → List ℤ → Pair
pair_in s numbers = record { old = take s.old_cells numbers; new = take s.new_cells (drop s.old_cells numbers) }

-- and behind them the inputs
abbrev pub row_in : Setting → List ℤ → Row
row_in s numbers = drop s.new_cells (drop s.old_cells numbers)
