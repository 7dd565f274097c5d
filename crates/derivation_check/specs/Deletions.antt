-- When a derived clause may be held no more: another held clause is a part of it, so that nothing is lost.
use Rattle.std.specs.Prelude.{ℕ, ◌-◌, Bool, true, false, not, ◌&&◌, nat_lt, List, [], ◌∷◌, length, Option, Some, None, slice_get, slice_set, if◌then◌else◌}
use Rattle.clause_core.specs.declared.literal.Lit.{Lit}
use Rattle.clause_core.specs.Deletions.{always, is_always, is_covered}
use Rattle.derivation_check.specs.Checks.{Derivation, held_of}

-- the place of a number among the derived clauses, from 0
abbrev pub derived_place : Derivation → ℕ → ℕ
derived_place d number = number - 1 - length d.formula.clauses

-- what stands at the number of a derived clause
abbrev pub derived_at : Derivation → ℕ → Option (List Lit)
derived_at d number = if nat_lt (length d.formula.clauses) number then slice_get d.derived (derived_place d number) else None

abbrev pub may_delete_clause : Derivation → ℕ → Option (List Lit) → Bool
may_delete_clause d number None = false
may_delete_clause d number (Some clause) = not (is_always clause) && is_covered (held_of d) number clause

-- The number is that of a derived clause which is held, and another clause that is held is a part of it. Over no variable each
-- clause is empty, and none is deleted.
abbrev pub may_delete : Derivation → ℕ → Bool
may_delete d number = nat_lt 0 d.formula.variables && may_delete_clause d number (derived_at d number)

-- the clause of the number is held no more
abbrev pub without : Derivation → ℕ → Derivation
without d number = record { formula = d.formula; derived = slice_set d.derived (derived_place d number) always }

-- one after the other
abbrev pub may_delete_all : Derivation → List ℕ → Bool
may_delete_all d [] = true
may_delete_all d (n ∷ ns) = may_delete d n && may_delete_all (without d n) ns

abbrev pub without_all : Derivation → List ℕ → Derivation
without_all d [] = d
without_all d (n ∷ ns) = without_all (without d n) ns
