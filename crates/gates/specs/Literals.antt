-- Tests on literals.
use Rattle.std.specs.Prelude.{ℕ, Bool, true, false, not, ◌&&◌, nat_eq}
use Rattle.std.specs.Bool.{beq}
use Rattle.clause_core.specs.declared.literal.Lit.{Lit}

-- the literal of a variable
abbrev pub plain : ℕ → Lit
plain v = record { variable = v; negative = false }

-- variable 1 is TRUE
abbrev pub true_lit : Lit
true_lit = record { variable = 1; negative = false }

abbrev pub false_lit : Lit
false_lit = record { variable = 1; negative = true }

abbrev pub is_true : Lit → Bool
is_true l = nat_eq l.variable 1 && not l.negative

abbrev pub is_false : Lit → Bool
is_false l = nat_eq l.variable 1 && l.negative

abbrev pub same_lit : Lit → Lit → Bool
same_lit a b = nat_eq a.variable b.variable && beq a.negative b.negative

abbrev pub opposite_lits : Lit → Lit → Bool
opposite_lits a b = nat_eq a.variable b.variable && not (beq a.negative b.negative)
