-- Gates as a circuit keeps them.
use Rattle.std.specs.Prelude.{◌≡◌, false, List, [], ◌∷◌, map}
use Rattle.clause_core.specs.declared.literal.Lit.{Lit}
use Rattle.clause_core.specs.declared.gate.Gate.{Gate}
use Rattle.clause_core.specs.declared.gate.Gate.TheVariants.{And, Xor, Mux}
use Rattle.gates.specs.declared.stored.StoredGate.{StoredGate}
use Rattle.gates.specs.declared.stored.Form.{Form}
use Rattle.gates.specs.declared.stored.Form.TheVariants as forms

abbrev pub no_operand : Lit
no_operand = record { variable = 0; negative = false }

abbrev pub of_operands : Form → Lit → Lit → Lit → StoredGate
of_operands form a b c =
    record { form = form; negative_one = a.negative; negative_two = b.negative; negative_three = c.negative; one = a.variable; two = b.variable; three = c.variable }

abbrev pub stored_of : Gate → StoredGate
stored_of (And a b) = of_operands forms.And a b no_operand
stored_of (Xor a b) = of_operands forms.Xor a b no_operand
stored_of (Mux c a b) = of_operands forms.Mux c a b

abbrev pub first_of : StoredGate → Lit
first_of s = record { variable = s.one; negative = s.negative_one }

abbrev pub second_of : StoredGate → Lit
second_of s = record { variable = s.two; negative = s.negative_two }

abbrev pub third_of : StoredGate → Lit
third_of s = record { variable = s.three; negative = s.negative_three }

abbrev pub of_form : Form → StoredGate → Gate
of_form forms.And s = And (first_of s) (second_of s)
of_form forms.Xor s = Xor (first_of s) (second_of s)
of_form forms.Mux s = Mux (first_of s) (second_of s) (third_of s)

abbrev pub gate_of : StoredGate → Gate
gate_of s = of_form s.form s

abbrev pub gates_of : List StoredGate → List Gate
gates_of ss = map gate_of ss

-- what a gate is kept as
abbrev pub IsStored : StoredGate → Type 0
IsStored s = stored_of (gate_of s) ≡ s

abbrev pub AreStored : List StoredGate → Type 0
AreStored [] = Unit {0}
AreStored (s ∷ ss) = IsStored s × AreStored ss
