-- AND, OR, XOR and MUX as they make gates.
use Rattle.clause_core.specs.declared.literal.Lit.{Lit}
use Rattle.gates.specs.Plans.{and_plan, or_plan, xor_plan, mux_plan}
use Rattle.gates.specs.Netlists.{Netlist, Made, make}

unfoldable pub and_of : Lit → Lit → Netlist → Made
and_of a b n = make (and_plan a b) n

unfoldable pub or_of : Lit → Lit → Netlist → Made
or_of a b n = make (or_plan a b) n

unfoldable pub xor_of : Lit → Lit → Netlist → Made
xor_of a b n = make (xor_plan a b) n

-- c ? a : b
unfoldable pub mux_of : Lit → Lit → Lit → Netlist → Made
mux_of c a b n = make (mux_plan c a b) n
