-- The rules of AND, OR, XOR and MUX, tried in order: a literal that is there already, or a gate to ask for.
use Rattle.std.specs.Prelude.{ℕ, Bool, false, not, ◌||◌, nat_eq, nat_lt, min, max, if◌then◌else◌}
use Rattle.std.specs.Bool.{beq}
use Rattle.clause_core.specs.declared.literal.Lit.{Lit}
use Rattle.clause_core.specs.declared.gate.Gate.TheVariants.{And, Xor, Mux}
use Rattle.clause_core.specs.Values.{negation}
use Rattle.gates.specs.declared.plan.Plan.{Plan}
use Rattle.gates.specs.declared.plan.Plan.TheVariants.{Ready, Ask}
use Rattle.gates.specs.Literals.{plain, false_lit, is_true, is_false, same_lit, opposite_lits}

-- the plan of the negative
abbrev pub not_plan : Plan → Plan
not_plan (Ready l) = Ready (negation l)
not_plan (Ask g negative) = Ask g (not negative)

-- FALSE where one is FALSE or they are opposite; the other where one is TRUE; a where they are the same;
-- else a gate, the operand with the smaller variable first
abbrev pub and_plan : Lit → Lit → Plan
and_plan a b =
    if is_false a || is_false b || opposite_lits a b then Ready false_lit else (
    if is_true a then Ready b else (
    if is_true b || same_lit a b then Ready a else (
    if nat_lt a.variable b.variable then Ask (And a b) false else Ask (And b a) false)))

abbrev pub or_plan : Lit → Lit → Plan
or_plan a b = not_plan (and_plan (negation a) (negation b))

-- of two variables, the smaller first: FALSE where they are the same, -q where p is TRUE, else a gate;
-- negated where the literals had different signs
abbrev pub xor_of_variables : ℕ → ℕ → Bool → Plan
xor_of_variables p q same =
    if nat_eq p q then Ready (record { variable = 1; negative = same }) else (
    if nat_eq p 1 then Ready (record { variable = q; negative = same }) else
    Ask (Xor (plain p) (plain q)) (not same))

abbrev pub xor_plan : Lit → Lit → Plan
xor_plan a b = xor_of_variables (min a.variable b.variable) (max a.variable b.variable) (beq a.negative b.negative)

-- c ? a : b
abbrev pub mux_plan : Lit → Lit → Lit → Plan
mux_plan c a b =
    if is_true c then Ready a else (
    if is_false c then Ready b else (
    if same_lit a b then Ready a else (
    if opposite_lits a b then xor_plan c b else (
    if is_true a || same_lit a c then or_plan c b else (
    if is_false a || opposite_lits a c then and_plan (negation c) b else (
    if is_true b || opposite_lits b c then or_plan (negation c) a else (
    if is_false b || same_lit b c then and_plan c a else
    Ask (Mux c a b) false)))))))
