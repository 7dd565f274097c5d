-- What gates and plans are under an assignment of every variable.
use Rattle.std.specs.Prelude.{ℕ, Bool, true, false, not, ◌&&◌, if◌then◌else◌}
use Rattle.clause_core.specs.declared.gate.Gate.{Gate}
use Rattle.clause_core.specs.declared.gate.Gate.TheVariants.{And, Xor, Mux}
use Rattle.clause_core.specs.Satisfaction.{literal_true, signed}
use Rattle.gates.specs.declared.plan.Plan.{Plan}
use Rattle.gates.specs.declared.plan.Plan.TheVariants.{Ready, Ask}

abbrev pub exactly_one : Bool → Bool → Bool
exactly_one true b = not b
exactly_one false b = b

abbrev pub gate_true : (ℕ → Bool) → Gate → Bool
gate_true v (And a b) = literal_true v a && literal_true v b
gate_true v (Xor a b) = exactly_one (literal_true v a) (literal_true v b)
gate_true v (Mux c a b) = if literal_true v c then literal_true v a else literal_true v b

abbrev pub plan_true : (ℕ → Bool) → Plan → Bool
plan_true v (Ready l) = literal_true v l
plan_true v (Ask g negative) = signed negative (gate_true v g)
