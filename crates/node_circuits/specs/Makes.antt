-- When a word and its gates were made as they are defined.
use Rattle.std.specs.Prelude.{◌≡◌, Vec, Result, IfOk, IfErr, OnOk}
use Rattle.std.specs.declared.alloc.Global.{Global}
use Rattle.clause_core.specs.declared.literal.Lit.{Lit}
use Rattle.gates.specs.declared.circuit.GateFault.{GateFault}
use Rattle.gates.specs.declared.circuit.GateFault.TheVariants.{TooMany}
use Rattle.gates.specs.Netlists.{Netlist, IsOverfull, IsWithinLimit, IsExtensionOf}
use Rattle.word_circuits.specs.Words.{MadeWord}

-- The word is the defined one, and so is the circuit, which keeps its limit. There are too many gates only where the defined circuit has too
-- many. Whatever the answer, the circuit still begins with the gates that it had.
pub record Makes (made : MadeWord) (old new : Netlist) (result : Result (Vec Lit Global) GateFault) : Type 0 where
  pub word : IfOk result (λ w. w.items ≡ made.word)
  pub net : OnOk result (new ≡ made.net)
  pub fits : OnOk result (IsWithinLimit new)
  pub too_many : IfErr result (λ fault. fault ≡ TooMany → IsOverfull made.net)
  pub extends : IsExtensionOf old new
