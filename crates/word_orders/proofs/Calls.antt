-- What the clauses of a call and the law of its operation say together.
use Rattle.std.proofs.Common.{◌≡◌, subst, sym, List, Result, Ok, Err}
use Rattle.std.specs.Prelude.{OnOk, IfOk}
use Rattle.clause_core.specs.declared.literal.Lit.{Lit}
use Rattle.gates.specs.Netlists.{Netlist}
use Rattle.gates.specs.Order.{IsOrdered}
use Rattle.word_circuits.specs.Words.{MadeWord}
use Rattle.word_orders.specs.Orders.{IsWordOf, MakesWord}

pub IsOrdered-after : {T E : Type 0} (r : Result T E) (before after : Netlist) (made : MadeWord) → MakesWord before made → OnOk r (after ≡ made.net) → OnOk r (IsOrdered after)
IsOrdered-after (Ok w) before after made h e = subst IsOrdered (sym e) h.ordered
IsOrdered-after (Err fault) before after made h e = tt

pub IsWordOf-after : {T E : Type 0} (r : Result T E) (word : T → List Lit) (before after : Netlist) (made : MadeWord) → MakesWord before made → OnOk r (after ≡ made.net) → IfOk r (λ w. word w ≡ made.word) → IfOk r (λ w. IsWordOf after (word w))
IsWordOf-after (Ok w) word before after made h e f = subst (λ (n : Netlist). IsWordOf n (word w)) (sym e) (subst (IsWordOf made.net) (sym f) h.word)
IsWordOf-after (Err fault) word before after made h e f = tt
