-- One gate of a range of them, and the rest of it.
use Rattle.std.proofs.Common.{◌≡◌, ℕ, suc, ◌+◌, ◌-◌, take, drop, ◌<◌, ◌≤◌, true, sym, ◌∙◌, ap, List, ◌∷◌, ◌++◌, length, slice_range, slice_index_or, arith}
use Rattle.std.specs.Prelude.{IsTrue}
use Rattle.std.proofs.Math.Seq.{drop-cons}
use Rattle.std.proofs.lemmas.Bool.{and_parts}
use Rattle.std.proofs.lemmas.List.{append_assoc}
use Rattle.clause_core.specs.declared.literal.Lit.{Lit}
use Rattle.clause_core.specs.declared.gate.Gate.{Gate}
use Rattle.clause_core.specs.Formula.{Formula}
use Rattle.gates.specs.Clauses.{gate_clauses, clauses_from, with_clauses}
use Rattle.gates.specs.Order.{gate_below, is_ordered}

pub range_next : (gs : List Gate) (i n : ℕ) (d : Gate) → i < n → n ≤ length gs → slice_range gs i n ≡ slice_index_or gs i d ∷ slice_range gs (i + 1) n
range_next gs i n d below inside =
    let more : n - i ≡ suc (n - (i + 1)) = omega (arith, below) in
    let here : drop i gs ≡ slice_index_or gs i d ∷ drop (i + 1) gs = drop-cons gs i d (omega (arith, below, inside)) ∙ ap (λ k. slice_index_or gs i d ∷ drop k gs) (let same : suc i ≡ i + 1 = omega arith in same) in
    ap (λ k. take k (drop i gs)) more ∙ ap (λ (hs : List Gate). take (suc (n - (i + 1))) hs) here

pub ordered_next : (x : ℕ) (g : Gate) (all gs : List Gate) → all ≡ g ∷ gs → is_ordered x all ≡ true → IsTrue (gate_below x g) × (is_ordered (x + 1) gs ≡ true)
ordered_next x g all gs e ordered =
    let (here, rest) = and_parts (gate_below x g) (is_ordered (x + 1) gs) (ap (is_ordered x) (sym e) ∙ ordered) in
    (here, rest)

-- what one gate adds, and then the others
pub clauses_next : (f : Formula) (x : ℕ) (g : Gate) (all gs : List Gate) → all ≡ g ∷ gs → with_clauses (with_clauses f (gate_clauses x g)) (clauses_from (x + 1) gs) ≡ with_clauses f (clauses_from x all)
clauses_next f x g all gs e =
    ap (λ (cs : List (List Lit)). let h : Formula = record { variables = f.variables; clauses = cs } in h) (append_assoc f.clauses (gate_clauses x g) (clauses_from (x + 1) gs))
    ∙ ap (λ (hs : List Gate). with_clauses f (clauses_from x hs)) (sym e)
