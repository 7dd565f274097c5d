-- Literals of so many variables.
use Rattle.std.proofs.Common.{◌≡◌, ℕ, Bool, refl, sym, ap, subst, List, [], ◌∷◌}
use Rattle.std.specs.Prelude.{◌&&◌, IsTrue}
use Rattle.std.specs.List.{list_all}
use Rattle.clause_core.specs.declared.literal.Lit.{Lit}
use Rattle.clause_core.specs.Clauses.{is_inside}
use Rattle.query_formulas.specs.QueryClauses.{AreInside, negations}

negations_same : (v : ℕ) (ls : List Lit) → list_all (is_inside v) (negations ls) ≡ list_all (is_inside v) ls
negations_same v [] = refl
negations_same v (l ∷ ls) = ap (λ (b : Bool). is_inside v l && b) (negations_same v ls)

-- the negatives of literals are of the same variables
pub inside_negations : (v : ℕ) (ls : List Lit) → AreInside v ls → AreInside v (negations ls)
inside_negations v ls h = subst (λ (b : Bool). IsTrue b) (sym (negations_same v ls)) h
