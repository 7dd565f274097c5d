-- Formulas that begin with another.
use Rattle.std.proofs.Common.{◌≡◌, ℕ, List, [], ◌∷◌, ◌++◌, length, take, refl, sym, ◌∙◌, ap, arith, append_assoc, append-nil}
use Rattle.std.proofs.lemmas.List.{take-append-le, take_all}
use Rattle.clause_core.specs.declared.literal.Lit.{Lit}
use Rattle.clause_core.specs.Formula.{Formula, with_clause, first_clauses, BeginsWith}

pub BeginsWith-refl : (f : Formula) → BeginsWith f f
BeginsWith-refl f = record { variables = refl; more = []; clauses = sym (append-nil f.clauses) }

pub BeginsWith-trans : (f g h : Formula) → BeginsWith f g → BeginsWith g h → BeginsWith f h
BeginsWith-trans f g h one two = record {
  variables = two.variables ∙ one.variables;
  more = one.more ++ two.more;
  clauses = two.clauses ∙ ap (λ (cs : List (List Lit)). cs ++ two.more) one.clauses ∙ append_assoc f.clauses one.more two.more;
}

pub BeginsWith-same : (f g : Formula) → g ≡ f → BeginsWith f g
BeginsWith-same f g e = record {
  variables = ap (λ (x : Formula). x.variables) e;
  more = [];
  clauses = ap (λ (x : Formula). x.clauses) e ∙ sym (append-nil f.clauses);
}

pub BeginsWith-push : (f g : Formula) (c : List Lit) → g ≡ with_clause f c → BeginsWith f g
BeginsWith-push f g c e = record {
  variables = ap (λ (x : Formula). x.variables) e;
  more = c ∷ [];
  clauses = ap (λ (x : Formula). x.clauses) e;
}

-- what is behind is cut off
pub first_clauses-begins : (f later : Formula) (n : ℕ) → n ≡ length f.clauses → BeginsWith f later → first_clauses n later ≡ f
first_clauses-begins f later n e b =
    let made : ℕ → List (List Lit) → Formula = λ v cs. record { variables = v; clauses = cs } in
    ap (λ v. made v (take n later.clauses)) b.variables
    ∙ ap (made f.variables) (ap (take n) b.clauses ∙ take-append-le n f.clauses b.more (omega arith) ∙ take_all n f.clauses (omega arith))
