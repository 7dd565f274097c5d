-- What a test of fresh clauses holds stays enough.
use Rattle.std.proofs.Common.{◌≡◌, ℕ, ◌+◌, ◌++◌, ◌∷◌, [], List, length, ◌∙◌, subst}
use Rattle.std.proofs.lemmas.List.Sums.{AllPass-from_list_all, list_all-from_AllPass}
use Rattle.clause_core.specs.declared.literal.Lit.{Lit}
use Rattle.clause_core.specs.declared.truth.Truth.{Truth}
use Rattle.clause_core.specs.Deletions.{always, without_clause}
use Rattle.clause_core.specs.Formula.{Formula, with_clause}
use Rattle.clause_core.specs.Freshness.{unforced, Unforced, IsFresh}
use Rattle.clause_core.proofs.Always.{unforced-always}
use Rattle.clause_core.proofs.Ranges.{list_all-push, list_all-front, list_all-set}
use Rattle.watched_propagation.specs.Propagations.{Propagation}
use Rattle.derivation_check.specs.Tests.{IsOver}

unforced-push : (vs : List Truth) (held cs : List (List Lit)) (c : List Lit) → (Unforced held vs → Unforced cs vs) → Unforced (held ++ c ∷ []) vs → Unforced (cs ++ c ∷ []) vs
unforced-push vs held cs c goes un =
    let both = list_all-front (unforced vs) held c (list_all-from_AllPass (unforced vs) (held ++ c ∷ []) un) in
    let before : Unforced cs vs = goes (AllPass-from_list_all (unforced vs) held both.0) in
    AllPass-from_list_all (unforced vs) (cs ++ c ∷ []) (list_all-push (unforced vs) cs c (list_all-from_AllPass (unforced vs) cs before) both.1)

unforced-set : (vs : List Truth) (cs : List (List Lit)) (place : ℕ) → Unforced cs vs → Unforced (without_clause place (record { variables = 0; clauses = cs })).clauses vs
unforced-set vs cs place un =
    AllPass-from_list_all (unforced vs) ((without_clause place (record { variables = 0; clauses = cs })).clauses)
    (list_all-set (unforced vs) cs place always (list_all-from_AllPass (unforced vs) cs un) (unforced-always vs))

-- the same clauses
pub IsOver-made : (f : Formula) (p : Propagation) → p.held ≡ f.clauses → length p.values ≡ f.variables + 1 → IsOver f p
IsOver-made f p same size = record { held = λ vs un. subst (λ cs. Unforced cs vs) same un; size = size }

-- other values
pub IsOver-moved : (f : Formula) (p moved : Propagation) → moved.held ≡ p.held → length moved.values ≡ length p.values → IsOver f p → IsOver f moved
IsOver-moved f p moved same size over = record { held = λ vs un. over.held vs (subst (λ cs. Unforced cs vs) same un); size = size ∙ over.size }

-- a clause more
pub IsOver-push : (f : Formula) (p grown : Propagation) (c : List Lit) → grown.held ≡ p.held ++ c ∷ [] → length grown.values ≡ length p.values → IsOver f p
    → IsOver (with_clause f c) grown
IsOver-push f p grown c more size over = record {
  held = λ vs un. unforced-push vs p.held f.clauses c (over.held vs) (subst (λ cs. Unforced cs vs) more un);
  size = size ∙ over.size;
}

-- a clause that the formula holds no more
pub IsOver-gone : (f : Formula) (place : ℕ) (p : Propagation) → IsOver f p → IsOver (without_clause place f) p
IsOver-gone f place p over = record { held = λ vs un. unforced-set vs f.clauses place (over.held vs un); size = over.size }

-- what is fresh over what the test holds is so over the formula
pub IsFresh-over : (f : Formula) (p : Propagation) (clause : List Lit) → IsOver f p → IsFresh p.held clause → IsFresh f.clauses clause
IsFresh-over f p clause over fresh =
    let shows = fresh.2 in
    (fresh.0, fresh.1, record { inside = shows.inside; others = shows.others; itself = shows.itself; unforced = over.held fresh.1 shows.unforced })
