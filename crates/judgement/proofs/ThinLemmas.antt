-- Clauses that are held no more: what is left follows from the formula still, and is all that was ever held, thinned.
use Rattle.std.proofs.Common.{◌≡◌, ℕ, zero, suc, ◌+◌, ◌-◌, ◌<◌, Bool, true, false, not, List, [], ◌∷◌, ◌++◌, length, Option, Some, None, refl, sym, ap, ◌∙◌, subst, arith}
use Rattle.std.specs.Prelude.{nat_lt, if◌then◌else◌, slice_get, slice_set}
use Rattle.std.proofs.lemmas.Bool.{false≢true, and_parts, and_from, ltb-true, lt-ltb}
use Rattle.std.proofs.lemmas.List.{set-append_right}
use Rattle.std.proofs.lemmas.List.Folds.{list_all-append}
use Rattle.clause_core.specs.declared.literal.Lit.{Lit}
use Rattle.clause_core.specs.Satisfaction.{clause_true, formula_true}
use Rattle.clause_core.specs.Deletions.{always, is_always, is_covered, IsDeletion, without_number, Thinned, deleted}
use Rattle.clause_core.proofs.Always.{clause_true-always, is_covered-by}
use Rattle.clause_core.proofs.Ranges.{list_all-set}
use Rattle.derivation_check.specs.Checks.{Derivation, held_of}
use Rattle.derivation_check.specs.Deletions.{derived_place, derived_at, may_delete_clause, may_delete, without}
use Rattle.judgement.specs.Known.{Implies}

-- what stands behind a list's end stands in the list that follows it
slice_get-behind : {X : Type 0} (xs ys : List X) (at i : ℕ) → at ≡ length xs + i → slice_get (xs ++ ys) at ≡ slice_get ys i
slice_get-behind [] ys at i e = ap (slice_get ys) (omega (arith, e))
slice_get-behind (x ∷ xs) ys zero i e = absurd (omega (arith, e))
slice_get-behind (x ∷ xs) ys (suc at) i e = slice_get-behind xs ys at i (omega (arith, e))

chosen_some : {X : Type 0} (b : Bool) (o : Option X) (x : X) → (if b then o else None) ≡ Some x → (b ≡ true) × (o ≡ Some x)
chosen_some true o x e = (refl, e)
chosen_some false o x e = absurd (let h : ⊥ = cc in h)

held_of-without : (d : Derivation) (n : ℕ) → nat_lt (length d.formula.clauses) n ≡ true → slice_set (held_of d) (n - 1) always ≡ held_of (without d n)
held_of-without d n behind =
    let lt = ltb-true (length d.formula.clauses) n behind in
    set-append_right d.formula.clauses d.derived (length d.formula.clauses) (n - 1) always refl (omega (arith, lt))

thinned-at : (all : List (List Lit)) (d : Derivation) (n : ℕ) (o : Option (List Lit)) → derived_at d n ≡ o → Thinned all (held_of d)
    → may_delete_clause d n o ≡ true → Thinned all (held_of (without d n))
thinned-at all d n None is t may = absurd (false≢true may)
thinned-at all d n (Some clause) is t may =
    let at = chosen_some (nat_lt (length d.formula.clauses) n) (slice_get d.derived (derived_place d n)) clause is in
    let lt : length d.formula.clauses < n = ltb-true (length d.formula.clauses) n at.0 in
    let number : n ≡ suc (n - 1) = omega (arith, lt) in
    let covered = (and_parts (not (is_always clause)) (is_covered (held_of d) n clause) may).1 in
    let by = is_covered-by (held_of d) (n - 1) clause (subst (λ k. is_covered (held_of d) k clause ≡ true) number covered) in
    let there : slice_get (held_of d) (n - 1) ≡ Some clause =
    slice_get-behind d.formula.clauses d.derived (n - 1) (derived_place d n) (omega (arith, lt)) ∙ at.1 in
    subst (Thinned all) (held_of-without d n at.0) (deleted all (held_of d) (n - 1) by.0 clause by.1 t by.2 there by.3 by.4)

pub thinned-without : (all : List (List Lit)) (d : Derivation) (n : ℕ) → Thinned all (held_of d) → may_delete d n ≡ true → Thinned all (held_of (without d n))
thinned-without all d n t may =
    thinned-at all d n (derived_at d n) refl t (and_parts (nat_lt 0 d.formula.variables) (may_delete_clause d n (derived_at d n)) may).1

pub Implies-without : (d : Derivation) (n : ℕ) (formula : List (List Lit)) → Implies formula (held_of d) → Implies formula (held_of (without d n))
Implies-without d n formula implies v sat =
    let all : formula_true v (held_of d) ≡ true = implies v sat in
    let parts = and_parts (formula_true v d.formula.clauses) (formula_true v d.derived) (sym (list_all-append (clause_true v) d.formula.clauses d.derived) ∙ all) in
    let left = slice_set d.derived (derived_place d n) always in
    list_all-append (clause_true v) d.formula.clauses left
    ∙ and_from (formula_true v d.formula.clauses) (formula_true v left) parts.0
    (list_all-set (clause_true v) d.derived (derived_place d n) always parts.1 (clause_true-always v))

chosen : {X : Type 0} (b : Bool) (o : Option X) (x : X) → b ≡ true → o ≡ Some x → (if b then o else None) ≡ Some x
chosen true o x e is = is
chosen false o x e is = absurd (false≢true e)

-- what a decider deletes may be held no more
pub may-deletion : (d : Derivation) (n : ℕ) → IsDeletion d.formula.variables (length d.formula.clauses) (held_of d) n → may_delete d n ≡ true
may-deletion d n is =
    let lt : length d.formula.clauses < n = is.derived in
    let behind : slice_get (held_of d) (n - 1) ≡ slice_get d.derived (derived_place d n) =
    slice_get-behind d.formula.clauses d.derived (n - 1) (derived_place d n) (omega (arith, lt)) in
    let there : derived_at d n ≡ Some is.clause = chosen (nat_lt (length d.formula.clauses) n) (slice_get d.derived (derived_place d n)) is.clause (lt-ltb (length d.formula.clauses) n lt) (sym behind ∙ is.stands) in
    and_from (nat_lt 0 d.formula.variables) (may_delete_clause d n (derived_at d n)) (lt-ltb 0 d.formula.variables is.some)
    (ap (may_delete_clause d n) there
    ∙ and_from (not (is_always is.clause)) (is_covered (held_of d) n is.clause) (ap not is.stays) is.covered)

-- and what is held then
pub held_of-deletion : (d : Derivation) (n : ℕ) → IsDeletion d.formula.variables (length d.formula.clauses) (held_of d) n → without_number n (held_of d) ≡ held_of (without d n)
held_of-deletion d n is = held_of-without d n (lt-ltb (length d.formula.clauses) n is.derived)
