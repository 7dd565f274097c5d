-- What a deletion comes to, in the list of all that is held.
use Rattle.std.proofs.Common.{◌≡◌, ◌≢◌, ℕ, zero, suc, ◌<◌, ◌≤◌, ◌+◌, Bool, true, false, not, ◌&&◌, ◌||◌, ◌==◌, List, [], ◌∷◌, cond, nat_lt, length, take, drop, set, get_or, Some, None, refl, sym, ◌∙◌, ap, subst, arith}
use Rattle.std.specs.Prelude.{◌-◌, slice_get}
use Rattle.std.specs.List.{list_any}
use Rattle.std.proofs.lemmas.Bool.{or_parts, or_from, lt-ltb}
use Rattle.std.proofs.lemmas.Bool.Decides.{nat_tests}
use Rattle.std.proofs.lemmas.Option.{slice_get_read}
use Rattle.std.proofs.lemmas.List.{length-take-le, take-append-drop, take-set-le, drop-set-add}
use Rattle.clause_core.specs.declared.literal.Lit.{Lit}
use Rattle.clause_core.specs.Deletions.{always, is_always, is_covered, without_clause}
use Rattle.clause_core.specs.Formula.{Formula}
use Rattle.clause_core.specs.Satisfaction.{formula_true, clause_true}
use Rattle.clause_core.proofs.Always.{clause_true-always}
use Rattle.clause_core.proofs.Ranges.{list_all-set}
use Rattle.derivation_check.specs.Checks.{Derivation, derivation_from}
use Rattle.derivation_check.specs.Deletions.{derived_at, may_delete_clause, may_delete, without}
use Rattle.derivation_check.specs.Inside.{is_empty}
use Rattle.derivation_check.proofs.Pushed.{Pushed}

slice_get-drop : (n i k : ℕ) (cs : List (List Lit)) → k ≡ n + i → slice_get (drop n cs) i ≡ slice_get cs k
slice_get-drop zero i k cs e = let same : i ≡ k = omega (arith, e) in ap (slice_get cs) same
slice_get-drop (suc n) i k [] e = refl
slice_get-drop (suc n) i zero (c ∷ cs) e = absurd (omega (arith, e))
slice_get-drop (suc n) i (suc k) (c ∷ cs) e = slice_get-drop n i k cs (omega (arith, e))

not_above : (a b : ℕ) → b ≤ a → nat_lt a b ≡ false
not_above a b h = grind (arith, nat_tests)

and_false : (b : Bool) → (b && false) ≡ false
and_false true = refl
and_false false = refl

-- the number's clause
derived-at : (given : ℕ) (f : Formula) (number k : ℕ) → given ≤ length f.clauses → given < number → suc k ≡ number → derived_at (derivation_from given f) number ≡ slice_get f.clauses k
derived-at given f number k few lt e =
    let size : length (take given f.clauses) ≡ given = length-take-le given f.clauses few in
    ap (λ n. cond (nat_lt n number) (slice_get (drop given f.clauses) (number - 1 - n)) None) size
    ∙ ap (λ b. cond b (slice_get (drop given f.clauses) (number - 1 - given)) None) (lt-ltb given number lt)
    ∙ slice_get-drop given (number - 1 - given) k f.clauses (omega (arith, lt, e))

may-none : (d : Derivation) (number : ℕ) → derived_at d number ≡ None → may_delete d number ≡ false
may-none d number is = ap (λ o. nat_lt 0 d.formula.variables && may_delete_clause d number o) is ∙ and_false (nat_lt 0 d.formula.variables)

-- a clause of the formula
pub may-given : (given : ℕ) (f : Formula) (number : ℕ) → given ≤ length f.clauses → number ≤ given → may_delete (derivation_from given f) number ≡ false
may-given given f number few le =
    let size : length (take given f.clauses) ≡ given = length-take-le given f.clauses few in
    may-none (derivation_from given f) number
    (ap (λ n. cond (nat_lt n number) (slice_get (drop given f.clauses) (number - 1 - n)) None) size
    ∙ ap (λ b. cond b (slice_get (drop given f.clauses) (number - 1 - given)) None) (not_above given number le))

-- a number past all
pub may-past : (given : ℕ) (f : Formula) (number k : ℕ) → given ≤ length f.clauses → given < number → suc k ≡ number → slice_get f.clauses k ≡ None
    → may_delete (derivation_from given f) number ≡ false
may-past given f number k few lt e is = may-none (derivation_from given f) number (derived-at given f number k few lt e ∙ is)

-- a formula of no variable
pub may-without-variables : (given : ℕ) (f : Formula) (number : ℕ) → f.variables ≡ 0 → may_delete (derivation_from given f) number ≡ false
may-without-variables given f number none =
    ap (λ n. nat_lt 0 n && may_delete_clause (derivation_from given f) number (derived_at (derivation_from given f) number)) none

above_zero : (n : ℕ) → 1 ≤ n → nat_lt 0 n ≡ true
above_zero n h = grind (arith, nat_tests)

-- a derived clause
pub may-derived : (given : ℕ) (f : Formula) (number k : ℕ) (clause : List Lit) → given ≤ length f.clauses → given < number → suc k ≡ number → 1 ≤ f.variables
    → slice_get f.clauses k ≡ Some clause → may_delete (derivation_from given f) number ≡ (not (is_always clause) && is_covered f.clauses number clause)
may-derived given f number k clause few lt e some is =
    let d = derivation_from given f in
    ap (λ b. b && may_delete_clause d number (derived_at d number)) (above_zero f.variables some)
    ∙ ap (may_delete_clause d number) (derived-at given f number k few lt e ∙ is)
    ∙ ap (λ cs. not (is_always clause) && is_covered cs number clause) (take-append-drop given f.clauses)

-- what is left
pub without-from : (given : ℕ) (f : Formula) (number k : ℕ) → given ≤ length f.clauses → given < number → suc k ≡ number
    → derivation_from given (without_clause k f) ≡ without (derivation_from given f) number
without-from given f number k few lt e =
    let made : List (List Lit) → List (List Lit) → Derivation = λ front back. record { formula = record { variables = f.variables; clauses = front }; derived = back } in
    let size : length (take given f.clauses) ≡ given = length-take-le given f.clauses few in
    let split : k ≡ given + (number - 1 - given) = omega (arith, lt, e) in
    let front : take given (set f.clauses k always) ≡ take given f.clauses = take-set-le given f.clauses k always (omega (arith, lt, e)) in
    let back : drop given (set f.clauses k always) ≡ set (drop given f.clauses) (number - 1 - given) always =
    ap (λ n. drop given (set f.clauses n always)) split ∙ drop-set-add given f.clauses (number - 1 - given) always
    in
    ap (λ z. made z (drop given (set f.clauses k always))) front
    ∙ ap (made (take given f.clauses)) back
    ∙ ap (λ n. made (take given f.clauses) (set (drop given f.clauses) (number - 1 - n) always)) (sym size)

any-set : (cs : List (List Lit)) (i : ℕ) → list_any is_empty cs ≡ false → list_any is_empty (set cs i always) ≡ false
any-set [] i h = h
any-set (c ∷ cs) zero h = (or_parts (is_empty c) (list_any is_empty cs) h).1
any-set (c ∷ cs) (suc i) h =
    let q = or_parts (is_empty c) (list_any is_empty cs) h in
    or_from (is_empty c) (list_any is_empty (set cs i always)) q.0 (any-set cs i q.1)

looked_anew : (was : Bool) (cs : List (List Lit)) (i : ℕ) → was ≡ list_any is_empty cs → (was && list_any is_empty (set cs i always)) ≡ list_any is_empty (set cs i always)
looked_anew true cs i h = refl
looked_anew false cs i h = sym (any-set cs i (sym h))

-- what a checker keeps, where a derived clause is held no more
pub Pushed-deleted : (given : ℕ) (held left : List (List Lit)) (was now : Bool) (number k : ℕ) → given < number → suc k ≡ number → left ≡ set held k always → length left ≡ length held
    → now ≡ (was && list_any is_empty (drop given left)) → Pushed given held was → Pushed given left now
Pushed-deleted given held left was now number k lt e l size n p =
    let split : k ≡ given + (number - 1 - given) = omega (arith, lt, e) in
    let front : take given (set held k always) ≡ take given held = take-set-le given held k always (omega (arith, lt, e)) in
    let back : drop given left ≡ set (drop given held) (number - 1 - given) always =
    ap (drop given) l ∙ ap (λ i. drop given (set held i always)) split ∙ drop-set-add given held (number - 1 - given) always
    in
    record {
      few = let few = p.few in omega (arith, few, size);
      implied = λ v f.
          let before : formula_true v (take given held) ≡ true = subst (λ cs. formula_true v cs ≡ true) (ap (take given) l ∙ front) f in
          subst (λ cs. formula_true v cs ≡ true) (sym l) (list_all-set (clause_true v) held k always (p.implied v before) (clause_true-always v));
      refuted = n ∙ ap (λ cs. was && list_any is_empty cs) back ∙ looked_anew was (drop given held) (number - 1 - given) p.refuted ∙ ap (list_any is_empty) (sym back);
    }

lower : (a b : ℕ) → nat_lt a b ≡ true → a < b
lower a b h = grind (arith, nat_tests)

-- the clause that stands at the number
pub may-judged : (given : ℕ) (f : Formula) (number : ℕ) (held : List (List Lit)) (clause literals : List Lit) → given ≤ length f.clauses → given < number → 1 ≤ f.variables
    → held ≡ f.clauses → true ≡ nat_lt (number - 1) (length held) → clause ≡ get_or held (number - 1) clause → literals ≡ clause
    → may_delete (derivation_from given f) number ≡ (not (is_always literals) && is_covered f.clauses number literals)
may-judged given f number held clause literals few lt some same inside at is =
    let there : slice_get held (number - 1) ≡ Some clause = slice_get_read held (length held) (number - 1) clause refl (lower (number - 1) (length held) (sym inside)) at in
    let found : slice_get f.clauses (number - 1) ≡ Some clause = subst (λ cs. slice_get cs (number - 1) ≡ Some clause) same there in
    may-derived given f number (number - 1) clause few lt (omega (arith, lt)) some found ∙ ap (λ c. not (is_always c) && is_covered f.clauses number c) (sym is)
