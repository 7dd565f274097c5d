-- What uses each number, while it is entered.
use Rattle.std.proofs.Common.{◌≡◌, ℕ, ◌+◌, ◌<◌, ◌≤◌, Bool, true, false, cond, eqb, ltb, List, [], ◌∷◌, ◌++◌, length, refl, arith, ◌∙◌, sym, ap, subst, ◌⊎◌, ⊎_elim}
use Rattle.std.proofs.lemmas.Bool.{cases_eq, cases_order, eq-eqb, ne_eqb, cond-true, cond-false, lt-ltb, le-ltb}
use Rattle.call_order.specs.Uses.{Graph, uses_at}
use Rattle.call_order.specs.Users.{times, GainsUser}
use Rattle.call_order.proofs.Counts.{weight, weight-true, weight-false, times-append, times-one}

same_cond : (b : Bool) (n : ℕ) → n ≡ 0 → cond b n 0 ≡ 0
same_cond true n e = e
same_cond false n e = refl

pub gains-none : (user : ℕ) (g : Graph) → GainsUser user [] g g
gains-none user g k other below = let e = same_cond (eqb other user) (times k []) refl in omega arith

-- a number from the length on gains nothing
pub gains-past : (user number : ℕ) (ns : List ℕ) (old new : Graph) → GainsUser user ns old new → length old ≤ number → GainsUser user (ns ++ number ∷ []) old new
gains-past user number ns old new is past k other below =
    let i = is k other below in
    let t : times k (ns ++ number ∷ []) ≡ times k ns =
    let a = times-append k ns (number ∷ []) in let b = times-one k number in
    let d : weight (eqb k number) ≡ 0 = weight-false (eqb k number) (ne_eqb k number (λ (e : k ≡ number). omega arith)) in omega arith in
    subst (λ (n : ℕ). times other (uses_at new k) ≡ times other (uses_at old k) + cond (eqb other user) n 0) (sym t) i

gained : (b : Bool) (more new old n m : ℕ) → more ≡ new + weight b → new ≡ old + cond b n 0 → m ≡ n + 1 → more ≡ old + cond b m 0
gained true more new old n m p q r = let w = weight-true true refl in omega arith
gained false more new old n m p q r = let w = weight-false false refl in omega arith

apart_both : (a b : ℕ) → (a < b) ⊎ (b < a) → a ≡ b → ⊥
apart_both a b h e = ⊎_elim (λ (l : a < b). omega arith) (λ (m : b < a). omega arith) h

-- a number below the length gains the user
pub gains-more : (user number : ℕ) (ns : List ℕ) (old new more : Graph) → GainsUser user ns old new
    → uses_at more number ≡ uses_at new number ++ user ∷ [] → ((k : ℕ) → (k ≡ number → ⊥) → uses_at more k ≡ uses_at new k) → GainsUser user (ns ++ number ∷ []) old more
gains-more user number ns old new more is here others k other below =
    let i = is k other below in
    let a = times-append k ns (number ∷ []) in
    let b = times-one k number in
    ⊎_elim (λ (e : k ≡ number).
    let d : weight (eqb k number) ≡ 1 = weight-true (eqb k number) (eq-eqb k number e) in
    let t : times k (ns ++ number ∷ []) ≡ times k ns + 1 = omega arith in
    let p : uses_at more k ≡ uses_at new k ++ user ∷ [] = subst (λ (n : ℕ). uses_at more n ≡ uses_at new n ++ user ∷ []) (sym e) here in
    let q : times other (uses_at more k) ≡ times other (uses_at new k) + weight (eqb other user) =
    ap (times other) p ∙ times-append other (uses_at new k) (user ∷ []) ∙ ap (λ n. times other (uses_at new k) + n) (times-one other user) in
    gained (eqb other user) (times other (uses_at more k)) (times other (uses_at new k)) (times other (uses_at old k)) (times k ns) (times k (ns ++ number ∷ [])) q i t)
    (λ apart.
    let d : weight (eqb k number) ≡ 0 = weight-false (eqb k number) (ne_eqb k number apart) in
    let t : times k (ns ++ number ∷ []) ≡ times k ns = omega arith in
    subst (λ (xs : List ℕ). times other xs ≡ times other (uses_at old k) + cond (eqb other user) (times k (ns ++ number ∷ [])) 0) (sym (others k apart))
    (subst (λ (n : ℕ). times other (uses_at new k) ≡ times other (uses_at old k) + cond (eqb other user) n 0) (sym t) i))
    (cases_eq k number)

-- each list of users, with one more user
pub users_more : (user k other now was : ℕ) (g : Graph) → now ≡ was + cond (eqb other user) (times k (uses_at g user)) 0 → was ≡ cond (ltb other user) (times k (uses_at g other)) 0 → now ≡ cond (ltb other (user + 1)) (times k (uses_at g other)) 0
users_more user k other now was g e i =
    ⊎_elim (λ (same : other ≡ user).
    let a : cond (eqb other user) (times k (uses_at g user)) 0 ≡ times k (uses_at g user) = cond-true (eqb other user) _ _ (eq-eqb other user same) in
    let b : cond (ltb other user) (times k (uses_at g other)) 0 ≡ 0 = cond-false (ltb other user) _ _ (le-ltb other user (omega arith)) in
    let d : cond (ltb other (user + 1)) (times k (uses_at g other)) 0 ≡ times k (uses_at g other) = cond-true (ltb other (user + 1)) _ _ (lt-ltb other (user + 1) (omega arith)) in
    let f : times k (uses_at g other) ≡ times k (uses_at g user) = ap (λ (n : ℕ). times k (uses_at g n)) same in
    omega arith)
    (λ apart.
    let a : cond (eqb other user) (times k (uses_at g user)) 0 ≡ 0 = cond-false (eqb other user) _ _ (ne_eqb other user (λ x. apart_both other user apart x)) in
    ⊎_elim (λ (l : other < user).
    let b : cond (ltb other user) (times k (uses_at g other)) 0 ≡ times k (uses_at g other) = cond-true (ltb other user) _ _ (lt-ltb other user l) in
    let d : cond (ltb other (user + 1)) (times k (uses_at g other)) 0 ≡ times k (uses_at g other) = cond-true (ltb other (user + 1)) _ _ (lt-ltb other (user + 1) (omega arith)) in
    omega arith)
    (λ (m : user < other).
    let b : cond (ltb other user) (times k (uses_at g other)) 0 ≡ 0 = cond-false (ltb other user) _ _ (le-ltb other user (omega arith)) in
    let d : cond (ltb other (user + 1)) (times k (uses_at g other)) 0 ≡ 0 = cond-false (ltb other (user + 1)) _ _ (le-ltb other (user + 1) (omega arith)) in
    omega arith)
    apart)
    (cases_order other user)
