-- How often numbers stand in lists, and how many are not taken.
use Rattle.std.proofs.Common.{◌≡◌, ℕ, ◌+◌, ◌<◌, ◌≤◌, Bool, true, false, not, ◌&&◌, ◌||◌, cond, eqb, ltb, List, [], ◌∷◌, ◌++◌, length, get_or, refl, arith, ◌∙◌, sym, ap, subst, ◌⊎◌, inl, inr, ⊎_elim}
use Rattle.std.specs.List.{All, list_all, count_by}
use Rattle.std.specs.Ordering.{nat_cmp}
use Rattle.std.specs.Cmp.{nat_cmp_is}
use Rattle.std.specs.BTreeSet.{insert_key}
use Rattle.std.specs.BTreeMap.Range.{IsLtBy}
use Rattle.std.specs.declared.cmp.Ordering.TheVariants.{Less, Equal, Greater}
use Rattle.std.proofs.Math.Bool.{or-false, or_assoc, or_comm, or_self_left}
use Rattle.std.proofs.lemmas.Bool.{cases_Bool, cases_eq, cases_order, cases_lt, eq-eqb, ne_eqb, cond-true, cond-false, or_cases, or_right, and_right, and_parts, and_from, not_from_false, not_from_true, both_ways, lt-ltb, le-ltb}
use Rattle.std.proofs.lemmas.List.{get_or_past, get_or_at, length-append}
use Rattle.std.proofs.lemmas.List.Sums.{sum_by-append, sum_by-cons}
use Rattle.call_order.specs.Uses.{Graph, uses_at, is_among}
use Rattle.call_order.specs.Users.{times}
use Rattle.call_order.proofs.Members.{is_among-head, is_among-append, is_among-parts}

-- small facts on tests
out_of : (x k : ℕ) (b : Bool) → eqb x k ≡ false → (b || is_among x (k ∷ [])) ≡ b
out_of x k true h = refl
out_of x k false h = subst (λ (t : Bool). (t || false) ≡ false) (sym h) refl

-- how two numbers compare
compared_less : (a b : ℕ) → a < b → nat_cmp a b ≡ Less
compared_less a b h = sym (nat_cmp_is a b Less h)

compared_equal : (a b : ℕ) → a ≡ b → nat_cmp a b ≡ Equal
compared_equal a b h = sym (nat_cmp_is a b Equal h)

compared_greater : (a b : ℕ) → b < a → nat_cmp a b ≡ Greater
compared_greater a b h = sym (nat_cmp_is a b Greater h)

three : (a b : ℕ) → (a < b) ⊎ ((a ≡ b) ⊎ (b < a))
three a b = ⊎_elim (λ e. inr (inl e)) (λ o. ⊎_elim (λ l. inl l) (λ m. inr (inr m)) o) (cases_order a b)

less_than : (a b : ℕ) → nat_cmp a b ≡ Less → a < b
less_than a b h =
    ⊎_elim (λ (l : a < b). l)
    (λ rest. ⊎_elim (λ (e : a ≡ b). let f = compared_equal a b e in cc) (λ (m : b < a). let f = compared_greater a b m in cc) rest)
    (three a b)

-- two tests that hold together
pub same_test : (a b : Bool) → (a ≡ true → b ≡ true) → (b ≡ true → a ≡ true) → a ≡ b
same_test true b f g = sym (f refl)
same_test false true f g = g refl
same_test false false f g = refl

-- what a test counts
pub weight : Bool → ℕ
weight b = cond b 1 0

pub weight-true : (b : Bool) → b ≡ true → weight b ≡ 1
unfolding weight
weight-true b h = cond-true b 1 0 h

pub weight-false : (b : Bool) → b ≡ false → weight b ≡ 0
unfolding weight
weight-false b h = cond-false b 1 0 h

pub times-append : (k : ℕ) (xs ys : List ℕ) → times k (xs ++ ys) ≡ times k xs + times k ys
times-append k xs ys = sum_by-append (λ n. cond (eqb k n) 1 0) xs ys

pub times-cons : (k x : ℕ) (xs : List ℕ) → times k (x ∷ xs) ≡ weight (eqb k x) + times k xs
unfolding weight
times-cons k x xs = sum_by-cons (λ n. cond (eqb k n) 1 0) x xs

pub times-one : (k x : ℕ) → times k (x ∷ []) ≡ weight (eqb k x)
times-one k x = times-cons k x [] ∙ omega arith

pub times-none : (k : ℕ) (xs : List ℕ) → is_among k xs ≡ false → times k xs ≡ 0
times-none k [] h = refl
times-none k (x ∷ xs) h =
    let r = times-none k xs in
    let s = times-cons k x xs in
    ⊎_elim (λ e. absurd (both_ways _ h (subst (λ (b : Bool). (b || is_among k xs) ≡ true) (sym e) refl)))
    (λ e. let c : weight (eqb k x) ≡ 0 = weight-false (eqb k x) e in
    let t : times k xs ≡ 0 = r (subst (λ (b : Bool). (b || is_among k xs) ≡ false) e h) in omega arith)
    (cases_Bool (eqb k x))

pub times-some : (k : ℕ) (xs : List ℕ) → is_among k xs ≡ true → 1 ≤ times k xs
times-some k [] h = cc
times-some k (x ∷ xs) h =
    let r = times-some k xs in
    let s = times-cons k x xs in
    ⊎_elim (λ e. let c : weight (eqb k x) ≡ 1 = weight-true (eqb k x) e in omega arith)
    (λ more. let t : 1 ≤ times k xs = r more in omega arith)
    (or_cases _ _ h)

pub among-from_times : (k : ℕ) (xs : List ℕ) → 1 ≤ times k xs → is_among k xs ≡ true
among-from_times k xs h = ⊎_elim (λ t. t) (λ f. let n = times-none k xs f in absurd (omega arith)) (cases_Bool (is_among k xs))

-- how many numbers are not taken
abbrev pub untaken : List ℕ → List ℕ → ℕ
untaken taken xs = count_by (λ u. not (is_among u taken)) xs

untaken-cons : (taken : List ℕ) (x : ℕ) (xs : List ℕ) → untaken taken (x ∷ xs) ≡ weight (not (is_among x taken)) + untaken taken xs
unfolding weight
untaken-cons taken x xs = sum_by-cons (λ u. cond (not (is_among u taken)) 1 0) x xs

pub untaken-none : (xs : List ℕ) → untaken [] xs ≡ length xs
untaken-none [] = refl
untaken-none (x ∷ xs) = let w = weight-true true refl in let s = untaken-cons [] x xs in let r = untaken-none xs in omega arith

pub untaken-zero : (taken xs : List ℕ) → untaken taken xs ≡ 0 → list_all (λ u. is_among u taken) xs ≡ true
untaken-zero taken [] e = refl
untaken-zero taken (x ∷ xs) e =
    let r = untaken-zero taken xs in
    let s = untaken-cons taken x xs in
    ⊎_elim (λ t. and_from _ _ t (r (omega arith)))
    (λ f. let c : weight (not (is_among x taken)) ≡ 1 = weight-true (not (is_among x taken)) (not_from_false _ f) in absurd (omega arith))
    (cases_Bool (is_among x taken))

pub zero-untaken : (taken xs : List ℕ) → list_all (λ u. is_among u taken) xs ≡ true → untaken taken xs ≡ 0
zero-untaken taken [] h = refl
zero-untaken taken (x ∷ xs) h =
    let p = and_parts (is_among x taken) (list_all (λ u. is_among u taken) xs) h in
    let r = zero-untaken taken xs p.1 in
    let s = untaken-cons taken x xs in
    let c : weight (not (is_among x taken)) ≡ 0 = weight-false (not (is_among x taken)) (not_from_true _ p.0) in omega arith

untaken_one : (taken : List ℕ) (k x : ℕ) → is_among k taken ≡ false → weight (not (is_among x (taken ++ k ∷ []))) + weight (eqb k x) ≡ weight (not (is_among x taken))
untaken_one taken k x out =
    ⊎_elim (λ (e : k ≡ x).
    let is_k : eqb k x ≡ true = eq-eqb k x e in
    let gone : is_among x taken ≡ false = subst (λ (n : ℕ). is_among n taken ≡ false) e out in
    let now : is_among x (taken ++ k ∷ []) ≡ true = is_among-append x taken (k ∷ []) ∙ subst (λ (n : ℕ). (is_among x taken || is_among x (n ∷ [])) ≡ true) (sym e) (or_right _ _ (is_among-head x [])) in
    let a : weight (not (is_among x (taken ++ k ∷ []))) ≡ 0 = weight-false (not (is_among x (taken ++ k ∷ []))) (not_from_true _ now) in
    let b : weight (eqb k x) ≡ 1 = weight-true (eqb k x) is_k in
    let d : weight (not (is_among x taken)) ≡ 1 = weight-true (not (is_among x taken)) (not_from_false _ gone) in
    omega arith)
    (λ other.
    let not_k : eqb k x ≡ false = ne_eqb k x other in
    let not_x : eqb x k ≡ false = ne_eqb x k (λ e. other (sym e)) in
    let same : is_among x (taken ++ k ∷ []) ≡ is_among x taken = is_among-append x taken (k ∷ []) ∙ out_of x k (is_among x taken) not_x in
    let a : weight (not (is_among x (taken ++ k ∷ []))) ≡ weight (not (is_among x taken)) = ap (λ (b : Bool). weight (not b)) same in
    let b : weight (eqb k x) ≡ 0 = weight-false (eqb k x) not_k in
    omega arith)
    (cases_eq k x)

pub untaken-more : (taken : List ℕ) (k : ℕ) (xs : List ℕ) → is_among k taken ≡ false → untaken (taken ++ k ∷ []) xs + times k xs ≡ untaken taken xs
untaken-more taken k [] out = refl
untaken-more taken k (x ∷ xs) out =
    let a = untaken-cons (taken ++ k ∷ []) x xs in let b = untaken-cons taken x xs in let d = times-cons k x xs in
    let r = untaken-more taken k xs out in let one = untaken_one taken k x out in omega arith

-- one number more in an ordered set
pub is_among-insert : (k : ℕ) (xs : List ℕ) (y : ℕ) → is_among k (insert_key nat_cmp xs y) ≡ (is_among k xs || eqb k y)
is_among-insert k [] y = or-false (eqb k y)
is_among-insert k (x ∷ xs) y =
    let r = is_among-insert k xs y in
    ⊎_elim (λ (less : y < x). rw (compared_less y x less) (or_comm (eqb k y) (eqb k x || is_among k xs)))
    (λ rest. ⊎_elim (λ (same : y ≡ x). rw (compared_equal y x same) (subst (λ (n : ℕ). (eqb k x || is_among k xs) ≡ ((eqb k x || is_among k xs) || eqb k n)) (sym same) (sym (or_comm (eqb k x || is_among k xs) (eqb k x) ∙ or_self_left (eqb k x) (is_among k xs)))))
    (λ more. rw (compared_greater y x more) (ap (λ (b : Bool). eqb k x || b) r ∙ sym (or_assoc (eqb k x) (is_among k xs) (eqb k y))))
    rest)
    (three y x)

-- what is above a number, by the set's order
pub above : (k j : ℕ) (rest : List ℕ) → All (IsLtBy nat_cmp k) rest → is_among j rest ≡ true → k < j
above k j rest all m =
    let p = is_among-parts j rest m in
    let place : get_or rest (length p.0) j ≡ j = ap (λ (xs : List ℕ). get_or xs (length p.0) j) p.2 ∙ get_or_at p.0 j p.1 j (length p.0) refl in
    let inside : length p.0 < length rest = let e = ap length p.2 in let l = length-append p.0 (j ∷ p.1) in omega arith in
    less_than k j (subst (λ (n : ℕ). nat_cmp k n ≡ Less) place (all (length p.0) j inside))

-- what is neither below the length nor uses anything
pub past_times : (g : Graph) (k user : ℕ) → length g ≤ user → times k (uses_at g user) ≡ 0
past_times g k user past = ap (times k) (get_or_past g user [] past)

one_further : (k i : ℕ) → (k ≡ i → ⊥) → ltb k i ≡ ltb k (i + 1)
one_further k i apart =
    ⊎_elim (λ (l : k < i). lt-ltb k i l ∙ sym (lt-ltb k (i + 1) (omega arith)))
    (λ (m : i ≤ k). le-ltb k i m ∙ sym (le-ltb k (i + 1) (omega arith)))
    (cases_lt k i)

-- what is ready at first, one number further
pub ready-inserted : (g : Graph) (i : ℕ) (ready : List ℕ) → ((k : ℕ) → is_among k ready ≡ (ltb k i && eqb (length (uses_at g k)) 0)) → eqb (length (uses_at g i)) 0 ≡ true
    → (k : ℕ) → is_among k (insert_key nat_cmp ready i) ≡ (ltb k (i + 1) && eqb (length (uses_at g k)) 0)
ready-inserted g i ready is none k =
    is_among-insert k ready i ∙
    ⊎_elim (λ (e : k ≡ i).
    let here : eqb (length (uses_at g k)) 0 ≡ true = subst (λ (n : ℕ). eqb (length (uses_at g n)) 0 ≡ true) (sym e) none in
    or_right _ _ (eq-eqb k i e) ∙ sym (and_from _ _ (lt-ltb k (i + 1) (omega arith)) here))
    (λ apart.
    ap (λ (b : Bool). is_among k ready || b) (ne_eqb k i apart) ∙ or-false (is_among k ready) ∙ is k ∙ ap (λ (b : Bool). b && eqb (length (uses_at g k)) 0) (one_further k i apart))
    (cases_eq k i)

pub ready-passed : (g : Graph) (i : ℕ) (ready : List ℕ) → ((k : ℕ) → is_among k ready ≡ (ltb k i && eqb (length (uses_at g k)) 0)) → eqb (length (uses_at g i)) 0 ≡ false
    → (k : ℕ) → is_among k ready ≡ (ltb k (i + 1) && eqb (length (uses_at g k)) 0)
ready-passed g i ready is some k =
    is k ∙
    ⊎_elim (λ (e : k ≡ i).
    let here : eqb (length (uses_at g k)) 0 ≡ false = subst (λ (n : ℕ). eqb (length (uses_at g n)) 0 ≡ false) (sym e) some in
    and_right _ _ here ∙ sym (and_right _ _ here))
    (λ apart. ap (λ (b : Bool). b && eqb (length (uses_at g k)) 0) (one_further k i apart))
    (cases_eq k i)
