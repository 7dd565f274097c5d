-- What is missing and ready while users are released.
use Rattle.std.proofs.Common.{◌≡◌, ℕ, ◌+◌, ◌-◌, ◌<◌, ◌≤◌, Bool, true, false, ◌&&◌, ◌||◌, eqb, List, [], ◌∷◌, ◌++◌, length, get_or, set, take, drop, refl, arith, ◌∙◌, sym, ap, subst, ⊎_elim}
use Rattle.std.proofs.Math.Bool.{and-true, or-false}
use Rattle.std.proofs.lemmas.Bool.{cases_eq, cases_lt, eq-eqb, ne_eqb, and_right}
use Rattle.std.proofs.lemmas.List.{drop_more, take_more, drop_all, take_all, get_or_past, get_or-set_same, get_or-set_other}
use Rattle.std.specs.BTreeSet.{insert_key}
use Rattle.std.specs.Ordering.{nat_cmp}
use Rattle.call_order.specs.Uses.{is_among}
use Rattle.call_order.specs.Users.{times, missing_at, MissesLess, GetReady}
use Rattle.call_order.proofs.Members.{is_among-append, is_among-head}
use Rattle.call_order.proofs.Counts.{weight, weight-true, weight-false, times-cons, is_among-insert}

-- the users before a place are released
pub record IsReleased (users : List ℕ) (i : ℕ) (old missing before ready : List ℕ) : Type 0 where
  pub left : (k : ℕ) → times k (drop i users) ≤ missing_at missing k
  pub less : (k : ℕ) → missing_at missing k + times k users ≡ missing_at old k + times k (drop i users)
  pub now : (k : ℕ) → is_among k ready ≡ (is_among k before || (is_among k (take i users) && eqb (missing_at missing k) 0))

pub released-none : (users missing ready : List ℕ) → ((k : ℕ) → times k users ≤ missing_at missing k) → IsReleased users 0 missing missing ready ready
released-none users missing ready enough = record { left = enough; less = λ k. refl; now = λ k. sym (or-false (is_among k ready)) }

-- the next user misses something
pub misses : (users : List ℕ) (i : ℕ) (old missing before ready : List ℕ) (user : ℕ) → IsReleased users i old missing before ready → i < length users → user ≡ get_or users i user → 1 ≤ missing_at missing user
misses users i old missing before ready user is here read =
    let e : times user (drop i users) ≡ weight (eqb user user) + times user (drop (i + 1) users) =
    ap (times user) (drop_more users i user here ∙ ap (λ (n : ℕ). n ∷ drop (i + 1) users) (sym read)) ∙ times-cons user user (drop (i + 1) users) in
    let c : weight (eqb user user) ≡ 1 = weight-true (eqb user user) (eq-eqb user user refl) in
    let l = is.left user in omega arith

pub is_inside : (missing : List ℕ) (user : ℕ) → 1 ≤ missing_at missing user → user < length missing
is_inside missing user h =
    ⊎_elim (λ (l : user < length missing). l) (λ (past : length missing ≤ user). let z = get_or_past missing user 0 past in absurd (omega arith)) (cases_lt user (length missing))

ready_here : (a b r among : Bool) → r ≡ (a || (among && false)) → (r || (true && b)) ≡ (a || ((among || true) && b))
ready_here true b r true e = subst (λ (x : Bool). (x || (true && b)) ≡ true) (sym e) refl
ready_here true b r false e = subst (λ (x : Bool). (x || (true && b)) ≡ true) (sym e) refl
ready_here false b r true e = subst (λ (x : Bool). (x || (true && b)) ≡ b) (sym e) refl
ready_here false b r false e = subst (λ (x : Bool). (x || (true && b)) ≡ b) (sym e) refl

ready_other : (a b d r among : Bool) → r ≡ (a || (among && b)) → (r || (false && d)) ≡ (a || ((among || false) && b))
ready_other a b d true true e = e
ready_other a b d true false e = e
ready_other a b d false true e = e
ready_other a b d false false e = e

-- a user that misses nothing any more is put among what is ready; another is not
pub ready_with : (k user : ℕ) (ready : List ℕ) (n : ℕ) → n ≡ 0 → is_among k (insert_key nat_cmp ready user) ≡ (is_among k ready || (eqb k user && eqb n 0))
ready_with k user ready n e =
    is_among-insert k ready user ∙ ap (λ (b : Bool). is_among k ready || b) (sym (ap (λ (b : Bool). eqb k user && b) (eq-eqb n 0 e) ∙ and-true (eqb k user)))

pub ready_without : (k user : ℕ) (ready : List ℕ) (n : ℕ) → (n ≡ 0 → ⊥) → is_among k ready ≡ (is_among k ready || (eqb k user && eqb n 0))
ready_without k user ready n e =
    sym (or-false (is_among k ready)) ∙ ap (λ (b : Bool). is_among k ready || b) (sym (and_right (eqb k user) (eqb n 0) (ne_eqb n 0 e)))

-- one user more
pub released-more : (users : List ℕ) (i : ℕ) (old missing before ready : List ℕ) (user : ℕ) (less ready_now : List ℕ) → IsReleased users i old missing before ready
    → i < length users → user ≡ get_or users i user → less ≡ set missing user (missing_at missing user - 1)
    → ((k : ℕ) → is_among k ready_now ≡ (is_among k ready || (eqb k user && eqb (missing_at less user) 0)))
    → IsReleased users (i + 1) old less before ready_now
released-more users i old missing before ready user less ready_now is here read wrote got =
    let some = misses users i old missing before ready user is here read in
    let inside = is_inside missing user some in
    let at_user : missing_at less user ≡ missing_at missing user - 1 = ap (λ (ms : List ℕ). missing_at ms user) wrote ∙ get_or-set_same missing user (missing_at missing user - 1) 0 inside in
    let at_other : (k : ℕ) → (k ≡ user → ⊥) → missing_at less k ≡ missing_at missing k =
    λ (k : ℕ) apart. ap (λ (ms : List ℕ). missing_at ms k) wrote ∙ get_or-set_other missing user k (missing_at missing user - 1) 0 apart in
    let step : (k : ℕ) → times k (drop i users) ≡ weight (eqb k user) + times k (drop (i + 1) users) =
    λ (k : ℕ). ap (times k) (drop_more users i user here ∙ ap (λ (n : ℕ). n ∷ drop (i + 1) users) (sym read)) ∙ times-cons k user (drop (i + 1) users) in
    let among : (k : ℕ) → is_among k (take (i + 1) users) ≡ (is_among k (take i users) || is_among k (user ∷ [])) =
    λ (k : ℕ). ap (is_among k) (take_more users i user here ∙ ap (λ (n : ℕ). take i users ++ n ∷ []) (sym read)) ∙ is_among-append k (take i users) (user ∷ []) in
    record {
      left = λ k. let l = is.left k in let s = step k in
          ⊎_elim (λ (e : k ≡ user). let c : weight (eqb k user) ≡ 1 = weight-true (eqb k user) (eq-eqb k user e) in
          let m : missing_at less k ≡ missing_at missing k - 1 = subst (λ (n : ℕ). missing_at less n ≡ missing_at missing n - 1) (sym e) at_user in omega arith)
          (λ apart. let c : weight (eqb k user) ≡ 0 = weight-false (eqb k user) (ne_eqb k user apart) in let m = at_other k apart in omega arith)
          (cases_eq k user);
      less = λ k. let l = is.less k in let s = step k in
          ⊎_elim (λ (e : k ≡ user). let c : weight (eqb k user) ≡ 1 = weight-true (eqb k user) (eq-eqb k user e) in
          let m : missing_at less k ≡ missing_at missing k - 1 = subst (λ (n : ℕ). missing_at less n ≡ missing_at missing n - 1) (sym e) at_user in
          let o : 1 ≤ missing_at missing k = subst (λ (n : ℕ). 1 ≤ missing_at missing n) (sym e) some in omega arith)
          (λ apart. let c : weight (eqb k user) ≡ 0 = weight-false (eqb k user) (ne_eqb k user apart) in let m = at_other k apart in omega arith)
          (cases_eq k user);
      now = λ k.
          ⊎_elim (λ (e : k ≡ user).
          let is_k : eqb k user ≡ true = eq-eqb k user e in
          let m : missing_at less k ≡ missing_at less user = ap (missing_at less) e in
          let o : eqb (missing_at missing k) 0 ≡ false = ne_eqb (missing_at missing k) 0 (λ z. let o2 : 1 ≤ missing_at missing k = subst (λ (n : ℕ). 1 ≤ missing_at missing n) (sym e) some in omega arith) in
          let r : is_among k ready ≡ (is_among k before || (is_among k (take i users) && false)) = is.now k ∙ ap (λ (b : Bool). is_among k before || (is_among k (take i users) && b)) o in
          let one : is_among k (user ∷ []) ≡ true = subst (λ (n : ℕ). is_among k (n ∷ []) ≡ true) e (is_among-head k []) in
          got k
          ∙ ap (λ (b : Bool). is_among k ready || (b && eqb (missing_at less user) 0)) is_k
          ∙ ready_here (is_among k before) (eqb (missing_at less user) 0) (is_among k ready) (is_among k (take i users)) r
          ∙ ap (λ (b : Bool). is_among k before || ((is_among k (take i users) || b) && eqb (missing_at less user) 0)) (sym one)
          ∙ ap (λ (b : Bool). is_among k before || (b && eqb (missing_at less user) 0)) (sym (among k))
          ∙ ap (λ (n : ℕ). is_among k before || (is_among k (take (i + 1) users) && eqb n 0)) (sym m))
          (λ apart.
          let not_k : eqb k user ≡ false = ne_eqb k user apart in
          let m : missing_at less k ≡ missing_at missing k = at_other k apart in
          let none : is_among k (user ∷ []) ≡ false = ap (λ (b : Bool). b || false) not_k in
          got k
          ∙ ap (λ (b : Bool). is_among k ready || (b && eqb (missing_at less user) 0)) not_k
          ∙ ready_other (is_among k before) (eqb (missing_at missing k) 0) (eqb (missing_at less user) 0) (is_among k ready) (is_among k (take i users)) (is.now k)
          ∙ ap (λ (b : Bool). is_among k before || ((is_among k (take i users) || b) && eqb (missing_at missing k) 0)) (sym none)
          ∙ ap (λ (b : Bool). is_among k before || (b && eqb (missing_at missing k) 0)) (sym (among k))
          ∙ ap (λ (n : ℕ). is_among k before || (is_among k (take (i + 1) users) && eqb n 0)) (sym m))
          (cases_eq k user);
    }

-- in the end all are
pub released-all : (users : List ℕ) (i : ℕ) (old missing before ready : List ℕ) → length users ≤ i → IsReleased users i old missing before ready → MissesLess users old missing × GetReady users missing before ready
released-all users i old missing before ready past is = (
  (λ k. let l = is.less k in let e : times k (drop i users) ≡ 0 = ap (times k) (drop_all i users past) in omega arith),
  (λ k. is.now k ∙ ap (λ (xs : List ℕ). is_among k before || (is_among k xs && eqb (missing_at missing k) 0)) (take_all i users past)),
)
