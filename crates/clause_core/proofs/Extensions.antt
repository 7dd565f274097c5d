-- Unit propagation stays below every partial assignment that leaves no held clause false or unit.
use Rattle.std.proofs.Common.{◌≡◌, ℕ, zero, suc, ◌<◌, ◌+◌, Bool, true, false, not, ◌&&◌, ◌||◌, List, [], ◌∷◌, length, get_or, set, filter, refl, sym, ◌∙◌, ap, subst, arith, cond, nat_le}
use Rattle.std.specs.List.{list_any, list_all, All}
use Rattle.std.proofs.lemmas.Bool.{false≢true, and_parts, or_right}
use Rattle.std.proofs.lemmas.Bool.Decides.{nat_tests}
use Rattle.clause_core.specs.declared.literal.Lit.{Lit}
use Rattle.clause_core.specs.declared.truth.Truth.{Truth}
use Rattle.clause_core.specs.declared.truth.Truth.TheVariants.{Open, True, False}
use Rattle.clause_core.specs.declared.status.Status.{Status}
use Rattle.clause_core.specs.declared.status.Status.TheVariants.{Falsified, Unit as UnitLiteral, Neither}
use Rattle.clause_core.specs.Values.{how_many, value, put_true, put_false, is_false, is_true, is_open, signed_truth, opposite}
use Rattle.clause_core.specs.Steps.{not_false, left_of, status_of_one, status_of_left, clause_status}
use Rattle.clause_core.specs.Propagation.{Below, Extends}
use Rattle.clause_core.specs.Freshness.{unforced, Unforced}
use Rattle.clause_core.proofs.Sound.{any_cond, get_or-set_cases}

Below-signed : (n : Bool) (t u : Truth) → Below t u → Below (signed_truth n t) (signed_truth n u)
Below-signed false t u h = h
Below-signed true Open u h = tt
Below-signed true True u h = ap opposite h
Below-signed true False u h = ap opposite h

pub Below-value : (rho vs : List Truth) (l : Lit) → Extends rho vs → Below (value vs l) (value rho l)
Below-value rho vs l e = Below-signed l.negative (get_or vs l.variable Open) (get_or rho l.variable Open) (e l.variable)

Below-refl : (t : Truth) → Below t t
Below-refl Open = tt
Below-refl True = refl
Below-refl False = refl

pub Extends-refl : (vs : List Truth) → Extends vs vs
Extends-refl vs x = Below-refl (get_or vs x Open)

Below-trans : (t u w : Truth) → Below t u → Below u w → Below t w
Below-trans Open u w h k = tt
Below-trans True u w h k = subst (λ z. Below z w) h k
Below-trans False u w h k = subst (λ z. Below z w) h k

pub Extends-trans : (a b c : List Truth) → Extends b c → Extends a b → Extends a c
Extends-trans a b c h k x = Below-trans (get_or c x Open) (get_or b x Open) (get_or a x Open) (h x) (k x)

-- what is false counts for nothing
any-skip : (t u : Truth) (r rest : Bool) → Below t u → r ≡ rest → (is_true u || r) ≡ cond (not (is_false t)) (is_true u || rest) rest
any-skip Open u r rest h e = ap (λ z. is_true u || z) e
any-skip True u r rest h e = ap (λ z. is_true u || z) e
any-skip False u r rest h e = ap (λ z. is_true z || r) h ∙ e

left-any : (rho vs : List Truth) (c : List Lit) → Extends rho vs → list_any (λ l. is_true (value rho l)) c ≡ list_any (λ l. is_true (value rho l)) (left_of vs c)
left-any rho vs [] e = refl
left-any rho vs (l ∷ ls) e =
    any-skip (value vs l) (value rho l) (list_any (λ l. is_true (value rho l)) ls) (list_any (λ l. is_true (value rho l)) (left_of vs ls)) (Below-value rho vs l e) (left-any rho vs ls e)
    ∙ sym (any_cond (λ l. is_true (value rho l)) (not_false vs l) l (left_of vs ls))

count-skip : (t u : Truth) (r rest : ℕ) → Below t u → r ≡ rest → cond (is_open u) 1 0 + r ≡ cond (not (is_false t)) (cond (is_open u) 1 0 + rest) rest
count-skip Open u r rest h e = ap (λ z. cond (is_open u) 1 0 + z) e
count-skip True u r rest h e = ap (λ z. cond (is_open u) 1 0 + z) e
count-skip False u r rest h e = ap (λ z. cond (is_open z) 1 0 + r) h ∙ (omega arith)

sum_cond : {X : Type 0} (p : X → Bool) (c : Bool) (x : X) (xs : List X) → how_many p (cond c (x ∷ xs) xs) ≡ cond c (cond (p x) 1 0 + how_many p xs) (how_many p xs)
sum_cond p true x xs = refl
sum_cond p false x xs = refl

left-count : (rho vs : List Truth) (c : List Lit) → Extends rho vs → how_many (λ l. is_open (value rho l)) c ≡ how_many (λ l. is_open (value rho l)) (left_of vs c)
left-count rho vs [] e = refl
left-count rho vs (l ∷ ls) e =
    count-skip (value vs l) (value rho l) (how_many (λ l. is_open (value rho l)) ls) (how_many (λ l. is_open (value rho l)) (left_of vs ls)) (Below-value rho vs l e) (left-count rho vs ls e)
    ∙ sym (sum_cond (λ l. is_open (value rho l)) (not_false vs l) l (left_of vs ls))

unforced-left : (rho vs : List Truth) (c : List Lit) → Extends rho vs → unforced rho c ≡ unforced rho (left_of vs c)
unforced-left rho vs c e =
    ap (λ z. z || nat_le 2 (how_many (λ l. is_open (value rho l)) c)) (left-any rho vs c e)
    ∙ ap (λ z. list_any (λ l. is_true (value rho l)) (left_of vs c) || nat_le 2 z) (left-count rho vs c e)

-- what a clause_status says where a further assignment forces nothing
abbrev pub Forces : List Truth → Status → Type 0
Forces rho Falsified = ⊥
Forces rho (UnitLiteral l) = value rho l ≡ True
Forces rho Neither = Unit {0}

unforced-one : (u : Truth) → ((is_true u || false) || nat_le 2 (cond (is_open u) 1 0 + 0)) ≡ true → u ≡ True
unforced-one Open h = absurd (false≢true h)
unforced-one True h = refl
unforced-one False h = absurd (false≢true h)

forces-one : (rho : List Truth) (t : Truth) (l : Lit) → value rho l ≡ True → Forces rho (status_of_one t l)
forces-one rho Open l h = h
forces-one rho True l h = tt
forces-one rho False l h = tt

forces-left : (rho vs : List Truth) (ls : List Lit) → unforced rho ls ≡ true → Forces rho (status_of_left vs ls)
forces-left rho vs [] h = false≢true h
forces-left rho vs (l ∷ []) h = forces-one rho (value vs l) l (unforced-one (value rho l) h)
forces-left rho vs (l ∷ (m ∷ ms)) h = tt

pub Forces-clause_status : (rho vs : List Truth) (c : List Lit) → Extends rho vs → unforced rho c ≡ true → Forces rho (clause_status vs c)
Forces-clause_status rho vs c e h = forces-left rho vs (left_of vs c) (sym (unforced-left rho vs c e) ∙ h)

-- a closed clause has a true literal or two open ones
kept_step : {X : Type 0} (p : X → Bool) (x : X) (ys : List X) (b : Bool) → p x ≡ b → list_all p ys ≡ true → list_all p (cond b (x ∷ ys) ys) ≡ true
kept_step p x ys true e h = ap (λ z. z && list_all p ys) e ∙ h
kept_step p x ys false e h = h

kept_all : {X : Type 0} (p : X → Bool) (xs : List X) → list_all p (filter p xs) ≡ true
kept_all p [] = refl
kept_all p (x ∷ xs) = kept_step p x (filter p xs) (p x) refl (kept_all p xs)

two_more : (n : ℕ) → nat_le 2 (1 + (1 + n)) ≡ true
two_more n = grind (arith, nat_tests)

two_left : (t u : Truth) (r : Bool) (n : ℕ) → not (is_false t) ≡ true → not (is_false u) ≡ true → ((is_true t || (is_true u || r)) || nat_le 2 (cond (is_open t) 1 0 + (cond (is_open u) 1 0 + n))) ≡ true
two_left True u r n h k = refl
two_left Open True r n h k = refl
two_left Open Open r n h k = or_right r (nat_le 2 (1 + (1 + n))) (two_more n)
two_left Open False r n h k = absurd (false≢true k)
two_left False u r n h k = absurd (false≢true h)

one_left : (t : Truth) (l : Lit) → status_of_one t l ≡ Neither → not (is_false t) ≡ true → ((is_true t || false) || nat_le 2 (cond (is_open t) 1 0 + 0)) ≡ true
one_left True l h k = refl
one_left Open l h k = cc
one_left False l h k = absurd (false≢true k)

closed-left : (vs : List Truth) (ls : List Lit) → status_of_left vs ls ≡ Neither → list_all (not_false vs) ls ≡ true → unforced vs ls ≡ true
closed-left vs [] h k = cc
closed-left vs (l ∷ []) h k = one_left (value vs l) l h (and_parts (not_false vs l) true k).0
closed-left vs (l ∷ (m ∷ ms)) h k =
    let p = and_parts (not_false vs l) (not_false vs m && list_all (not_false vs) ms) k in
    let q = and_parts (not_false vs m) (list_all (not_false vs) ms) p.1 in
    two_left (value vs l) (value vs m) (list_any (λ x. is_true (value vs x)) ms) (how_many (λ x. is_open (value vs x)) ms) p.0 q.0

pub unforced-closed : (vs : List Truth) (c : List Lit) → clause_status vs c ≡ Neither → unforced vs c ≡ true
unforced-closed vs c h = unforced-left vs vs c (Extends-refl vs) ∙ closed-left vs (left_of vs c) h (kept_all (not_false vs) c)

-- a unit literal is open
open-one : (vs : List Truth) (t : Truth) (l m : Lit) → value vs l ≡ t → status_of_one t l ≡ UnitLiteral m → value vs m ≡ Open
open-one vs Open l m e h = let same : l ≡ m = cc in subst (λ z. value vs z ≡ Open) same e
open-one vs True l m e h = cc
open-one vs False l m e h = cc

open-left : (vs : List Truth) (ls : List Lit) (m : Lit) → status_of_left vs ls ≡ UnitLiteral m → value vs m ≡ Open
open-left vs [] m h = cc
open-left vs (l ∷ []) m h = open-one vs (value vs l) l m refl h
open-left vs (l ∷ (k ∷ ks)) m h = cc

pub value-unit : (vs : List Truth) (c : List Lit) (m : Lit) → clause_status vs c ≡ UnitLiteral m → value vs m ≡ Open
value-unit vs c m h = open-left vs (left_of vs c) m h

open-variable : (n : Bool) (t : Truth) → signed_truth n t ≡ Open → t ≡ Open
open-variable false t h = h
open-variable true Open h = refl
open-variable true True h = cc
open-variable true False h = cc

abbrev weight : Bool → ℕ
weight b = cond b 1 0

fewer : (vs : List Truth) (i : ℕ) (t : Truth) → i < length vs → get_or vs i Open ≡ Open → is_open t ≡ false → how_many is_open (set vs i t) + 1 ≡ how_many is_open vs
fewer [] i t lt e o = absurd (omega arith)
fewer (v ∷ vs) zero t lt e o = omega (arith, ap (λ z. weight (is_open z)) e, ap weight o)
fewer (v ∷ vs) (suc i) t lt e o =
    let rest = fewer vs i t (omega arith) e o in omega arith

not_open : (n : Bool) → is_open (signed_truth n True) ≡ false
not_open true = refl
not_open false = refl

pub open_count-unit : (vs : List Truth) (l : Lit) → l.variable < length vs → value vs l ≡ Open → how_many is_open (put_true vs l) + 1 ≡ how_many is_open vs
open_count-unit vs l lt e = fewer vs l.variable (signed_truth l.negative True) lt (open-variable l.negative (get_or vs l.variable Open) e) (not_open l.negative)

-- a write that a further assignment makes too
signed-back : (n : Bool) (t u : Truth) → signed_truth n u ≡ t → Below (signed_truth n t) u
signed-back false Open u h = tt
signed-back false True u h = h
signed-back false False u h = h
signed-back true Open u h = tt
signed-back true True Open h = cc
signed-back true True True h = cc
signed-back true True False h = refl
signed-back true False Open h = cc
signed-back true False True h = refl
signed-back true False False h = cc

pub Extends-put_true : (rho vs : List Truth) (l : Lit) → Extends rho vs → value rho l ≡ True → Extends rho (put_true vs l)
Extends-put_true rho vs l e h x =
    get_or-set_cases vs l.variable x (signed_truth l.negative True) (λ t. Below t (get_or rho x Open))
    (λ same. subst (λ y. Below (signed_truth l.negative True) (get_or rho y Open)) (sym same) (signed-back l.negative True (get_or rho l.variable Open) h)) (e x)

pub Extends-put_false : (rho vs : List Truth) (l : Lit) → Extends rho vs → value rho l ≡ False → Extends rho (put_false vs l)
Extends-put_false rho vs l e h x =
    get_or-set_cases vs l.variable x (signed_truth l.negative False) (λ t. Below t (get_or rho x Open))
    (λ same. subst (λ y. Below (signed_truth l.negative False) (get_or rho y Open)) (sym same) (signed-back l.negative False (get_or rho l.variable Open) h)) (e x)

-- a write to an open variable goes further
pub Extends-by_put : (vs : List Truth) (i : ℕ) (t : Truth) → get_or vs i Open ≡ Open → Extends (set vs i t) vs
Extends-by_put vs i t o x =
    get_or-set_cases vs i x t (λ u. Below (get_or vs x Open) u)
    (λ same. subst (λ z. Below z t) (sym (ap (λ y. get_or vs y Open) same ∙ o)) tt) (Below-refl (get_or vs x Open))

pub Extends-by_unit : (vs : List Truth) (l : Lit) → value vs l ≡ Open → Extends (put_true vs l) vs
Extends-by_unit vs l e = Extends-by_put vs l.variable (signed_truth l.negative True) (open-variable l.negative (get_or vs l.variable Open) e)

pub Unforced-closed : (held : List (List Lit)) (vs : List Truth) → All (λ c. clause_status vs c ≡ Neither) held → Unforced held vs
Unforced-closed held vs h k d lt = unforced-closed vs (get_or held k d) (h k d lt)
