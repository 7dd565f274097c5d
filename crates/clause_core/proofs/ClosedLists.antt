-- Steps of the loops over held clauses.
use Rattle.std.proofs.Common.{◌≡◌, ◌≢◌, ℕ, suc, ◌<◌, ◌≤◌, ◌+◌, Bool, true, false, not, List, [], ◌∷◌, length, get_or, take, refl, sym, ap, subst, arith, cond}
use Rattle.std.specs.List.{All, Contains}
use Rattle.std.proofs.lemmas.Bool.{false≢true}
use Rattle.std.proofs.lemmas.List.{take_all}
use Rattle.std.proofs.lemmas.List.Elements.{All-nil, All-cons, All-more}
use Rattle.clause_core.specs.declared.literal.Lit.{Lit}
use Rattle.clause_core.specs.declared.truth.Truth.{Truth}
use Rattle.clause_core.specs.declared.truth.Truth.TheVariants.{Open, True, False}
use Rattle.clause_core.specs.declared.status.Status.TheVariants.{Falsified, Unit as UnitLiteral, Neither}
use Rattle.clause_core.specs.Values.{value, put_true, is_false}
use Rattle.clause_core.specs.Steps.{not_false, left_of, status_of_one, status_of_left, clause_status}
use Rattle.clause_core.specs.Propagation.{Extends, IsClosed}
use Rattle.clause_core.specs.Freshness.{unforced, Unforced, ShowsFresh}
use Rattle.clause_core.proofs.Extensions.{Forces, Forces-clause_status, Extends-put_true, Unforced-closed, value-unit}

pub IsClosed-more : (held : List (List Lit)) (vs : List Truth) (i : ℕ) (c : List Lit) → i < length held → c ≡ get_or held i c → IsClosed (take i held) vs → clause_status vs c ≡ Neither → IsClosed (take (i + 1) held) vs
IsClosed-more held vs i c lt is h n = All-more (λ z. clause_status vs z ≡ Neither) held i c lt h (subst (λ z. clause_status vs z ≡ Neither) is n)

pub IsClosed-all : (held : List (List Lit)) (vs : List Truth) (i : ℕ) → length held ≤ i → IsClosed (take i held) vs → IsClosed held vs
IsClosed-all held vs i le h = subst (λ z. IsClosed z vs) (take_all i held le) h

pub unforced-at : (held : List (List Lit)) (rho : List Truth) (i : ℕ) (c : List Lit) → i < length held → c ≡ get_or held i c → Unforced held rho → unforced rho c ≡ true
unforced-at held rho i c lt is u = subst (λ z. unforced rho z ≡ true) (sym is) (u i c lt)

pub Extends-by_status : (rho vs : List Truth) (c : List Lit) (l : Lit) → Extends rho vs → unforced rho c ≡ true → clause_status vs c ≡ UnitLiteral l → Extends rho (put_true vs l)
Extends-by_status rho vs c l e u k = Extends-put_true rho vs l e (subst (Forces rho) k (Forces-clause_status rho vs c e u))

pub no_conflict : (rho vs : List Truth) (c : List Lit) → Extends rho vs → unforced rho c ≡ true → clause_status vs c ≡ Falsified → ⊥
no_conflict rho vs c e u k = subst (Forces rho) k (Forces-clause_status rho vs c e u)

-- where one literal is left, all others are false
abbrev Others : List Truth → Lit → List Lit → Type 0
Others vs p c = All (λ l. l ≢ p → value vs l ≡ False) c

falsity : (t : Truth) → not (is_false t) ≡ false → t ≡ False
falsity False h = refl
falsity True h = absurd (false≢true (sym h))
falsity Open h = absurd (false≢true (sym h))

none_step : (vs : List Truth) (p l : Lit) (ls : List Lit) (b : Bool) → not_false vs l ≡ b → cond b (l ∷ left_of vs ls) (left_of vs ls) ≡ [] → (left_of vs ls ≡ [] → Others vs p ls) → Others vs p (l ∷ ls)
none_step vs p l ls true e h rest = cc
none_step vs p l ls false e h rest = All-cons (λ m. m ≢ p → value vs m ≡ False) l ls (λ _. falsity (value vs l) e) (rest h)

others-none : (vs : List Truth) (p : Lit) (c : List Lit) → left_of vs c ≡ [] → Others vs p c
others-none vs p [] h = All-nil (λ m. m ≢ p → value vs m ≡ False)
others-none vs p (l ∷ ls) h = none_step vs p l ls (not_false vs l) refl h (others-none vs p ls)

one_step : (vs : List Truth) (p l : Lit) (ls : List Lit) (b : Bool) → not_false vs l ≡ b → cond b (l ∷ left_of vs ls) (left_of vs ls) ≡ p ∷ [] → (left_of vs ls ≡ [] → Others vs p ls) → (left_of vs ls ≡ p ∷ [] → Others vs p ls) → Others vs p (l ∷ ls)
one_step vs p l ls true e h none one =
    let same : l ≡ p = cc in
    let nil : left_of vs ls ≡ [] = cc in
    All-cons (λ m. m ≢ p → value vs m ≡ False) l ls (λ n. absurd (n same)) (none nil)
one_step vs p l ls false e h none one = All-cons (λ m. m ≢ p → value vs m ≡ False) l ls (λ _. falsity (value vs l) e) (one h)

others-one : (vs : List Truth) (p : Lit) (c : List Lit) → left_of vs c ≡ p ∷ [] → Others vs p c
others-one vs p [] h = cc
others-one vs p (l ∷ ls) h = one_step vs p l ls (not_false vs l) refl h (others-none vs p ls) (others-one vs p ls)

has_step : (vs : List Truth) (p l : Lit) (ls : List Lit) (b : Bool) → cond b (l ∷ left_of vs ls) (left_of vs ls) ≡ p ∷ [] → (left_of vs ls ≡ p ∷ [] → Contains ls p) → Contains (l ∷ ls) p
has_step vs p l ls true h rest = let same : l ≡ p = cc in (0, omega arith, same)
has_step vs p l ls false h rest = let r = rest h in (suc r.0, omega (arith, r.1), r.2)

pub has-one : (vs : List Truth) (p : Lit) (c : List Lit) → left_of vs c ≡ p ∷ [] → Contains c p
has-one vs p [] h = cc
has-one vs p (l ∷ ls) h = has_step vs p l ls (not_false vs l) h (has-one vs p ls)

one-clause_status : (t : Truth) (l p : Lit) → status_of_one t l ≡ UnitLiteral p → l ≡ p
one-clause_status Open l p h = cc
one-clause_status True l p h = cc
one-clause_status False l p h = cc

pub left-clause_status : (vs : List Truth) (ls : List Lit) (p : Lit) → status_of_left vs ls ≡ UnitLiteral p → ls ≡ p ∷ []
left-clause_status vs [] p h = cc
left-clause_status vs (l ∷ []) p h = ap (λ z. z ∷ []) (one-clause_status (value vs l) l p h)
left-clause_status vs (l ∷ (m ∷ ms)) p h = cc

open≢true : (t : Truth) → t ≡ Open → t ≢ True
open≢true t h k = cc

pub ShowsFresh-unit : (held : List (List Lit)) (vs : List Truth) (c : List Lit) (p : Lit) → clause_status vs c ≡ UnitLiteral p → IsClosed held vs → ShowsFresh held c p vs
ShowsFresh-unit held vs c p k h =
    let one = left-clause_status vs (left_of vs c) p k in
    record {
      inside = has-one vs p c one;
      others = others-one vs p c one;
      itself = open≢true (value vs p) (value-unit vs c p k);
      unforced = Unforced-closed held vs h;
    }
