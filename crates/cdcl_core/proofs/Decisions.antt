-- Decisions in order, each under values that are closed.
use Rattle.std.proofs.Common.{◌≡◌, ◌≢◌, ℕ, zero, suc, ◌<◌, ◌≤◌, ◌+◌, Bool, true, false, ◌&&◌, ◌||◌, List, [], ◌∷◌, ◌++◌, length, get_or, replicate, refl, sym, ◌∙◌, ap, subst, arith, cond, nat_lt, nat_le, below_more}
use Rattle.std.specs.List.{All, Contains, list_any, list_all}
use Rattle.std.proofs.lemmas.Bool.{false≢true, and_parts}
use Rattle.std.proofs.lemmas.Bool.Decides.{nat_tests}
use Rattle.std.proofs.lemmas.List.{length-replicate}
use Rattle.std.proofs.lemmas.List.Elements.{All-nil, All-cons, All-push}
use Rattle.clause_core.specs.declared.literal.Lit.{Lit}
use Rattle.clause_core.specs.declared.truth.Truth.{Truth}
use Rattle.clause_core.specs.declared.truth.Truth.TheVariants.{Open, True, False}
use Rattle.clause_core.specs.Values.{how_many, value, is_true, is_open, signed_truth}
use Rattle.clause_core.specs.Satisfaction.{literal_true, clause_true, formula_true, signed}
use Rattle.clause_core.specs.Clauses.{rises, fits_in, is_inside, is_within}
use Rattle.clause_core.specs.Steps.{assume_false}
use Rattle.clause_core.specs.Propagation.{Below, Extends, IsClosed}
use Rattle.clause_core.specs.Freshness.{Unforced, unforced, IsFresh}
use Rattle.clause_core.proofs.Extensions.{Unforced-closed, unforced-closed}
use Rattle.clause_core.proofs.Assumed.{value-assume_false, False-extends, Extends-assume_false}
use Rattle.clause_core.specs.declared.step.Step.{Step}
use Rattle.clause_core.specs.Logs.{IsGoodStep}
use Rattle.cdcl_core.specs.Noting.{Derives}
use Rattle.cdcl_core.specs.Next.{assignment}

abbrev pub unassigned : ℕ → List Truth
unassigned variables = replicate (variables + 1) Open

-- the values are the closure of the clause's literals assumed false
pub record Settled (variables : ℕ) (held : List (List Lit)) (clause : List Lit) (vs : List Truth) : Type 0 where
  pub fits : rises variables clause ≡ true
  pub closed : IsClosed held vs
  pub grows : Extends vs (assume_false (unassigned variables) clause)
  pub below : (rho : List Truth) → Extends rho (assume_false (unassigned variables) clause) → Unforced held rho → Extends rho vs

pub all-false : (variables : ℕ) (clause : List Lit) (vs : List Truth) → rises variables clause ≡ true → Extends vs (assume_false (unassigned variables) clause) → All (λ l. value vs l ≡ False) clause
all-false variables clause vs f g =
    let n : variables < length (unassigned variables) = omega (arith, length-replicate (variables + 1) Open) in
    False-extends vs (assume_false (unassigned variables) clause) clause g (value-assume_false variables 0 clause (unassigned variables) f n)

from-unassigned : (n x : ℕ) (t : Truth) → Below (get_or (replicate n Open) x Open) t
from-unassigned zero x t = tt
from-unassigned (suc n) zero t = tt
from-unassigned (suc n) (suc x) t = from-unassigned n x t

fits-push : (variables low : ℕ) (c : List Lit) (l : Lit) → fits_in variables low c ≡ true → All (λ m. m.variable < l.variable) c → low < l.variable → l.variable ≤ variables → fits_in variables low (c ++ l ∷ []) ≡ true
fits-push variables low [] l f b lt le = both (nat_lt low l.variable) (nat_le l.variable variables) (grind (arith, nat_tests)) (grind (arith, nat_tests))
  where
    both : (a b : Bool) → a ≡ true → b ≡ true → (a && (b && true)) ≡ true
    both a b p q = ap (λ z. z && (b && true)) p ∙ ap (λ z. z && true) q
fits-push variables low (m ∷ ms) l f b lt le =
    let p = and_parts (nat_lt low m.variable) (nat_le m.variable variables && fits_in variables m.variable ms) f in
    let q = and_parts (nat_le m.variable variables) (fits_in variables m.variable ms) p.1 in
    ap (λ z. z && (nat_le m.variable variables && fits_in variables m.variable (ms ++ l ∷ []))) p.0
    ∙ ap (λ z. z && fits_in variables m.variable (ms ++ l ∷ [])) q.0
    ∙ fits-push variables m.variable ms l q.1 (λ k d h. b (suc k) d (omega arith)) (b 0 m (omega arith)) le

pub rises-push : (variables : ℕ) (c : List Lit) (l : Lit) → rises variables c ≡ true → All (λ m. m.variable < l.variable) c → 0 < l.variable → l.variable ≤ variables → rises variables (c ++ l ∷ []) ≡ true
rises-push variables c l f b lt le = fits-push variables 0 c l f b lt le

has-last : (c : List Lit) (l : Lit) → Contains (c ++ l ∷ []) l
has-last [] l = (0, omega arith, refl)
has-last (m ∷ ms) l = let r = has-last ms l in (suc r.0, omega (arith, r.1), r.2)

signed-open : (n : Bool) (t : Truth) → t ≡ Open → signed_truth n t ≡ True → ⊥
signed-open true Open e h = cc
signed-open false Open e h = cc
signed-open n True e h = cc
signed-open n False e h = cc

pub IsFresh-next : (variables : ℕ) (held : List (List Lit)) (clause : List Lit) (vs : List Truth) (l : Lit) → Settled variables held clause vs → get_or vs l.variable Open ≡ Open → IsFresh held (clause ++ l ∷ [])
IsFresh-next variables held clause vs l s o =
    let false_here = all-false variables clause vs s.fits s.grows in (
      l,
      vs,
      record {
        inside = has-last clause l;
        others = All-push (λ m. m ≢ l → value vs m ≡ False) clause l (λ k d h _. false_here k d h) (λ n. absurd (n refl));
        itself = λ h. signed-open l.negative (get_or vs l.variable Open) o h;
        unforced = Unforced-closed held vs s.closed;
      },
    )

front-false : (vs : List Truth) (c : List Lit) (l : Lit) → All (λ m. value vs m ≡ False) (c ++ l ∷ []) → All (λ m. value vs m ≡ False) c × (value vs l ≡ False)
front-false vs [] l h = (All-nil (λ m. value vs m ≡ False), h 0 l (omega arith))
front-false vs (m ∷ ms) l h =
    let r = front-false vs ms l (λ k d lt. h (suc k) d (omega arith)) in
    (All-cons (λ x. value vs x ≡ False) m ms (h 0 m (omega arith)) r.0, r.1)

signed-set : (n : Bool) (t : Truth) → signed_truth n t ≡ False → t ≢ Open
signed-set true Open h e = cc
signed-set false Open h e = cc
signed-set n True h e = cc
signed-set n False h e = cc

pub record SetNext (vs vs' : List Truth) (l : Lit) : Type 0 where
  pub grows : Extends vs' vs
  pub set : get_or vs' l.variable Open ≢ Open

pub SetNext-settled : (variables : ℕ) (held : List (List Lit)) (clause : List Lit) (vs vs' : List Truth) (l : Lit) → Settled variables held clause vs → Settled variables held (clause ++ l ∷ []) vs' → SetNext vs vs' l
SetNext-settled variables held clause vs vs' l s t =
    let f = front-false vs' clause l (all-false variables (clause ++ l ∷ []) vs' t.fits t.grows) in
    record {
      grows = s.below vs' (Extends-assume_false vs' clause (unassigned variables) (λ x. from-unassigned (variables + 1) x (get_or vs' x Open)) f.0) (Unforced-closed held vs' t.closed);
      set = signed-set l.negative (get_or vs' l.variable Open) f.1;
    }

below-set : (t u : Truth) → t ≢ Open → Below t u → u ≢ Open
below-set Open u n h e = n refl
below-set True u n h e = cc
below-set False u n h e = cc

pub set-further : (vs vs' : List Truth) (k : ℕ) → Extends vs' vs → get_or vs k Open ≢ Open → get_or vs' k Open ≢ Open
set-further vs vs' k e n = below-set (get_or vs k Open) (get_or vs' k Open) n (e k)

-- where no variable is open, a closed clause is true
true-literal : (n : Bool) (t : Truth) → is_true (signed_truth n t) ≡ true → signed n (is_true t) ≡ true
true-literal false t h = h
true-literal true False h = refl
true-literal true Open h = absurd (false≢true h)
true-literal true True h = absurd (false≢true h)

closed-literal : (n : Bool) (t : Truth) → t ≢ Open → is_open (signed_truth n t) ≡ false
closed-literal n Open h = absurd (h refl)
closed-literal true True h = refl
closed-literal true False h = refl
closed-literal false True h = refl
closed-literal false False h = refl

or-mono : (a b c d : Bool) → (a ≡ true → b ≡ true) → (c ≡ true → d ≡ true) → (a || c) ≡ true → (b || d) ≡ true
or-mono true b c d f g h = ap (λ z. z || d) (f refl)
or-mono false true c d f g h = refl
or-mono false false c d f g h = g h

value-assigned : (vs : List Truth) (x : ℕ) → assignment vs x ≡ is_true (get_or vs x Open)
value-assigned [] x = refl
value-assigned (t ∷ ts) zero = refl
value-assigned (t ∷ ts) (suc x) = value-assigned ts x

any-true : (vs : List Truth) (c : List Lit) → list_any (λ l. is_true (value vs l)) c ≡ true → clause_true (assignment vs) c ≡ true
any-true vs [] h = h
any-true vs (l ∷ ls) h =
    or-mono (is_true (value vs l)) (literal_true (assignment vs) l) (list_any (λ m. is_true (value vs m)) ls) (clause_true (assignment vs) ls) (λ t. ap (signed l.negative) (value-assigned vs l.variable) ∙ true-literal l.negative (get_or vs l.variable Open) t) (any-true vs ls) h

none-open : (variables : ℕ) (vs : List Truth) (c : List Lit) → is_within variables c ≡ true → ((k : ℕ) → 0 < k → k ≤ variables → get_or vs k Open ≢ Open) → how_many (λ l. is_open (value vs l)) c ≡ 0
none-open variables vs [] f h = refl
none-open variables vs (l ∷ ls) f h =
    let p = and_parts (is_inside variables l) (is_within variables ls) f in
    let q = and_parts (nat_lt 0 l.variable) (nat_le l.variable variables) p.0 in
    ap (λ z. cond z 1 0 + how_many (λ m. is_open (value vs m)) ls) (closed-literal l.negative (get_or vs l.variable Open) (h l.variable (grind (arith, nat_tests)) (grind (arith, nat_tests))))
    ∙ (let r : how_many (λ m. is_open (value vs m)) ls ≡ 0 = none-open variables vs ls p.1 h in omega arith)

or_left : (a : Bool) (n : ℕ) → n ≡ 0 → (a || nat_le 2 n) ≡ true → a ≡ true
or_left true n e h = refl
or_left false n e h = absurd (grind (arith, nat_tests))

found-clause : (variables : ℕ) (vs : List Truth) (c : List Lit) → is_within variables c ≡ true → unforced vs c ≡ true → ((k : ℕ) → 0 < k → k ≤ variables → get_or vs k Open ≢ Open) → clause_true (assignment vs) c ≡ true
found-clause variables vs c f u h =
    any-true vs c (or_left (list_any (λ l. is_true (value vs l)) c) (how_many (λ l. is_open (value vs l)) c) (none-open variables vs c f h) u)

pub formula_true-closed : (variables : ℕ) (vs : List Truth) (held : List (List Lit)) → list_all (is_within variables) held ≡ true → IsClosed held vs → ((k : ℕ) → 0 < k → k ≤ variables → get_or vs k Open ≢ Open) → formula_true (assignment vs) held ≡ true
formula_true-closed variables vs [] r c h = refl
formula_true-closed variables vs (d ∷ ds) r c h =
    let p = and_parts (is_within variables d) (list_all (is_within variables) ds) r in
    ap (λ z. z && formula_true (assignment vs) ds) (found-clause variables vs d p.0 (unforced-closed vs d (c 0 d (omega arith))) h)
    ∙ formula_true-closed variables vs ds p.1 (λ k e lt. c (suc k) e (omega arith)) h

pub Settled-propagate_from : (variables : ℕ) (held : List (List Lit)) (clause : List Lit) (vs : List Truth) (n : ℕ) (literals : List Lit) → n ≡ variables + 1 → literals ≡ clause → rises variables clause ≡ true → IsClosed held vs → Extends vs (assume_false (replicate n Open) literals) → ((rho : List Truth) → Extends rho (assume_false (replicate n Open) literals) → Unforced held rho → Extends rho vs) → Settled variables held clause vs
Settled-propagate_from variables held clause vs n literals en el f c g b =
    let same : assume_false (replicate n Open) literals ≡ assume_false (unassigned variables) clause = ap (λ m. assume_false (replicate m Open) literals) en ∙ ap (assume_false (unassigned variables)) el in
    record {
      fits = f;
      closed = c;
      grows = subst (λ z. Extends vs z) same g;
      below = λ rho e u. b rho (subst (λ z. Extends rho z) (sym same) e) u;
    }

pub IsGoodStep-propagate_from : (variables : ℕ) (held : List (List Lit)) (s : Step) (n : ℕ) (literals : List Lit) → n ≡ variables + 1 → literals ≡ s.clause → rises variables s.clause ≡ true → Derives held (assume_false (replicate n Open) literals) s.hints → IsGoodStep variables held s
IsGoodStep-propagate_from variables held s n literals en el f d =
    let same : assume_false (replicate n Open) literals ≡ assume_false (unassigned variables) s.clause = ap (λ m. assume_false (replicate m Open) literals) en ∙ ap (assume_false (unassigned variables)) el in
    let e : Derives held (assume_false (unassigned variables) s.clause) s.hints = subst (λ z. Derives held z s.hints) same d in
    record { rises = f; accepted = e.accepted; last = e.last }

pub before-push : (x : ℕ) (c : List Lit) (l : Lit) → l.variable ≡ x → All (λ m. m.variable < x) c → All (λ m. m.variable < x + 1) (c ++ l ∷ [])
before-push x c l e b = All-push (λ m. m.variable < x + 1) c l (λ k d h. omega (arith, b k d h)) (omega arith)

pub before-more : (x : ℕ) (c : List Lit) → All (λ m. m.variable < x) c → All (λ m. m.variable < x + 1) c
before-more x c b k d h = omega (arith, b k d h)

pub set-push : (vs vs' : List Truth) (x : ℕ) → ((k : ℕ) → 0 < k → k < x → get_or vs k Open ≢ Open) → Extends vs' vs → get_or vs' x Open ≢ Open → (k : ℕ) → 0 < k → k < x + 1 → get_or vs' k Open ≢ Open
set-push vs vs' x h e s k p lt = below_more (λ j. 0 < j → get_or vs' j Open ≢ Open) x (λ j jl jp. set-further vs vs' j e (h j jp jl)) (λ _. s) k lt p
