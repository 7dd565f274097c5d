-- A rising clause with all literals but one assumed false.
use Rattle.std.proofs.Common.{◌≡◌, ◌≢◌, ℕ, zero, suc, ◌<◌, ◌≤◌, ◌+◌, ◌&&◌, nat_lt, nat_le, Bool, true, List, [], ◌∷◌, ◌++◌, get_or, replicate, refl, sym, ◌∙◌, ap, subst, arith}
use Rattle.std.proofs.lemmas.Bool.{and_parts}
use Rattle.std.specs.List.{All, Contains}
use Rattle.std.proofs.lemmas.List.{length-replicate}
use Rattle.std.proofs.lemmas.List.Elements.{All-nil, All-cons}
use Rattle.clause_core.specs.declared.literal.Lit.{Lit}
use Rattle.clause_core.specs.declared.truth.Truth.{Truth}
use Rattle.clause_core.specs.declared.truth.Truth.TheVariants.{Open, True, False}
use Rattle.clause_core.specs.Values.{value, signed_truth}
use Rattle.clause_core.specs.Clauses.{rises, fits_in}
use Rattle.clause_core.specs.Steps.{assume_false, VariablesBelow}
use Rattle.clause_core.specs.Propagation.{Below, Extends, IsClosed}
use Rattle.clause_core.specs.Freshness.{ShowsFresh}
use Rattle.clause_core.proofs.Ranges.{VariablesBelow-fits}
use Rattle.clause_core.proofs.Extensions.{Below-value, Unforced-closed}
use Rattle.clause_core.proofs.Assumed.{fits-parts, assume_false-keeps, value-assume_false, length-assume_false, False-extends, Extends-assume_false}

-- the parts of a rising clause round one of its literals
pub record Round (variables low : ℕ) (front : List Lit) (p : Lit) (back : List Lit) : Type 0 where
  pub front_fits : fits_in variables low front ≡ true
  pub front_below : All (λ l. l.variable < p.variable) front
  pub above : low < p.variable
  pub back_fits : fits_in variables p.variable back ≡ true
  pub back_above : All (λ l. p.variable < l.variable) back

all-above : (variables low x : ℕ) (c : List Lit) → fits_in variables low c ≡ true → x ≤ low → All (λ l. x < l.variable) c
all-above variables low x [] f le = All-nil (λ l. x < l.variable)
all-above variables low x (l ∷ ls) f le =
    let q = fits-parts variables low l ls f in
    All-cons (λ m. x < m.variable) l ls (omega arith) (all-above variables l.variable x ls q.rest (omega arith))

cons-fits : (a b c d : Bool) → (a && (b && c)) ≡ true → d ≡ true → (a && (b && d)) ≡ true
cons-fits a b c d h e =
    let p = and_parts a (b && c) h in
    let q = and_parts b c p.1 in
    ap (λ z. z && (b && d)) p.0 ∙ ap (λ z. z && d) q.0 ∙ e

pub round : (variables low : ℕ) (front : List Lit) (p : Lit) (back : List Lit) → fits_in variables low (front ++ p ∷ back) ≡ true → Round variables low front p back
round variables low [] p back f =
    let q = fits-parts variables low p back f in
    record { front_fits = refl; front_below = All-nil (λ l. l.variable < p.variable); above = q.rises; back_fits = q.rest; back_above = all-above variables p.variable p.variable back q.rest (omega arith) }
round variables low (l ∷ ls) p back f =
    let q = fits-parts variables low l (ls ++ p ∷ back) f in
    let r = round variables l.variable ls p back q.rest in
    record {
      front_fits = cons-fits (nat_lt low l.variable) (nat_le l.variable variables) (fits_in variables l.variable (ls ++ p ∷ back)) (fits_in variables l.variable ls) f r.front_fits;
      front_below = All-cons (λ m. m.variable < p.variable) l ls r.above r.front_below;
      above = omega (arith, q.rises, r.above);
      back_fits = r.back_fits;
      back_above = r.back_above;
    }

all-join : (P : Lit → Type 0) (front : List Lit) (p : Lit) (back : List Lit) → All P front → P p → All P back → All P (front ++ p ∷ back)
all-join P [] p back a h b = All-cons P p back h b
all-join P (l ∷ ls) p back a h b = All-cons P l (ls ++ p ∷ back) (a 0 l (omega arith)) (all-join P ls p back (λ k d lt. a (suc k) d (omega arith)) h b)

all-front : (P : Lit → Type 0) (front : List Lit) (p : Lit) (back : List Lit) → All P (front ++ p ∷ back) → All P front × All P back
all-front P [] p back a = (All-nil P, λ k d lt. a (suc k) d (omega arith))
all-front P (l ∷ ls) p back a =
    let r = all-front P ls p back (λ k d lt. a (suc k) d (omega arith)) in
    (All-cons P l ls (a 0 l (omega arith)) r.0, r.1)

has-middle : (front : List Lit) (p : Lit) (back : List Lit) → Contains (front ++ p ∷ back) p
has-middle [] p back = (0, omega arith, refl)
has-middle (l ∷ ls) p back = let r = has-middle ls p back in (suc r.0, omega (arith, r.1), r.2)

from-unassigned : (n x : ℕ) (t : Truth) → Below (get_or (replicate n Open) x Open) t
from-unassigned zero x t = tt
from-unassigned (suc n) zero t = tt
from-unassigned (suc n) (suc x) t = from-unassigned n x t

abbrev pub base : ℕ → List Lit → List Lit → List Truth
base n front back = assume_false (assume_false (replicate n Open) front) back

kept-front : (variables : ℕ) (n : ℕ) (front : List Lit) (p : Lit) (back : List Lit) → variables < n → Round variables 0 front p back → All (λ l. value (base n front back) l ≡ False) front
kept-front variables n front p back lt r k d h =
    let w = assume_false (replicate n Open) front in
    let m : Lit = get_or front k d in
    let was : value w m ≡ False = value-assume_false variables 0 front (replicate n Open) r.front_fits (omega (arith, length-replicate n Open)) k d h in
    let below : m.variable < p.variable = r.front_below k d h in
    ap (signed_truth m.negative) (assume_false-keeps variables p.variable m.variable back w r.back_fits (omega arith)) ∙ was

pub ShowsFresh-closed : (variables n : ℕ) (held : List (List Lit)) (front : List Lit) (p : Lit) (back : List Lit) (vs : List Truth) → variables < n → rises variables (front ++ p ∷ back) ≡ true → Extends vs (base n front back) → IsClosed held vs → value vs p ≢ True → ShowsFresh held (front ++ p ∷ back) p vs
ShowsFresh-closed variables n held front p back vs lt f e c not_true =
    let r = round variables 0 front p back f in
    let w = assume_false (replicate n Open) front in
    let in_front = False-extends vs (base n front back) front e (kept-front variables n front p back lt r) in
    let in_back = False-extends vs (base n front back) back e (value-assume_false variables p.variable back w r.back_fits (omega (arith, length-assume_false front (replicate n Open), length-replicate n Open))) in
    record {
      inside = has-middle front p back;
      others = all-join (λ l. l ≢ p → value vs l ≡ False) front p back (λ k d h _. in_front k d h) (λ ne. absurd (ne refl)) (λ k d h _. in_back k d h);
      itself = not_true;
      unforced = Unforced-closed held vs c;
    }

less≢ : (l p : Lit) → l.variable < p.variable → l ≢ p
less≢ l p lt e = let v : l.variable ≡ p.variable = ap (λ (z : Lit). z.variable) e in omega arith

more≢ : (l p : Lit) → p.variable < l.variable → l ≢ p
more≢ l p lt e = let v : l.variable ≡ p.variable = ap (λ (z : Lit). z.variable) e in omega arith

pub Extends-shown : (variables n : ℕ) (held : List (List Lit)) (front : List Lit) (p : Lit) (back : List Lit) (rho : List Truth) → rises variables (front ++ p ∷ back) ≡ true → ShowsFresh held (front ++ p ∷ back) p rho → Extends rho (base n front back)
Extends-shown variables n held front p back rho f s =
    let r = round variables 0 front p back f in
    let parts = all-front (λ l. l ≢ p → value rho l ≡ False) front p back s.others in
    Extends-assume_false rho back (assume_false (replicate n Open) front)
    (Extends-assume_false rho front (replicate n Open) (λ x. from-unassigned n x (get_or rho x Open)) (λ k d h. parts.0 k d h (less≢ (get_or front k d) p (r.front_below k d h))))
    (λ k d h. parts.1 k d h (more≢ (get_or back k d) p (r.back_above k d h)))

true-below : (t u : Truth) → Below t u → u ≢ True → t ≢ True
true-below t u b n e = let P : Truth → Type 0 = λ z. Below z u in n (subst P e b)

pub not_true-below : (rho vs : List Truth) (p : Lit) → Extends rho vs → value rho p ≢ True → value vs p ≢ True
not_true-below rho vs p e n = true-below (value vs p) (value rho p) (Below-value rho vs p e) n

pub record PartsBelow (n : ℕ) (front : List Lit) (p : Lit) (back : List Lit) : Type 0 where
  pub in_front : VariablesBelow n front
  pub here : p.variable < n
  pub in_back : VariablesBelow n back

middle-below : (n : ℕ) (front : List Lit) (p : Lit) (back : List Lit) → VariablesBelow n (front ++ p ∷ back) → p.variable < n
middle-below n [] p back a = a 0 p (omega arith)
middle-below n (l ∷ ls) p back a = middle-below n ls p back (λ k d lt. a (suc k) d (omega arith))

pub parts-below : (variables n : ℕ) (literals front : List Lit) (p : Lit) (back rest : List Lit) → n ≡ variables + 1 → rises variables literals ≡ true → literals ≡ front ++ rest → rest ≡ p ∷ back → PartsBelow n front p back
parts-below variables n literals front p back rest en f e er =
    let joined : VariablesBelow (variables + 1) (front ++ p ∷ back) = VariablesBelow-fits variables 0 (front ++ p ∷ back) (ap (rises variables) (sym (e ∙ ap (λ z. front ++ z) er)) ∙ f) in
    let r = all-front (λ l. l.variable < variables + 1) front p back joined in
    subst (λ m. PartsBelow m front p back) (sym en) (record { in_front = r.0; here = middle-below (variables + 1) front p back joined; in_back = r.1 })
