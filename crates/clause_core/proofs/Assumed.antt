-- What a rising clause is where its literals are assumed false.
use Rattle.std.proofs.Common.{◌≡◌, ◌≢◌, ℕ, suc, ◌<◌, ◌≤◌, Bool, true, false, ◌&&◌, List, [], ◌∷◌, ◌++◌, length, get_or, refl, ◌∙◌, ap, subst, arith, nat_lt, nat_le}
use Rattle.std.proofs.lemmas.Bool.{and_parts}
use Rattle.std.specs.List.{All}
use Rattle.std.proofs.lemmas.Bool.Decides.{nat_tests}
use Rattle.std.proofs.lemmas.List.{get_or-set_other, get_or-set_same, length-set}
use Rattle.std.proofs.lemmas.List.Elements.{All-nil, All-cons}
use Rattle.clause_core.specs.declared.literal.Lit.{Lit}
use Rattle.clause_core.specs.declared.truth.Truth.{Truth}
use Rattle.clause_core.specs.declared.truth.Truth.TheVariants.{Open, False}
use Rattle.clause_core.specs.Values.{value, put_false, signed_truth}
use Rattle.clause_core.specs.Clauses.{fits_in}
use Rattle.clause_core.specs.Steps.{assume_false}
use Rattle.clause_core.specs.Propagation.{Below, Extends}
use Rattle.clause_core.proofs.Extensions.{Below-value, Extends-put_false}

pub above : (a b : ℕ) → nat_lt a b ≡ true → a < b
above a b h = grind (arith, nat_tests)

at_most : (a b : ℕ) → nat_le a b ≡ true → a ≤ b
at_most a b h = grind (arith, nat_tests)

pub record FitsParts (variables low : ℕ) (l : Lit) (ls : List Lit) : Type 0 where
  pub rises : low < l.variable
  pub within : l.variable ≤ variables
  pub rest : fits_in variables l.variable ls ≡ true

pub fits-parts : (variables low : ℕ) (l : Lit) (ls : List Lit) → fits_in variables low (l ∷ ls) ≡ true → FitsParts variables low l ls
fits-parts variables low l ls h =
    let p = and_parts (nat_lt low l.variable) (nat_le l.variable variables && fits_in variables l.variable ls) h in
    let q = and_parts (nat_le l.variable variables) (fits_in variables l.variable ls) p.1 in
    record { rises = above low l.variable p.0; within = at_most l.variable variables q.0; rest = q.1 }

pub length-assume_false : (c : List Lit) (vs : List Truth) → length (assume_false vs c) ≡ length vs
length-assume_false [] vs = refl
length-assume_false (l ∷ ls) vs = length-assume_false ls (put_false vs l) ∙ length-set vs l.variable (signed_truth l.negative False)

pub assume_false-keeps : (variables low x : ℕ) (c : List Lit) (vs : List Truth) → fits_in variables low c ≡ true → x ≤ low → get_or (assume_false vs c) x Open ≡ get_or vs x Open
assume_false-keeps variables low x [] vs h le = refl
assume_false-keeps variables low x (l ∷ ls) vs h le =
    let p = fits-parts variables low l ls h in
    let ne : x ≢ l.variable = omega arith in
    assume_false-keeps variables l.variable x ls (put_false vs l) p.rest (omega arith) ∙ get_or-set_other vs l.variable x (signed_truth l.negative False) Open ne

signed-twice : (n : Bool) → signed_truth n (signed_truth n False) ≡ False
signed-twice true = refl
signed-twice false = refl

pub value-assume_false : (variables low : ℕ) (c : List Lit) (vs : List Truth) → fits_in variables low c ≡ true → variables < length vs → All (λ l. value (assume_false vs c) l ≡ False) c
value-assume_false variables low [] vs h lt = All-nil (λ l. value vs l ≡ False)
value-assume_false variables low (l ∷ ls) vs h lt =
    let p = fits-parts variables low l ls h in
    let here : get_or (assume_false (put_false vs l) ls) l.variable Open ≡ signed_truth l.negative False = assume_false-keeps variables l.variable l.variable ls (put_false vs l) p.rest (omega arith) ∙ get_or-set_same vs l.variable (signed_truth l.negative False) Open (omega arith) in
    All-cons (λ m. value (assume_false (put_false vs l) ls) m ≡ False) l ls (ap (signed_truth l.negative) here ∙ signed-twice l.negative)
    (value-assume_false variables l.variable ls (put_false vs l) p.rest (omega (arith, length-set vs l.variable (signed_truth l.negative False))))

-- a further assignment keeps them false
below-false : (t u : Truth) → t ≡ False → Below t u → u ≡ False
below-false t u e h = let P : Truth → Type 0 = λ z. Below z u in subst P e h

pub False-extends : (rho vs : List Truth) (c : List Lit) → Extends rho vs → All (λ l. value vs l ≡ False) c → All (λ l. value rho l ≡ False) c
False-extends rho vs c e h k d lt = below-false (value vs (get_or c k d)) (value rho (get_or c k d)) (h k d lt) (Below-value rho vs (get_or c k d) e)

-- an assignment that makes them false goes further
pub Extends-assume_false : (rho : List Truth) (c : List Lit) (vs : List Truth) → Extends rho vs → All (λ l. value rho l ≡ False) c → Extends rho (assume_false vs c)
Extends-assume_false rho [] vs e h = e
Extends-assume_false rho (l ∷ ls) vs e h = Extends-assume_false rho ls (put_false vs l) (Extends-put_false rho vs l e (h 0 l (omega arith))) (λ k d lt. h (suc k) d (omega arith))

-- what is assumed stays
pub assume_false-append : (a b : List Lit) (vs : List Truth) → assume_false vs (a ++ b) ≡ assume_false (assume_false vs a) b
assume_false-append [] b vs = refl
assume_false-append (l ∷ ls) b vs = assume_false-append ls b (put_false vs l)
