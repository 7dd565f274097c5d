-- Steps as lines, and back: their numbers are those of the line's form.
use Rattle.std.proofs.Common.{◌≡◌, ℕ, zero, suc, ◌<◌, Bool, true, false, ◌&&◌, List, [], ◌∷◌, ◌++◌, map, refl, sym, ap, subst, arith, pos}
use Rattle.std.specs.Prelude.{nat_lt, nat_le, int_lt, if◌then◌else◌, neg_ℤ, Option, Some, None, slice_get}
use Rattle.std.specs.Int.RustNames.{unsigned_abs}
use Rattle.std.proofs.lemmas.Bool.{and_parts, and_from, ltb-true, lt-ltb, false_from_ne_true}
use Rattle.clause_core.specs.declared.literal.Lit.{Lit}
use Rattle.clause_core.specs.declared.truth.Truth.{Truth}
use Rattle.clause_core.specs.declared.status.Status.{Status}
use Rattle.clause_core.specs.declared.status.Status.TheVariants.{Falsified, Unit as UnitLiteral, Neither}
use Rattle.clause_core.specs.declared.check.Outcome.{Outcome}
use Rattle.clause_core.specs.declared.check.Outcome.TheVariants.{Accepted, NoConflict}
use Rattle.clause_core.specs.declared.step.Step.{Step}
use Rattle.clause_core.specs.Clauses.{fits_in}
use Rattle.clause_core.specs.Values.{put_true}
use Rattle.clause_core.specs.Steps.{clause_status, after_status, at_hint, follow_hints, outcome}
use Rattle.clause_core.specs.Logs.{IsGoodStep}
use Rattle.finding_lines.specs.Form.{rises_from, all_positive}
use Rattle.judgement.specs.Steps.{literal_of, clause_of, hints_of}
use Rattle.finding_search.specs.Shown.{number_of}

not_below_zero : (n : ℕ) → int_lt (pos n) (pos 0) ≡ false
not_below_zero n = false_from_ne_true (nat_lt n 0) (λ e. let below : n < 0 = ltb-true n 0 e in omega (arith, below))

above_zero : (n : ℕ) → int_lt (pos 0) (pos (suc n)) ≡ true
above_zero n = lt-ltb 0 (suc n) (omega arith)

literal_back : (l : Lit) → 0 < l.variable → literal_of (number_of l) ≡ l
literal_back l some = at l.variable l.negative some where
  at : (v : ℕ) (n : Bool) → 0 < v → literal_of (number_of (record { variable = v; negative = n })) ≡ record { variable = v; negative = n }
  at zero n h = absurd (omega (arith, h))
  at (suc k) true h = refl
  at (suc k) false h = ap (λ b. let l : Lit = record { variable = suc k; negative = b } in l) (not_below_zero (suc k))

variable_back : (l : Lit) → unsigned_abs (number_of l) ≡ l.variable
variable_back l = at l.variable l.negative where
  at : (v : ℕ) (n : Bool) → unsigned_abs (if n then neg_ℤ (pos v) else pos v) ≡ v
  at zero true = refl
  at zero false = refl
  at (suc k) true = refl
  at (suc k) false = refl

same_cons : {A : Type 0} (x y : A) (xs ys : List A) → x ≡ y → xs ≡ ys → x ∷ xs ≡ y ∷ ys
same_cons x y xs ys e es = cc

-- a clause whose variables rise is that of its numbers
pub clause_back : (variables low : ℕ) (c : List Lit) → fits_in variables low c ≡ true → clause_of (map number_of c) ≡ c
clause_back variables low [] h = refl
clause_back variables low (l ∷ ls) h =
    let first = and_parts (nat_lt low l.variable) (nat_le l.variable variables && fits_in variables l.variable ls) h in
    let second = and_parts (nat_le l.variable variables) (fits_in variables l.variable ls) first.1 in
    let above : low < l.variable = ltb-true low l.variable first.0 in
    same_cons (literal_of (number_of l)) l (clause_of (map number_of ls)) ls (literal_back l (omega (arith, above))) (clause_back variables l.variable ls second.1)

-- and its numbers rise
pub rises_back : (variables low : ℕ) (c : List Lit) → fits_in variables low c ≡ true → rises_from low (map number_of c) ≡ true
rises_back variables low [] h = refl
rises_back variables low (l ∷ ls) h =
    let first = and_parts (nat_lt low l.variable) (nat_le l.variable variables && fits_in variables l.variable ls) h in
    let second = and_parts (nat_le l.variable variables) (fits_in variables l.variable ls) first.1 in
    subst (λ v. (nat_lt low v && rises_from v (map number_of ls)) ≡ true) (sym (variable_back l))
    (and_from (nat_lt low l.variable) (rises_from l.variable (map number_of ls)) first.0 (rises_back variables l.variable ls second.1))

pub hints_back : (hints : List ℕ) → hints_of (map pos hints) ≡ hints
hints_back [] = refl
hints_back (h ∷ hs) = ap (λ rest. h ∷ rest) (hints_back hs)

module _ {P : Type 0} where
  on_status : (h : ℕ) (status : Status) (vs : List Truth) (go further : List Truth → Outcome) → ((ws : List Truth) → go ws ≡ NoConflict → further ws ≡ Accepted → P)
      → after_status h status vs go ≡ NoConflict → after_status h status vs further ≡ Accepted → P
  on_status h Falsified vs go further f none ok = absurd cc
  on_status h (UnitLiteral l) vs go further f none ok = f (put_true vs l) none ok
  on_status h Neither vs go further f none ok = absurd cc

  on_hint : (h : ℕ) (clause : Option (List Lit)) (vs : List Truth) (go further : List Truth → Outcome) → ((ws : List Truth) → go ws ≡ NoConflict → further ws ≡ Accepted → P)
      → at_hint h clause vs go ≡ NoConflict → at_hint h clause vs further ≡ Accepted → P
  on_hint h None vs go further f none ok = absurd cc
  on_hint h (Some c) vs go further f none ok = on_status h (clause_status vs c) vs go further f none ok

-- hints up to the one that decides are numbers of clauses
positive_on : (held : List (List Lit)) (vs : List Truth) (front : List ℕ) (last : ℕ) → follow_hints held vs front ≡ NoConflict
    → follow_hints held vs (front ++ last ∷ []) ≡ Accepted → all_positive (map pos (front ++ last ∷ [])) ≡ true
positive_on held vs [] zero none ok = absurd cc
positive_on held vs [] (suc i) none ok = and_from (int_lt (pos 0) (pos (suc i))) true (above_zero i) refl
positive_on held vs (zero ∷ front) last none ok = absurd cc
positive_on held vs (suc i ∷ front) last none ok =
    and_from (int_lt (pos 0) (pos (suc i))) (all_positive (map pos (front ++ last ∷ []))) (above_zero i)
    (on_hint (suc i) (slice_get held i) vs (λ next. follow_hints held next front) (λ next. follow_hints held next (front ++ last ∷ []))
    (λ ws a b. positive_on held ws front last a b) none ok)

pub hints_positive : (variables : ℕ) (held : List (List Lit)) (step : Step) → IsGoodStep variables held step → all_positive (map pos step.hints) ≡ true
hints_positive variables held step good =
    let front = good.last.0 in
    let last = good.last.1 in
    subst (λ hints. all_positive (map pos hints) ≡ true) (sym good.last.2)
    (positive_on held _ front last good.last.3 (subst (λ hints. outcome variables held step.clause hints ≡ Accepted) good.last.2 good.accepted))
