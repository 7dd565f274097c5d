-- Stores behind runs of lists, one behind the other, and behind expressions; and the values of flags.
use Rattle.std.proofs.Common.{◌≡◌, ◌≢◌, ℕ, zero, suc, ◌<◌, ◌≤◌, Bool, true, false, ◌||◌, List, [], ◌∷◌, length, ℤ, pos, ◌≤ℤ◌, refl, sym, ap, subst, ◌∙◌, arith, rules, tests}
use Rattle.std.specs.Prelude.{slice_set, if◌then◌else◌}
use Rattle.std.proofs.lemmas.Int.{ints}
use Rattle.std.proofs.lemmas.List.{length-set, get_or-set_same, get_or-set_other}
use Rattle.plc_types.specs.declared.range.Range.{Range}
use Rattle.plc_types.specs.Types.{in_range}
use Rattle.program_tree.specs.Tree.{Expression}
use Rattle.meaning.specs.Values.{State, Callees, no_callees, is_truth, number_of, faults}
use Rattle.meaning.specs.Charts.{is_on}
use Rattle.meaning.specs.Effects.{range_at, with_fault, stored}
use Rattle.scan_model.specs.InRange.{IsInRange}
use Rattle.flat_laws.proofs.Shown.{held, Shows, Ran, Done, SameUpTo, Evaluated, Ran-none, Ran-both, Ran-with_fault, Shows-with_fault, Shows-kept}

-- ---- runs, one behind the other

module _ (n k : ℕ) (place_at : ℕ → ℕ) where
  pub Ran-earlier : (j : ℕ) (x y : State) → k ≤ j → Ran n j place_at x y → Ran n k place_at x y
  Ran-earlier j x y h r = record { long = r.long; same = λ p a b c. r.same p a (omega arith) c }

  pub Done-both : (f : ℤ) (s u x y z : State) → Ran n k place_at x y → Done n k place_at f u y z → Done n k place_at f u x z
  Done-both f s u x y z a b = record { shown = b.shown; ran = Ran-both n k place_at x y z a b.ran }

  pub Done-earlier : (f : ℤ) (j : ℕ) (s x y : State) → k ≤ j → Done n j place_at f s x y → Done n k place_at f s x y
  Done-earlier f j s x y h d = record { shown = d.shown; ran = Ran-earlier j x y h d.ran }

  pub Done-none : (f : ℤ) (s x : State) → Shows n place_at f s x → Done n k place_at f s x x
  Done-none f s x h = record { shown = h; ran = Ran-none n k place_at x }

-- ---- FAULT

set-again : (s : State) (v : ℤ) → slice_set (slice_set s 0 v) 0 v ≡ slice_set s 0 v
set-again [] v = refl
set-again (a ∷ s) v = refl

pub with_fault-both : (a b : Bool) (s : State) → with_fault b (with_fault a s) ≡ with_fault (a || b) s
with_fault-both true true s = set-again s (pos 1)
with_fault-both true false s = refl
with_fault-both false b s = refl

pub length-with_fault : (b : Bool) (s : State) → length (with_fault b s) ≡ length s
length-with_fault true s = length-set s 0 (pos 1)
length-with_fault false s = refl

pub held-with_fault : (b : Bool) (s : State) (p : ℕ) → 0 < p → held (with_fault b s) p ≡ held s p
held-with_fault true s p h = get_or-set_other s 0 p (pos 1) (pos 0) (omega arith)
held-with_fault false s p h = refl

-- an assignment changes its target and FAULT alone
pub stored-other : (own : List Range) (c : ℕ) (v : ℤ) (s : State) (p : ℕ) → 0 < p → p ≢ c → held (stored own c v s) p ≡ held s p
stored-other own c v s p low other = by_test (in_range v (range_at own c))
  where
    by_test : (t : Bool) → held (if t then slice_set s c v else slice_set s 0 (pos 1)) p ≡ held s p
    by_test true = get_or-set_other s c p v (pos 0) other
    by_test false = get_or-set_other s 0 p (pos 1) (pos 0) (omega arith)

-- ---- behind an expression

-- Scratch cells are set, and FAULT is where one of two faults was met.
Shows-met : (n j : ℕ) (place_at : ℕ → ℕ) (f : ℤ) (s x y : State) (a b c : Bool) → ((p : ℕ) → 0 < p → p < n → 0 < place_at p) → ((p : ℕ) → 0 < p → p < n → place_at p < j) → 0 < n → 0 < length x
    → length y ≡ length x → SameUpTo j x y → held y 0 ≡ (if a then pos 1 else held x 0) → (a || b) ≡ c → Shows n place_at f s x → Shows n place_at f (with_fault c s) (with_fault b y)
Shows-met n j place_at f s x y false b c above below some room long kept fault is h =
    subst (λ (d : Bool). Shows n place_at f (with_fault d s) (with_fault b y)) is (Shows-with_fault n place_at above f b s y some (omega arith) (Shows-kept n place_at above f j s x y below kept fault h))
Shows-met n j place_at f s x y true b c above below some room long kept fault is h =
    let was = h.long in
    let set_now : held (slice_set s 0 (pos 1)) 0 ≡ pos 1 = get_or-set_same s 0 (pos 1) (pos 0) (omega arith) in
    let here : Shows n place_at f (with_fault true s) y = record {
      long = length-set s 0 (pos 1) ∙ h.long;
      cells = λ p u v. kept (place_at p) (above p u v) (below p u v) ∙ h.cells p u v ∙ sym (get_or-set_other s 0 p (pos 1) (pos 0) (omega arith));
      fault = rw set_now fault;
    } in
    let more : Shows n place_at f (with_fault b (with_fault true s)) (with_fault b y) = Shows-with_fault n place_at above f b (with_fault true s) y some (omega arith) here in
    subst (λ (d : State). Shows n place_at f d (with_fault b y)) (with_fault-both true b s ∙ ap (λ (d : Bool). with_fault d s) is) more

module _ (callees : Callees) (base : ℕ) (e left : Expression) (n k j l : ℕ) (place_at : ℕ → ℕ) (f : ℤ) (s x y : State) where
  pub Done-evaluated : ((p : ℕ) → 0 < p → p < n → 0 < place_at p) → ((p : ℕ) → 0 < p → p < n → place_at p < k) → k ≤ j → 0 < n → 0 < length x → Evaluated callees base e left s j l x y → Shows n place_at f s x
      → Done n k place_at f (with_fault (faults callees base e s) s) x (with_fault (faults no_callees 0 left y) y)
  Done-evaluated above below h some room is shown = record {
    shown = Shows-met n j place_at f s x y is.faulted (faults no_callees 0 left y) (faults callees base e s) above (λ p a b. let c = below p a b in omega arith) some room is.long is.kept is.fault (is.faults y (λ p a b. refl)) shown;
    ran = Ran-both n k place_at x y _ (record { long = is.long; same = λ p a b c. is.kept p a (omega arith) }) (Ran-with_fault n k place_at (faults no_callees 0 left y) y);
  }

-- ---- flags

-- a number is 0 or 1
abbrev pub IsBit : ℤ → Type 0
IsBit v = v ≡ number_of (is_truth v)

pub is_bit : (v : ℤ) (r : Range) → r.low ≡ pos 0 → r.high ≡ pos 1 → r.low ≤ℤ v → v ≤ℤ r.high → IsBit v
is_bit v r low high a b = search (rules, tests, ints)

pub fits_bit : (b : Bool) (r : Range) → r.low ≡ pos 0 → r.high ≡ pos 1 → in_range (number_of b) r ≡ true
fits_bit true r low high = rw (low, high) refl
fits_bit false r low high = rw (low, high) refl

pub held_in_range : (rs : List Range) (s : State) (p : ℕ) → IsInRange rs s → p < length rs → ((range_at rs p).low ≤ℤ held s p) × (held s p ≤ℤ (range_at rs p).high)
held_in_range [] s p f h = absurd (omega arith)
held_in_range (r ∷ rs) [] p f h = absurd f
held_in_range (r ∷ rs) (v ∷ s) zero f h = (f.0, f.1)
held_in_range (r ∷ rs) (v ∷ s) (suc p) f h = held_in_range rs s p f.2 (omega arith)

-- a BOOL cell holds 0 or 1
pub held_bit : (rs : List Range) (s : State) (p : ℕ) → IsInRange rs s → p < length rs → (range_at rs p).low ≡ pos 0 → (range_at rs p).high ≡ pos 1 → held s p ≡ number_of (is_on s p)
held_bit rs s p f h low high = let w = held_in_range rs s p f h in is_bit (held s p) (range_at rs p) low high w.0 w.1
