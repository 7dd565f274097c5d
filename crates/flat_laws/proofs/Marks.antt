-- The flags of flat lists: where they stand, and what they tell behind a run.
use Rattle.std.proofs.Common.{◌≡◌, ◌≢◌, ℕ, ◌-◌, ◌<◌, ◌≤◌, Bool, true, false, List, length, ℤ, pos, refl, sym, ◌∙◌, arith}
use Rattle.std.specs.Prelude.{if◌then◌else◌}
use Rattle.plc_types.specs.declared.range.Range.{Range}
use Rattle.program_tree.specs.declared.scratch.Scratch.{Scratch}
use Rattle.meaning.specs.Values.{State}
use Rattle.meaning.specs.Effects.{Effect, on, exited, returned, state_of}
use Rattle.flat_core.specs.FlatScans.{takes}
use Rattle.flat_form.specs.Unless.{Flags}
use Rattle.flat_form.proofs.IdleTables.{by_test}
use Rattle.flat_laws.proofs.Shown.{held, Shows, Ran, Done}

-- A flag stands in a scratch cell below k, which takes each value and is none of an owner's n cells.
pub record Mark (rs : List Range) (cs : List Scratch) (n : ℕ) (place_at : ℕ → ℕ) (k p : ℕ) : Type 0 where
  pub low : length rs ≤ p
  pub high : p < k
  pub free : (v : ℤ) → takes cs (p - length rs) v ≡ true
  pub other : (q : ℕ) → 0 < q → q < n → p ≡ place_at q → ⊥

-- the flags that may be set, by an EXIT and by a RETURN
pub record Marks (rs : List Range) (cs : List Scratch) (n : ℕ) (place_at : ℕ → ℕ) (e r : Bool) (flags : Flags) (k : ℕ) : Type 0 where
  pub exits : e ≡ true → Mark rs cs n place_at k flags.exit
  pub returns : r ≡ true → Mark rs cs n place_at k flags.returning
  pub apart : e ≡ true → r ≡ true → flags.exit ≢ flags.returning

-- none of them is set
abbrev pub Clear : Bool → Bool → Flags → State → Type 0
Clear e r flags x = (e ≡ true → held x flags.exit ≡ pos 0) × (r ≡ true → held x flags.returning ≡ pos 0)

-- the flags tell the outcome, and one that they cannot tell did not come about
abbrev pub Tells : Bool → Bool → Flags → Effect → State → Type 0
Tells e r flags (on s) y = (e ≡ true → held y flags.exit ≡ pos 0) × (r ≡ true → held y flags.returning ≡ pos 0)
Tells e r flags (exited s) y = (e ≡ true) × (held y flags.exit ≡ pos 1) × (r ≡ true → held y flags.returning ≡ pos 0)
Tells e r flags (returned s) y = (r ≡ true) × (held y flags.returning ≡ pos 1) × (e ≡ true → held y flags.exit ≡ pos 0)

-- places below k that are none of the owner's and no flag that may be set are as they were
abbrev pub SameBut : ℕ → ℕ → (ℕ → ℕ) → Bool → Bool → Flags → State → State → Type 0
SameBut n k place_at e r flags x y =
    (p : ℕ) → 0 < p → p < k → ((q : ℕ) → 0 < q → q < n → p ≡ place_at q → ⊥) → (e ≡ true → p ≢ flags.exit) → (r ≡ true → p ≢ flags.returning) → held y p ≡ held x p

-- behind a run that may leave its list the store shows the state of its effect, and the flags tell the outcome
pub record Led (n k : ℕ) (place_at : ℕ → ℕ) (f : ℤ) (e r : Bool) (flags : Flags) (effect : Effect) (x y : State) : Type 0 where
  pub shown : Shows n place_at f (state_of effect) y
  pub long : length y ≡ length x
  pub same : SameBut n k place_at e r flags x y
  pub tells : Tells e r flags effect y

never : {P : Type 0} (b : Bool) → b ≡ true → b ≡ false → P
never true h i = cc
never false h i = cc

-- ---- flags further down, and fewer of them

module _ (rs : List Range) (cs : List Scratch) (n : ℕ) (place_at : ℕ → ℕ) where
  pub Mark-later : (k j p : ℕ) → k ≤ j → Mark rs cs n place_at k p → Mark rs cs n place_at j p
  Mark-later k j p h m = record { low = m.low; high = (let less = m.high in omega arith); free = m.free; other = m.other }

  pub Marks-later : (e r : Bool) (flags : Flags) (k j : ℕ) → k ≤ j → Marks rs cs n place_at e r flags k → Marks rs cs n place_at e r flags j
  Marks-later e r flags k j h m = record {
    exits = λ i. Mark-later k j flags.exit h (m.exits i);
    returns = λ i. Mark-later k j flags.returning h (m.returns i);
    apart = m.apart;
  }

  pub Marks-fewer : (e r a b : Bool) (flags : Flags) (k : ℕ) → (e ≡ true → a ≡ true) → (r ≡ true → b ≡ true) → Marks rs cs n place_at a b flags k → Marks rs cs n place_at e r flags k
  Marks-fewer e r a b flags k first second m = record {
    exits = λ i. m.exits (first i);
    returns = λ i. m.returns (second i);
    apart = λ i j. m.apart (first i) (second j);
  }

  pub Marks-none : (e r : Bool) (flags : Flags) (k : ℕ) → e ≡ false → r ≡ false → Marks rs cs n place_at e r flags k
  Marks-none e r flags k no_exit no_return = record {
    exits = λ i. never e i no_exit;
    returns = λ i. never r i no_return;
    apart = λ i j. never e i no_exit;
  }

pub Clear-fewer : (e r a b : Bool) (flags : Flags) (x : State) → (e ≡ true → a ≡ true) → (r ≡ true → b ≡ true) → Clear a b flags x → Clear e r flags x
Clear-fewer e r a b flags x first second c = (λ i. c.0 (first i), λ i. c.1 (second i))

pub Clear-none : (e r : Bool) (flags : Flags) (x : State) → e ≡ false → r ≡ false → Clear e r flags x
Clear-none e r flags x no_exit no_return = (λ i. never e i no_exit, λ i. never r i no_return)

-- ---- runs

module _ (n k : ℕ) (place_at : ℕ → ℕ) (f : ℤ) (e r : Bool) (flags : Flags) where
  pub Led-none : (s x : State) → Shows n place_at f s x → Clear e r flags x → Led n k place_at f e r flags (on s) x x
  Led-none s x shows clear = record { shown = shows; long = refl; same = λ p a b c d g. refl; tells = clear }

  pub Led-earlier : (j : ℕ) (effect : Effect) (x y : State) → k ≤ j → Led n j place_at f e r flags effect x y → Led n k place_at f e r flags effect x y
  Led-earlier j effect x y h led = record { shown = led.shown; long = led.long; same = λ p a b c d g. led.same p a (omega arith) c d g; tells = led.tells }

  -- one behind another
  pub Led-next : (one two : Effect) (x y z : State) → Led n k place_at f e r flags one x y → Led n k place_at f e r flags two y z → Led n k place_at f e r flags two x z
  Led-next one two x y z a b = record { shown = b.shown; long = b.long ∙ a.long; same = λ p c d g h i. b.same p c d g h i ∙ a.same p c d g h i; tells = b.tells }

  pub Led-behind : (s : State) (effect : Effect) (x y z : State) → Done n k place_at f s x y → Led n k place_at f e r flags effect y z → Led n k place_at f e r flags effect x z
  Led-behind s effect x y z a b = record { shown = b.shown; long = b.long ∙ a.ran.long; same = λ p c d g h i. b.same p c d g h i ∙ a.ran.same p c d g; tells = b.tells }

  -- where nothing can be left
  pub Led-done : (effect : Effect) (x y : State) → e ≡ false → r ≡ false → Led n k place_at f e r flags effect x y → Done n k place_at f (state_of effect) x y
  Led-done effect x y no_exit no_return led = record {
    shown = led.shown;
    ran = record { long = led.long; same = λ p a b c. led.same p a b c (λ i. never e i no_exit) (λ i. never r i no_return) };
  }

  -- flags that tell that all goes on are clear
  pub told-on : (effect : Effect) (y : State) → effect ≡ on (state_of effect) → Tells e r flags effect y → Clear e r flags y
  told-on (on s) y is t = t
  told-on (exited s) y is t = cc
  told-on (returned s) y is t = cc

  -- which of two effects, by a test
  pub Led-if : (b : Bool) (one two : Effect) (x y z : State) → Led n k place_at f e r flags one x y → Led n k place_at f e r flags two x z → Led n k place_at f e r flags (if b then one else two) x (if b then y else z)
  Led-if true one two x y z p q = p
  Led-if false one two x y z p q = q

module _ (rs : List Range) (cs : List Scratch) (some : 0 < length rs) (n k : ℕ) (place_at : ℕ → ℕ) (e r : Bool) (flags : Flags) (marks : Marks rs cs n place_at e r flags k) where
  -- a run that changes the owner's cells alone leaves the flags
  pub Clear-kept : (x y : State) → Clear e r flags x → Ran n k place_at x y → Clear e r flags y
  Clear-kept x y clear ran = (
    λ i. let m = marks.exits i in let low = m.low in ran.same flags.exit (omega arith) m.high m.other ∙ clear.0 i,
    λ i. let m = marks.returns i in let low = m.low in ran.same flags.returning (omega arith) m.high m.other ∙ clear.1 i,
  )

  pub Done-led : (f : ℤ) (s x y : State) → Clear e r flags x → Done n k place_at f s x y → Led n k place_at f e r flags (on s) x y
  Done-led f s x y clear done = record {
    shown = done.shown;
    long = done.ran.long;
    same = λ p a b c d g. done.ran.same p a b c;
    tells = Clear-kept x y clear done.ran;
  }

-- ---- more flags

module _ (rs : List Range) (cs : List Scratch) (some : 0 < length rs) (n k : ℕ) (place_at : ℕ → ℕ) (e r a b : Bool) (flags : Flags) (first : e ≡ true → a ≡ true) (second : r ≡ true → b ≡ true)
    (marks : Marks rs cs n place_at a b flags k) (x : State) (clear : Clear a b flags x) where
  exit_clear : (y : State) → SameBut n k place_at e r flags x y → (e ≡ true → held y flags.exit ≡ pos 0) → a ≡ true → held y flags.exit ≡ pos 0
  exit_clear y same told h =
      by_test e told (λ no. let m = marks.exits h in let low = m.low in same flags.exit (omega arith) m.high m.other (λ i. never e i no) (λ i. marks.apart h (second i)) ∙ clear.0 h)

  return_clear : (y : State) → SameBut n k place_at e r flags x y → (r ≡ true → held y flags.returning ≡ pos 0) → b ≡ true → held y flags.returning ≡ pos 0
  return_clear y same told h =
      by_test r told (λ no. let m = marks.returns h in let low = m.low in same flags.returning (omega arith) m.high m.other (λ i is. marks.apart (first i) h (sym is)) (λ i. never r i no) ∙ clear.1 h)

  wider_tells : (effect : Effect) (y : State) → SameBut n k place_at e r flags x y → Tells e r flags effect y → Tells a b flags effect y
  wider_tells (on s) y same t = (exit_clear y same t.0, return_clear y same t.1)
  wider_tells (exited s) y same t = (first t.0, t.1, return_clear y same t.2)
  wider_tells (returned s) y same t = (second t.0, t.1, exit_clear y same t.2)

  pub Led-wider : (f : ℤ) (effect : Effect) (y : State) → Led n k place_at f e r flags effect x y → Led n k place_at f a b flags effect x y
  Led-wider f effect y led = record {
    shown = led.shown;
    long = led.long;
    same = λ p low high own not_exit not_return. led.same p low high own (λ i. not_exit (first i)) (λ i. not_return (second i));
    tells = wider_tells effect y led.same led.tells;
  }
