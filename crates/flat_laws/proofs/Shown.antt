-- How a store shows the state of an owner of cells: each cell stands at a place of the store, and FAULT, the first of both, is shared
-- with whoever called the owner.
use Rattle.std.proofs.Common.{◌≡◌, ◌≢◌, ℕ, ◌+◌, ◌-◌, ◌<◌, ◌≤◌, Bool, true, false, not, ◌||◌, List, length, ℤ, pos, refl, sym, ap, ◌∙◌, arith, rules, tests}
use Rattle.std.specs.Prelude.{◌==◌, slice_set, slice_index_or, if◌then◌else◌}
use Rattle.std.proofs.lemmas.List.{length-set, get_or-set_same, get_or-set_other}
use Rattle.plc_types.specs.declared.range.Range.{Range}
use Rattle.plc_types.specs.Types.{in_range}
use Rattle.program_tree.specs.Tree.{Expression}
use Rattle.program_tree.specs.declared.scratch.Scratch.{Scratch}
use Rattle.meaning.specs.Values.{State, Callees, no_callees, fault_in, value_of, faults}
use Rattle.meaning.specs.Effects.{range_at, with_fault, stored}
use Rattle.meaning.specs.Calls.{given}
use Rattle.scan_model.specs.InRange.{IsInRange}
use Rattle.flat_core.specs.FlatView.{flats_of}
use Rattle.flat_core.specs.FlatScans.{takes, placed, run_of_all}
use Rattle.flat_form.specs.Owners.{OwnerData, call_owner}
use Rattle.flat_form.specs.Bodies.{Bodies}
use Rattle.flat_form.specs.WellTyped.{FrameFits, tested_in}

abbrev pub held : State → ℕ → ℤ
held x p = slice_index_or x p (pos 0)

-- The cells of an owner, whose ranges are these, stand at places of the store, all below k, each cell but FAULT at one of its own. What is
-- put there is refused as the owner's assignments refuse it, where these test the range.
pub record Owns (rs : List Range) (cs : List Scratch) (own : List Range) (tested : ℕ → Bool) (place_at : ℕ → ℕ) (k : ℕ) : Type 0 where
  pub above : (p : ℕ) → 0 < p → p < length own → 0 < place_at p
  pub below : (p : ℕ) → 0 < p → p < length own → place_at p < k
  pub apart : (p q : ℕ) → 0 < p → p < length own → 0 < q → q < length own → place_at p ≡ place_at q → p ≡ q
  pub puts : (p : ℕ) (v : ℤ) (x : State) → 0 < p → p < length own → placed rs cs (place_at p) v x ≡ (if not (tested p) || in_range v (range_at own p) then slice_set x (place_at p) v else slice_set x 0 (pos 1))

-- The store shows a state of n cells. FAULT is TRUE where it is in the state, else what it was when the owner's run began.
pub record Shows (n : ℕ) (place_at : ℕ → ℕ) (f : ℤ) (s x : State) : Type 0 where
  pub long : length s ≡ n
  pub cells : (p : ℕ) → 0 < p → p < n → held x (place_at p) ≡ held s p
  pub fault : held x 0 ≡ (if fault_in s then pos 1 else f)

-- A run over an owner's cells, with scratch cells from k on, led from one store to another: places below k that are none of the
-- owner's, FAULT apart, are as they were.
pub record Ran (n k : ℕ) (place_at : ℕ → ℕ) (x y : State) : Type 0 where
  pub long : length y ≡ length x
  pub same : (p : ℕ) → 0 < p → p < k → ((q : ℕ) → 0 < q → q < n → p ≡ place_at q → ⊥) → held y p ≡ held x p

-- behind a run the store shows a state
pub record Done (n k : ℕ) (place_at : ℕ → ℕ) (f : ℤ) (s x y : State) : Type 0 where
  pub shown : Shows n place_at f s y
  pub ran : Ran n k place_at x y

-- two stores agree below a place, FAULT apart
abbrev pub SameUpTo : ℕ → State → State → Type 0
SameUpTo j y z = (p : ℕ) → 0 < p → p < j → held z p ≡ held y p

-- Behind the statements that an expression's calls become, whose scratch cells stand from k up to j, what is left of the expression has
-- its value, and it and those statements meet its faults, also once places from j on are set.
pub record Evaluated (callees : Callees) (base : ℕ) (e left : Expression) (s : State) (k j : ℕ) (x y : State) : Type 0 where
  pub long : length y ≡ length x
  pub kept : SameUpTo k x y
  pub faulted : Bool
  pub fault : held y 0 ≡ (if faulted then pos 1 else held x 0)
  pub value : (z : State) → SameUpTo j y z → value_of no_callees 0 left z ≡ value_of callees base e s
  pub faults : (z : State) → SameUpTo j y z → (faulted || faults no_callees 0 left z) ≡ faults callees base e s

-- the scratch cells that are made stand among all from k on, as far as it counts for what they take
abbrev pub Stands : List Range → List Scratch → ℕ → List Scratch → Type 0
Stands rs cs k made = (i : ℕ) (v : ℤ) → i < length made → takes cs (k + i - length rs) v ≡ takes made i v

-- A FUNCTION that may be called with so many inputs: what its body does to a state of its own, and that the flat list of a call, whose
-- cells stand at these places, shows that.
pub record CallRuns (rs : List Range) (cs : List Scratch) (bodies : Bodies) (callees : Callees) (f inputs : ℕ) : Type 0 where
  pub fits : FrameFits (bodies.frame f) inputs
  pub effect : State → State
  pub ends : (vs : List ℤ) → callees.ends f vs ≡ effect (given (bodies.frame f).ranges 2 vs (bodies.frame f).start)
  pub keeps : (s : State) → IsInRange (bodies.frame f).ranges s → IsInRange (bodies.frame f).ranges (effect s)
  pub runs : (answer : ℕ) (places : List ℕ) (k : ℕ) (g : ℤ) (s x : State) → Owns rs cs (bodies.frame f).ranges (tested_in (bodies.frame f)) (call_owner answer places) k
      → Shows (length (bodies.frame f).ranges) (call_owner answer places) g s x → IsInRange (bodies.frame f).ranges s → length rs ≤ k → k + length (bodies.call_scratch f) ≤ length x → Stands rs cs k (bodies.call_scratch f)
      → Done (length (bodies.frame f).ranges) k (call_owner answer places) g (effect s) x (run_of_all rs cs (flats_of (bodies.call_list f answer places k)) x)

-- A run of a block, by its number, over the cells of an owner from a base on: its flat list shows what it does.
abbrev pub BlockRuns : List Range → List Scratch → Bodies → Callees → List Range → (ℕ → Bool) → OwnerData → ℕ → ℕ → Type 0
BlockRuns rs cs bodies callees own tested owner b base =
    (k : ℕ) (f : ℤ) (s x : State) → Owns rs cs own tested owner k → Shows (length own) owner f s x → IsInRange own s → length rs ≤ k → k + length (bodies.run_scratch b) ≤ length x → Stands rs cs k (bodies.run_scratch b)
    → Done (length own) k owner f (callees.runs b own base s) x (run_of_all rs cs (flats_of (bodies.run_list owner b base k)) x)

-- ---- single steps

pub Owns-later : (rs : List Range) (cs : List Scratch) (own : List Range) (tested : ℕ → Bool) (place_at : ℕ → ℕ) (k j : ℕ) → k ≤ j → Owns rs cs own tested place_at k → Owns rs cs own tested place_at j
Owns-later rs cs own tested place_at k j h o = record { above = o.above; below = λ p a b. let c = o.below p a b in omega arith; apart = o.apart; puts = o.puts }

module _ (n k : ℕ) (place_at : ℕ → ℕ) where
  pub Ran-none : (x : State) → Ran n k place_at x x
  Ran-none x = record { long = refl; same = λ p a b c. refl }

  pub Ran-both : (x y z : State) → Ran n k place_at x y → Ran n k place_at y z → Ran n k place_at x z
  Ran-both x y z a b = record { long = b.long ∙ a.long; same = λ p c d e. b.same p c d e ∙ a.same p c d e }

  -- FAULT is no place that has to stay
  pub Ran-with_fault : (b : Bool) (x : State) → Ran n k place_at x (with_fault b x)
  Ran-with_fault true x = record { long = length-set x 0 (pos 1); same = λ p a b c. get_or-set_other x 0 p (pos 1) (pos 0) (omega arith) }
  Ran-with_fault false x = Ran-none x

  -- nor is a scratch cell from k on
  pub Ran-scratch : (x : State) (j : ℕ) (v : ℤ) → k ≤ j → Ran n k place_at x (slice_set x j v)
  Ran-scratch x j v h = record { long = length-set x j v; same = λ p a b c. get_or-set_other x j p v (pos 0) (omega arith) }

  pub Ran-owned : (x : State) (p : ℕ) (v : ℤ) → 0 < p → p < n → Ran n k place_at x (slice_set x (place_at p) v)
  Ran-owned x p v a b = record { long = length-set x (place_at p) v; same = λ q c d e. get_or-set_other x (place_at p) q v (pos 0) (e p a b) }

  pub Ran-kept : (x y : State) → length y ≡ length x → SameUpTo k x y → Ran n k place_at x y
  Ran-kept x y long kept = record { long = long; same = λ p a b c. kept p a b }

module _ (n : ℕ) (place_at : ℕ → ℕ) (above : (p : ℕ) → 0 < p → p < n → 0 < place_at p) (f : ℤ) where
  pub Shows-with_fault : (b : Bool) (s x : State) → 0 < n → 0 < length x → Shows n place_at f s x → Shows n place_at f (with_fault b s) (with_fault b x)
  Shows-with_fault false s x some room h = h
  Shows-with_fault true s x some room h =
      let long = h.long in
      let set_now : held (slice_set s 0 (pos 1)) 0 ≡ pos 1 = get_or-set_same s 0 (pos 1) (pos 0) (omega arith) in
      record {
        long = length-set s 0 (pos 1) ∙ h.long;
        cells = λ p a b. let c = above p a b in get_or-set_other x 0 (place_at p) (pos 1) (pos 0) (omega arith) ∙ h.cells p a b ∙ sym (get_or-set_other s 0 p (pos 1) (pos 0) (omega arith));
        fault = rw set_now (get_or-set_same x 0 (pos 1) (pos 0) room);
      }

  -- places from k on are none of the owner's
  pub Shows-scratch : (k : ℕ) (s x : State) (j : ℕ) (v : ℤ) → ((p : ℕ) → 0 < p → p < n → place_at p < k) → 0 < k → k ≤ j → Shows n place_at f s x → Shows n place_at f s (slice_set x j v)
  Shows-scratch k s x j v below some h is = record {
    long = is.long;
    cells = λ p a b. let c = below p a b in get_or-set_other x j (place_at p) v (pos 0) (omega arith) ∙ is.cells p a b;
    fault = get_or-set_other x j 0 v (pos 0) (omega arith) ∙ is.fault;
  }

  -- a store that is the same below k
  pub Shows-kept : (k : ℕ) (s x y : State) → ((p : ℕ) → 0 < p → p < n → place_at p < k) → SameUpTo k x y → held y 0 ≡ held x 0 → Shows n place_at f s x → Shows n place_at f s y
  Shows-kept k s x y below kept same is = record {
    long = is.long;
    cells = λ p a b. kept (place_at p) (above p a b) (below p a b) ∙ is.cells p a b;
    fault = same ∙ is.fault;
  }

  pub Shows-owned : (k : ℕ) (s x : State) (c : ℕ) (v : ℤ) → ((p q : ℕ) → 0 < p → p < n → 0 < q → q < n → place_at p ≡ place_at q → p ≡ q) → ((p : ℕ) → 0 < p → p < n → place_at p < k) → k ≤ length x → 0 < c → c < n
      → Shows n place_at f s x → Shows n place_at f (slice_set s c v) (slice_set x (place_at c) v)
  Shows-owned k s x c v apart below room low high is = record {
    long = length-set s c v ∙ is.long;
    cells = λ p a b. by_place p a b (p == c) refl;
    fault = let z = above c low high in let same : held (slice_set s c v) 0 ≡ held s 0 = get_or-set_other s c 0 v (pos 0) (omega arith) in rw same (get_or-set_other x (place_at c) 0 v (pos 0) (omega arith) ∙ is.fault);
  }
    where
      by_place : (p : ℕ) → 0 < p → p < n → (test : Bool) → (p == c) ≡ test → held (slice_set x (place_at c) v) (place_at p) ≡ held (slice_set s c v) p
      by_place p a b true e =
          let same : p ≡ c = search (rules, tests) in
          let long = is.long in
          let low_enough = below c low high in
          ap (λ (q : ℕ). held (slice_set x (place_at c) v) (place_at q)) same ∙ get_or-set_same x (place_at c) v (pos 0) (omega arith) ∙ sym (get_or-set_same s c v (pos 0) (omega arith)) ∙ ap (λ (q : ℕ). held (slice_set s c v) q) (sym same)
      by_place p a b false e =
          let other : p ≢ c = λ is_same. let two : (p == c) ≡ true = search (rules, tests) in cc in
          let apart_here : place_at p ≢ place_at c = λ is_same. other (apart p c a b low high is_same) in
          get_or-set_other x (place_at c) (place_at p) v (pos 0) apart_here ∙ is.cells p a b ∙ sym (get_or-set_other s c p v (pos 0) other)

-- ---- an assignment to an owner's cell

pub Done-stored : (rs : List Range) (cs : List Scratch) (own : List Range) (tested : ℕ → Bool) (place_at : ℕ → ℕ) (k : ℕ) (f : ℤ) (c : ℕ) (v : ℤ) (s x : State) → Owns rs cs own tested place_at k → 0 < c → c < length own → k ≤ length x
    → (tested c || in_range v (range_at own c)) ≡ true → Shows (length own) place_at f s x → Done (length own) k place_at f (stored own c v s) x (placed rs cs (place_at c) v x)
Done-stored rs cs own tested place_at k f c v s x o low high room fits is = rw (o.puts c v x low high) (by_test (tested c) (in_range v (range_at own c)) fits)
  where
    by_test : (t r : Bool) → (t || r) ≡ true → Done (length own) k place_at f (if r then slice_set s c v else slice_set s 0 (pos 1)) x (if not t || r then slice_set x (place_at c) v else slice_set x 0 (pos 1))
    by_test true true h = record { shown = Shows-owned (length own) place_at o.above f k s x c v o.apart o.below room low high is; ran = Ran-owned (length own) k place_at x c v low high }
    by_test true false h = let some = o.below c low high in record { shown = Shows-with_fault (length own) place_at o.above f true s x (omega arith) (omega arith) is; ran = Ran-with_fault (length own) k place_at true x }
    by_test false true h = record { shown = Shows-owned (length own) place_at o.above f k s x c v o.apart o.below room low high is; ran = Ran-owned (length own) k place_at x c v low high }
    by_test false false h = cc
