-- The flat lists of a FOR and of a body of its own, whose flag is cleared before them, show what they do.
use Rattle.std.proofs.Common.{◌≡◌, ℕ, zero, suc, ◌+◌, ◌-◌, ◌<◌, ◌≤◌, Bool, true, false, ◌||◌, List, [], ◌∷◌, ◌++◌, length, ℤ, pos, ◌+ℤ◌, refl, sym, ap, subst, ◌∙◌, arith, rules, tests, length-append}
use Rattle.std.specs.Prelude.{slice_set, nat_lt, if◌then◌else◌}
use Rattle.std.proofs.lemmas.List.{get_or-set_same}
use Rattle.plc_types.specs.declared.range.Range.{Range}
use Rattle.program_tree.specs.Tree.{number}
use Rattle.program_tree.specs.declared.scratch.Scratch.{Scratch}
use Rattle.meaning.specs.Values.{State}
use Rattle.meaning.specs.Effects.{Effect, on, exited, returned, state_of, followed_by, behind_turn, behind_body, range_at, stored, effect_of_turns}
use Rattle.scan_model.specs.InRange.{IsInRange}
use Rattle.scan_model.proofs.Keeping.{HoldsFault, kept_by_store}
use Rattle.flat_core.specs.FlatTree.{FlatStatement, set}
use Rattle.flat_core.specs.FlatView.{flats_of}
use Rattle.flat_core.specs.FlatScans.{takes, placed, run_of_all}
use Rattle.flat_form.specs.Owners.{OwnerData}
use Rattle.flat_form.specs.FlatCharts.{flag_cell}
use Rattle.flat_form.specs.Unless.{Flags, unless_left, flag_scratch, flag_start, turn_flags, body_flags}
use Rattle.flat_form.specs.FlatLists.{repeated, unrolled}
use Rattle.flat_form.specs.WellTyped.{IsOwnPlace}
use Rattle.flat_laws.proofs.Shown.{held, Owns, Owns-later, Shows, Shows-scratch, Ran-none, Ran-scratch, Done, Done-stored, Stands}
use Rattle.flat_laws.proofs.Sequences.{run-append, Stands-front, Stands-back}
use Rattle.flat_laws.proofs.TurnValues.{stay_from, first-fits, later-fit}
use Rattle.flat_laws.proofs.Marks.{Mark, Mark-later, Marks, Marks-later, Clear, Clear-kept, Tells, Led, Led-earlier, Led-behind, Done-led, told-on}
use Rattle.flat_laws.proofs.Guards.{leaves, unless-run, Led-followed}

-- ---- effects

-- So many turns as a list, which an EXIT in one of them leaves.
abbrev pub turns_left : List Range → ℕ → ℕ → ℤ → ℤ → (State → Effect) → State → Effect
turns_left rs zero c v step body s = on (stored rs c v s)
turns_left rs (suc n) c v step body s = followed_by (body (stored rs c v s)) (turns_left rs n c (v +ℤ step) step body)

-- the FOR goes on where an EXIT left its turns
abbrev pub ended : Effect → Effect
ended (on s) = on s
ended (exited s) = on s
ended (returned s) = returned s

behind-ended : (effect : Effect) (next other : State → Effect) → ((s : State) → next s ≡ ended (other s)) → behind_turn effect next ≡ ended (followed_by effect other)
behind-ended (on s) next other h = h s
behind-ended (exited s) next other h = refl
behind-ended (returned s) next other h = refl

pub turns-ended : (rs : List Range) (n c : ℕ) (v step : ℤ) (body : State → Effect) (s : State) → effect_of_turns rs n c v step body s ≡ ended (turns_left rs n c v step body s)
turns-ended rs zero c v step body s = refl
turns-ended rs (suc n) c v step body s =
    behind-ended (body (stored rs c v s)) (effect_of_turns rs n c (v +ℤ step) step body) (turns_left rs n c (v +ℤ step) step body) (λ t. turns-ended rs n c (v +ℤ step) step body t)

followed-again : (effect : Effect) (f g : State → Effect) → followed_by (followed_by effect f) g ≡ followed_by effect (λ s. followed_by (f s) g)
followed-again (on s) f g = refl
followed-again (exited s) f g = refl
followed-again (returned s) f g = refl

kept_followed : (rs : List Range) (effect : Effect) (next : State → Effect) → IsInRange rs (state_of effect) → ((s : State) → IsInRange rs s → IsInRange rs (state_of (next s))) → IsInRange rs (state_of (followed_by effect next))
kept_followed rs (on s) next h keeps = keeps s h
kept_followed rs (exited s) next h keeps = h
kept_followed rs (returned s) next h keeps = h

-- ---- a flag that is cleared

pub behind_is : (c n : ℕ) → n ≤ c → nat_lt c n ≡ false
behind_is c n h = search (rules, tests)

pub placed-behind : (rs : List Range) (cs : List Scratch) (c : ℕ) (v : ℤ) (x : State) → length rs ≤ c → takes cs (c - length rs) v ≡ true → placed rs cs c v x ≡ slice_set x c v
placed-behind rs cs c v x h free = rw (behind_is c (length rs) h, free) refl

-- a scratch cell that takes each value
pub Stands-free : (rs : List Range) (cs : List Scratch) (k : ℕ) (c : Scratch) (b : List Scratch) (v : ℤ) → c.is_subrange ≡ false → Stands rs cs k (c ∷ b) → takes cs (k - length rs) v ≡ true
Stands-free rs cs k c b v free h =
    let same : k - length rs ≡ k + 0 - length rs = omega arith in
    ap (λ n. takes cs n v) same ∙ h 0 v (omega arith) ∙ rw free refl

-- behind the statement that clears a flag, where there is one
pub record FlagCleared (rs : List Range) (cs : List Scratch) (n k : ℕ) (place_at : ℕ → ℕ) (f : ℤ) (b : Bool) (s x y : State) : Type 0 where
  pub done : Done n k place_at f s x y
  pub clear : b ≡ true → held y k ≡ pos 0
  pub mark : b ≡ true → Mark rs cs n place_at (k + length (flag_scratch b)) k

pub flag_cleared : (rs : List Range) (cs : List Scratch) (own : List Range) (tested : ℕ → Bool) (place_at : ℕ → ℕ) (k : ℕ) (f : ℤ) (b : Bool) (more : List Scratch) (s x : State) → Owns rs cs own tested place_at k → Shows (length own) place_at f s x → length rs ≤ k → 0 < length rs
    → k + length (flag_scratch b ++ more) ≤ length x → Stands rs cs k (flag_scratch b ++ more) → FlagCleared rs cs (length own) k place_at f b s x (run_of_all rs cs (flats_of (flag_start b k)) x)
flag_cleared rs cs own tested place_at k f false more s x owns shows le some room stands = record { done = record { shown = shows; ran = Ran-none (length own) k place_at x }; clear = λ h. cc; mark = λ h. cc }
flag_cleared rs cs own tested place_at k f true more s x owns shows le some room stands =
    let free : (v : ℤ) → takes cs (k - length rs) v ≡ true = λ v. Stands-free rs cs k flag_cell more v refl stands in
    let y = slice_set x k (pos 0) in
    let is : placed rs cs k (pos 0) x ≡ y = placed-behind rs cs k (pos 0) x le (free (pos 0)) in
    let all : FlagCleared rs cs (length own) k place_at f true s x y = record {
      done = record { shown = Shows-scratch (length own) place_at owns.above f k s x k (pos 0) owns.below (omega arith) (omega arith) shows; ran = Ran-scratch (length own) k place_at x k (pos 0) (omega arith) };
      clear = λ h. get_or-set_same x k (pos 0) (pos 0) (omega arith);
      mark = λ h. record { low = le; high = omega arith; free = free; other = λ q a c same. let less = owns.below q a c in absurd (omega arith) };
    } in
    subst (λ z. FlagCleared rs cs (length own) k place_at f true s x z) (sym is) all

-- ---- the flags inside a FOR

module _ (rs : List Range) (cs : List Scratch) (n k : ℕ) (place_at : ℕ → ℕ) (flags : Flags) where
  pub turn_marks : (b r : Bool) → (b ≡ true → Mark rs cs n place_at (k + length (flag_scratch b)) k) → Marks rs cs n place_at false r flags k
      → Marks rs cs n place_at b r (turn_flags b flags k) (k + length (flag_scratch b))
  turn_marks true r mark marks = record {
    exits = λ h. mark refl;
    returns = λ h. Mark-later rs cs n place_at k (k + 1) flags.returning (omega arith) (marks.returns h);
    apart = λ h i same. let less = (marks.returns i).high in absurd (omega arith);
  }
  turn_marks false r mark marks = Marks-later rs cs n place_at false r flags k (k + 0) (omega arith) marks

  pub body_marks : (e b : Bool) → (b ≡ true → Mark rs cs n place_at (k + length (flag_scratch b)) k) → Marks rs cs n place_at e false flags k
      → Marks rs cs n place_at e b (body_flags b flags k) (k + length (flag_scratch b))
  body_marks e true mark marks = record {
    exits = λ h. Mark-later rs cs n place_at k (k + 1) flags.exit (omega arith) (marks.exits h);
    returns = λ h. mark refl;
    apart = λ h i same. let less = (marks.exits h).high in absurd (omega arith);
  }
  body_marks e false mark marks = Marks-later rs cs n place_at e false flags k (k + 0) (omega arith) marks

module _ (k : ℕ) (flags : Flags) where
  pub turn_clear : (b r : Bool) (x : State) → (b ≡ true → held x k ≡ pos 0) → Clear false r flags x → Clear b r (turn_flags b flags k) x
  turn_clear true r x new clear = (new, clear.1)
  turn_clear false r x new clear = clear

  pub body_clear : (e b : Bool) (x : State) → (b ≡ true → held x k ≡ pos 0) → Clear e false flags x → Clear e b (body_flags b flags k) x
  body_clear e true x new clear = (clear.0, new)
  body_clear e false x new clear = clear

  turn_tells : (b r : Bool) (effect : Effect) (z : State) → Tells b r (turn_flags b flags k) effect z → Tells false r flags (ended effect) z
  turn_tells true r (on s) z t = (λ h. cc, t.1)
  turn_tells true r (exited s) z t = (λ h. cc, t.2)
  turn_tells true r (returned s) z t = (t.0, t.1, λ h. cc)
  turn_tells false r (on s) z t = (λ h. cc, t.1)
  turn_tells false r (exited s) z t = (λ h. cc, t.2)
  turn_tells false r (returned s) z t = (t.0, t.1, λ h. cc)

  body_tells : (e b : Bool) (effect : Effect) (z : State) → Tells e b (body_flags b flags k) effect z → Tells e false flags (behind_body effect) z
  body_tells e true (on s) z t = (t.0, λ h. cc)
  body_tells e true (exited s) z t = (t.0, t.1, λ h. cc)
  body_tells e true (returned s) z t = (t.2, λ h. cc)
  body_tells e false (on s) z t = (t.0, λ h. cc)
  body_tells e false (exited s) z t = (t.0, t.1, λ h. cc)
  body_tells e false (returned s) z t = (t.2, λ h. cc)

  module _ (n : ℕ) (place_at : ℕ → ℕ) (f : ℤ) where
    ended_shown : (effect : Effect) (z : State) → Shows n place_at f (state_of effect) z → Shows n place_at f (state_of (ended effect)) z
    ended_shown (on s) z h = h
    ended_shown (exited s) z h = h
    ended_shown (returned s) z h = h

    body_shown : (effect : Effect) (z : State) → Shows n place_at f (state_of effect) z → Shows n place_at f (state_of (behind_body effect)) z
    body_shown (on s) z h = h
    body_shown (exited s) z h = h
    body_shown (returned s) z h = h

    pub turn_led : (b r : Bool) (effect : Effect) (x z : State) → Led n (k + length (flag_scratch b)) place_at f b r (turn_flags b flags k) effect x z → Led n k place_at f false r flags (ended effect) x z
    turn_led true r effect x z led = record {
      shown = ended_shown effect z led.shown;
      long = led.long;
      same = λ p low high own not_exit not_return. led.same p low (omega arith) own (λ h is. absurd (omega arith)) not_return;
      tells = turn_tells true r effect z led.tells;
    }
    turn_led false r effect x z led = record {
      shown = ended_shown effect z led.shown;
      long = led.long;
      same = λ p low high own not_exit not_return. led.same p low (omega arith) own (λ h. cc) not_return;
      tells = turn_tells false r effect z led.tells;
    }

    pub body_led : (e b : Bool) (effect : Effect) (x z : State) → Led n (k + length (flag_scratch b)) place_at f e b (body_flags b flags k) effect x z → Led n k place_at f e false flags (behind_body effect) x z
    body_led e true effect x z led = record {
      shown = body_shown effect z led.shown;
      long = led.long;
      same = λ p low high own not_exit not_return. led.same p low (omega arith) own not_exit (λ h is. absurd (omega arith));
      tells = body_tells e true effect z led.tells;
    }
    body_led e false effect x z led = record {
      shown = body_shown effect z led.shown;
      long = led.long;
      same = λ p low high own not_exit not_return. led.same p low (omega arith) own not_exit (λ h. cc);
      tells = body_tells e false effect z led.tells;
    }

-- ---- turns

module _ (rs : List Range) (cs : List Scratch) (own : List Range) (tested : ℕ → Bool) (owner : OwnerData) where
  -- a list, by the place from which its scratch cells are numbered, shows an effect, and its flags tell the outcome
  abbrev pub RunsUnder : Bool → Bool → Flags → List Scratch → (State → Effect) → (ℕ → List FlatStatement) → Type 0
  RunsUnder e r flags made effect list = (k : ℕ) (f : ℤ) (s x : State) → Owns rs cs own tested owner k → Shows (length own) owner f s x → IsInRange own s → length rs ≤ k → 0 < length rs → k + length made ≤ length x → Stands rs cs k made
      → Marks rs cs (length own) owner e r flags k → Clear e r flags x → Led (length own) k owner f e r flags (effect s) x (run_of_all rs cs (flats_of (list k)) x)

  module _ (first : HoldsFault own) (e r : Bool) (flags : Flags) (low : ℕ) (f : ℤ) (owns : Owns rs cs own tested owner low) (marks : Marks rs cs (length own) owner e r flags low) (le : length rs ≤ low) (some : 0 < length rs)
      (c : ℕ) (step : ℤ) (made : List Scratch) (body : ℕ → List FlatStatement) (effect : State → Effect) (own_place : IsOwnPlace own c) (keeps : (s : State) → IsInRange own s → IsInRange own (state_of (effect s))) where
    -- behind what was done so far, which may have left the turns
    pub done_turns : (n : ℕ) (v : ℤ) → (tested c || stay_from n v step (range_at own c)) ≡ true → (0 < n → RunsUnder e r flags made effect body)
        → (k : ℕ) (so_far : Effect) (x y : State) → low ≤ k → IsInRange own (state_of so_far) → k + length (repeated n made) ≤ length x → Stands rs cs k (repeated n made) → Led (length own) low owner f e r flags so_far x y
        → Led (length own) low owner f e r flags (followed_by so_far (turns_left own n c v step effect)) x (run_of_all rs cs (flats_of (unrolled (unless_left e r flags) n (owner c) v step (length made) body k)) y)
    done_turns zero v fits each k so_far x y far range room stands led =
        let n = length own in
        let long = led.long in
        let list = set (owner c) (number v) ∷ [] in
        let y1 = placed rs cs (owner c) v y in
        let put : Done n low owner f (stored own c v (state_of so_far)) y y1 = Done-stored rs cs own tested owner low f c v (state_of so_far) y owns own_place.0 own_place.1 (omega arith) (first-fits (tested c) zero v step (range_at own c) fits) led.shown in
        subst (λ z. Led n low owner f e r flags (followed_by so_far (turns_left own zero c v step effect)) x z) (sym (unless-run rs cs e r flags so_far list y led.tells))
        (Led-followed n low owner f e r flags so_far (turns_left own zero c v step effect) x y y1 led
        (λ is. Done-led rs cs some n low owner e r flags marks f (stored own c v (state_of so_far)) y y1 (told-on n low owner f e r flags so_far y is led.tells) put))
    done_turns (suc n) v fits each k so_far x y far range room stands led =
        let m = length made in
        let many = length own in
        let parts = length-append made (repeated n made) in
        let long = led.long in
        let list = set (owner c) (number v) ∷ body k in
        let x1 = placed rs cs (owner c) v y in
        let s1 = stored own c v (state_of so_far) in
        let turn : State → Effect = λ s. effect (stored own c v s) in
        let rest = turns_left own n c (v +ℤ step) step effect in
        let put : Done many low owner f s1 y x1 = Done-stored rs cs own tested owner low f c v (state_of so_far) y owns own_place.0 own_place.1 (omega arith) (first-fits (tested c) (suc n) v step (range_at own c) fits) led.shown in
        let put_long = put.ran.long in
        let z = run_of_all rs cs (flats_of (body k)) x1 in
        let y1 = if leaves so_far then y else z in
        let one : Led many low owner f e r flags (followed_by so_far turn) x y1 = Led-followed many low owner f e r flags so_far turn x y z led
        (λ is.
        let clear = Clear-kept rs cs some many low owner e r flags marks y x1 (told-on many low owner f e r flags so_far y is led.tells) put.ran in
        let ran = each (omega arith) k f s1 x1 (Owns-later rs cs own tested owner low k far owns) put.shown (kept_by_store own first c v (state_of so_far) range) (omega arith) some (omega arith) (Stands-front rs cs k made (repeated n made) stands)
        (Marks-later rs cs many owner e r flags low k far marks) clear in
        Led-behind many low owner f e r flags s1 (turn (state_of so_far)) y x1 z put (Led-earlier many low owner f e r flags k (turn (state_of so_far)) x1 z far ran)) in
        let all = done_turns n (v +ℤ step) (later-fit (tested c) n v step (range_at own c) fits) (λ more. each (omega arith)) (k + m) (followed_by so_far turn) x y1 (omega arith)
        (kept_followed own so_far turn range (λ s h. keeps (stored own c v s) (kept_by_store own first c v s h))) (omega arith) (Stands-back rs cs k made (repeated n made) stands) one in
        let others = unrolled (unless_left e r flags) n (owner c) (v +ℤ step) step m body (k + m) in
        let ran_so : run_of_all rs cs (flats_of (unrolled (unless_left e r flags) (suc n) (owner c) v step m body k)) y ≡ run_of_all rs cs (flats_of others) y1
        = run-append rs cs (unless_left e r flags list) others y ∙ ap (λ w. run_of_all rs cs (flats_of others) w) (unless-run rs cs e r flags so_far list y led.tells) in
        subst (λ w. Led many low owner f e r flags (followed_by so_far (turns_left own (suc n) c v step effect)) x w) (sym ran_so)
        (subst (λ w. Led many low owner f e r flags w x (run_of_all rs cs (flats_of others) y1)) (followed-again so_far turn rest) all)
