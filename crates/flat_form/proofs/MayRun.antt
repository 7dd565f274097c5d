-- When POUs may be run and called: what an idle block, a POU of a number, and one without a number owe.
use Rattle.std.proofs.Common.{◌≡◌, ◌≢◌, ℕ, zero, suc, ◌<◌, ◌≤◌, Bool, true, false, List, refl, subst, arith, rules, tests}
use Rattle.std.specs.Prelude.{◌==◌, slice_index_or, if◌then◌else◌}
use Rattle.plc_types.specs.declared.range.Range.{Range}
use Rattle.program_tree.specs.Tree.{CalledData}
use Rattle.program_tree.specs.Leaving.{LeavesNothing}
use Rattle.meaning.specs.Calls.{nothing}
use Rattle.meaning.specs.Frames.{frames_of, function_body}
use Rattle.flat_form.specs.Pous.{block_body}
use Rattle.flat_form.specs.Idle.{is_idle_all, idle_of}
use Rattle.flat_form.specs.WellTyped.{AreTyped, extents_of, Choice, tested_in, FrameFits, MayRunOf, MayCallOf}
use Rattle.flat_form.proofs.Owed.{first_holds, second_holds, owes}

same_number : (b : ℕ) → (b == b) ≡ true
same_number b = search (rules, tests)

other_number : (b n : ℕ) → b ≢ n → (b == n) ≡ false
other_number b n other = by_test (b == n) refl
  where
    by_test : (test : Bool) → (b == n) ≡ test → test ≡ false
    by_test true e = let same : b ≡ n = search (rules, tests) in absurd (other same)
    by_test false e = refl

module _ (ps : List CalledData) where
  -- no EXIT and no RETURN leaves the body of a POU, by its number, and it is typed, where it is run and where it is called
  abbrev pub BlockIsTyped : ℕ → List Range → (ℕ → Bool) → ℕ → Type 0
  BlockIsTyped i rs tested base =
      LeavesNothing (block_body (slice_index_or ps i nothing))
      × AreTyped (frames_of ps) (MayCallOf ps i) (MayRunOf ps rs tested i) (extents_of ps i) rs tested base (block_body (slice_index_or ps i nothing))

  -- the parts of a FUNCTION's body alone
  abbrev pub FunctionParts : ℕ → Type 0
  FunctionParts i =
      AreTyped (frames_of ps) (MayCallOf ps i) (MayRunOf ps (frames_of ps i).ranges (tested_in (frames_of ps i)) i) (extents_of ps i) (frames_of ps i).ranges (tested_in (frames_of ps i)) 0 (function_body (slice_index_or ps i nothing))

  abbrev pub FunctionIsTyped : ℕ → Type 0
  FunctionIsTyped i = LeavesNothing (function_body (slice_index_or ps i nothing)) × FunctionParts i

  -- ---- runs

  next-idle : (n b : ℕ) (rs : List Range) (tested : ℕ → Bool) (base : ℕ) (sofar : idle_of ps n b ≡ true → MayRunOf ps rs tested n b base) (test : Bool)
      → (if test then is_idle_all (idle_of ps n) (block_body (slice_index_or ps n nothing)) else idle_of ps n b) ≡ true
      → Choice test (Choice (is_idle_all (idle_of ps n) (block_body (slice_index_or ps n nothing))) (Unit {0}) (BlockIsTyped n rs tested base)) (MayRunOf ps rs tested n b base)
  next-idle n b rs tested base sofar true h = first_holds (is_idle_all (idle_of ps n) (block_body (slice_index_or ps n nothing))) (Unit {0}) (BlockIsTyped n rs tested base) h tt
  next-idle n b rs tested base sofar false h = sofar h

  pub may-run-idle : (n b : ℕ) (rs : List Range) (tested : ℕ → Bool) (base : ℕ) → idle_of ps n b ≡ true → MayRunOf ps rs tested n b base
  may-run-idle zero b rs tested base h = tt
  may-run-idle (suc n) b rs tested base h = next-idle n b rs tested base (may-run-idle n b rs tested base) (b == n) h

  pub may-run-unknown : (n b : ℕ) (rs : List Range) (tested : ℕ → Bool) (base : ℕ) → n ≤ b → MayRunOf ps rs tested n b base
  may-run-unknown zero b rs tested base h = tt
  may-run-unknown (suc n) b rs tested base h =
      second_holds (b == n) (Choice (is_idle_all (idle_of ps n) (block_body (slice_index_or ps n nothing))) (Unit {0}) (BlockIsTyped n rs tested base)) (MayRunOf ps rs tested n b base)
      (other_number b n (omega arith)) (may-run-unknown n b rs tested base (omega arith))

  next-run : (n i : ℕ) (rs : List Range) (tested : ℕ → Bool) (base : ℕ) (sofar : i < n → MayRunOf ps rs tested n i base) → i < suc n → BlockIsTyped i rs tested base → (test : Bool) → (i == n) ≡ test
      → Choice test (Choice (is_idle_all (idle_of ps n) (block_body (slice_index_or ps n nothing))) (Unit {0}) (BlockIsTyped n rs tested base)) (MayRunOf ps rs tested n i base)
  next-run n i rs tested base sofar low typed true e =
      let same : i ≡ n = search (rules, tests) in
      owes (is_idle_all (idle_of ps n) (block_body (slice_index_or ps n nothing))) (BlockIsTyped n rs tested base) (subst (λ (j : ℕ). BlockIsTyped j rs tested base) same typed)
  next-run n i rs tested base sofar low typed false e =
      let other : i ≢ n = λ is_same. let two : (i == n) ≡ true = search (rules, tests) in cc in
      sofar (omega arith)

  pub may-run-known : (n i : ℕ) (rs : List Range) (tested : ℕ → Bool) (base : ℕ) → i < n → BlockIsTyped i rs tested base → MayRunOf ps rs tested n i base
  may-run-known zero i rs tested base low typed = absurd (omega (arith, low))
  may-run-known (suc n) i rs tested base low typed = next-run n i rs tested base (λ h. may-run-known n i rs tested base h typed) low typed (i == n) refl

  -- ---- calls

  next-call : (n i inputs : ℕ) (sofar : i < n → MayCallOf ps n i inputs) → i < suc n → FrameFits (frames_of ps i) inputs → FunctionIsTyped i → (test : Bool) → (i == n) ≡ test
      → Choice test (FrameFits (frames_of ps n) inputs × LeavesNothing (function_body (slice_index_or ps n nothing)) × FunctionParts n) (MayCallOf ps n i inputs)
  next-call n i inputs sofar low fits typed true e =
      let same : i ≡ n = search (rules, tests) in
      let typed_here : FunctionIsTyped n = subst (λ (j : ℕ). FunctionIsTyped j) same typed in
      (subst (λ (j : ℕ). FrameFits (frames_of ps j) inputs) same fits, typed_here.0, typed_here.1)
  next-call n i inputs sofar low fits typed false e =
      let other : i ≢ n = λ is_same. let two : (i == n) ≡ true = search (rules, tests) in cc in
      sofar (omega arith)

  pub may-call-known : (n i inputs : ℕ) → i < n → FrameFits (frames_of ps i) inputs → FunctionIsTyped i → MayCallOf ps n i inputs
  may-call-known zero i inputs low fits typed = absurd (omega (arith, low))
  may-call-known (suc n) i inputs low fits typed = next-call n i inputs (λ h. may-call-known n i inputs h fits typed) low fits typed (i == n) refl
