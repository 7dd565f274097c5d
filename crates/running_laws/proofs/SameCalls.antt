-- Where POUs are the same at each number that may run, what may run does the same.
use Rattle.std.proofs.Common.{◌≡◌, ℕ, zero, suc, Bool, true, List, length, get_or, ℤ, refl, ap, subst, ◌∙◌}
use Rattle.std.specs.Prelude.{◌==◌}
use Rattle.std.proofs.lemmas.Bool.{eqb-true}
use Rattle.plc_types.specs.declared.range.Range.{Range}
use Rattle.program_tree.specs.Tree.{Statements, CalledData, block, function}
use Rattle.call_order.specs.Uses.{is_among}
use Rattle.meaning.specs.Values.{State, Callees}
use Rattle.meaning.specs.Effects.{state_of, effect_of_all}
use Rattle.meaning.specs.Calls.{given, run_of, ends_of, nothing, callees_of}
use Rattle.meaning.proofs.Cases.{by_test}
use Rattle.running_pous.specs.Uses.{uses_of_all, uses_of_called}
use Rattle.running_pous.specs.Running.{may_run}
use Rattle.running_pous.proofs.RunningLaws.{first_runs, used_runs}
use Rattle.running_laws.proofs.SameUses.{DoSame, DoSameFor, all_same}

-- ---- one POU

runs_same : (a b : Callees) (p : CalledData) → DoSameFor a b (uses_of_called p) → (rs : List Range) (base : ℕ) (s : State) → run_of a p rs base s ≡ run_of b p rs base s
runs_same a b (block body) h rs base s = ap state_of (all_same a b base rs body h s)
runs_same a b (function types own start body) h rs base s = refl

ends_same : (a b : Callees) (p : CalledData) → DoSameFor a b (uses_of_called p) → (vs : List ℤ) → ends_of a p vs ≡ ends_of b p vs
ends_same a b (block body) h vs = refl
ends_same a b (function types rs start body) h vs = ap state_of (all_same a b 0 rs body h (given rs 2 vs start))

-- ---- POUs, of which some run

module _ (cs ds : List CalledData) (runs : ℕ → Bool) (same : (n : ℕ) → runs n ≡ true → get_or ds n nothing ≡ get_or cs n nothing)
    (closed : (n u : ℕ) → runs n ≡ true → is_among u (uses_of_called (get_or cs n nothing)) ≡ true → runs u ≡ true) where
  -- what runs does the same where those are called that stand before a number
  abbrev AllSame : ℕ → Type 0
  AllSame m = (n : ℕ) → runs n ≡ true → DoSame (callees_of ds m) (callees_of cs m) n

  used : (m : ℕ) → AllSame m → runs m ≡ true → DoSameFor (callees_of ds m) (callees_of cs m) (uses_of_called (get_or cs m nothing))
  used m all is u there = all u (closed m u is there)

  run_at : (m : ℕ) → AllSame m → runs m ≡ true → (rs : List Range) (base : ℕ) (s : State)
      → run_of (callees_of ds m) (get_or ds m nothing) rs base s ≡ run_of (callees_of cs m) (get_or cs m nothing) rs base s
  run_at m all is rs base s =
      ap (λ (p : CalledData). run_of (callees_of ds m) p rs base s) (same m is)
      ∙ runs_same (callees_of ds m) (callees_of cs m) (get_or cs m nothing) (used m all is) rs base s

  end_at : (m : ℕ) → AllSame m → runs m ≡ true → (vs : List ℤ)
      → ends_of (callees_of ds m) (get_or ds m nothing) vs ≡ ends_of (callees_of cs m) (get_or cs m nothing) vs
  end_at m all is vs =
      ap (λ (p : CalledData). ends_of (callees_of ds m) p vs) (same m is)
      ∙ ends_same (callees_of ds m) (callees_of cs m) (get_or cs m nothing) (used m all is) vs

  here : (m n : ℕ) → AllSame m → (n == m) ≡ true → runs n ≡ true → DoSame (callees_of ds (suc m)) (callees_of cs (suc m)) n
  here m n all equal is =
      let now : runs m ≡ true = subst (λ (k : ℕ). runs k ≡ true) (eqb-true n m equal) is in
      (λ rs base s. rw equal (run_at m all now rs base s), λ vs. rw equal (end_at m all now vs))

  pub do_same : (m : ℕ) → AllSame m
  do_same zero n is = (λ rs base s. refl, λ vs. refl)
  do_same (suc m) n is =
      by_test (n == m) (λ equal. here m n (λ u is_run. do_same m u is_run) equal is)
      (λ off. let before = do_same m n is in (λ rs base s. rw off (before.0 rs base s), λ vs. rw off (before.1 vs)))

-- ---- the body of a PROGRAM

module _ (cs ds : List CalledData) (body : Statements) (long : length ds ≡ length cs) (same : (n : ℕ) → may_run cs body n ≡ true → get_or ds n nothing ≡ get_or cs n nothing) where
  used_same : DoSameFor (callees_of ds (length cs)) (callees_of cs (length cs)) (uses_of_all body)
  used_same u there = do_same cs ds (may_run cs body) same (used_runs cs body) (length cs) u (first_runs cs body u there)

  pub body_same : (rs : List Range) (base : ℕ) (s : State) → effect_of_all (callees_of ds (length ds)) rs base body s ≡ effect_of_all (callees_of cs (length cs)) rs base body s
  body_same rs base s =
      ap (λ (m : ℕ). effect_of_all (callees_of ds m) rs base body s) long
      ∙ all_same (callees_of ds (length cs)) (callees_of cs (length cs)) base rs body used_same s
