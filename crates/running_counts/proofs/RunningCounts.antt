-- POUs that are the same wherever they may run count the same flat statements for the PROGRAM's body.
use Rattle.std.proofs.Common.{◌≡◌, ℕ, zero, suc, Bool, true, false, if◌then◌else◌, List, get_or, refl, sym, ap, ◌∙◌, subst}
use Rattle.std.specs.Prelude.{◌==◌, slice_index_or}
use Rattle.std.proofs.lemmas.Bool.{eqb-true}
use Rattle.call_order.specs.Uses.{is_among}
use Rattle.program_tree.specs.Tree.{Statements, CalledData, block, function}
use Rattle.meaning.specs.Calls.{nothing}
use Rattle.meaning.specs.Frames.{frame_of, function_body}
use Rattle.flat_form.specs.Pous.{block_body}
use Rattle.flat_count.specs.Counts.{count_of_all, counting_of}
use Rattle.running_counts.proofs.Shortness.{frames_counted}
use Rattle.running_pous.specs.Uses.{uses_of_all, uses_of_called}
use Rattle.running_pous.specs.Running.{may_run}
use Rattle.running_pous.proofs.RunningLaws.{first_runs, used_runs}
use Rattle.running_counts.proofs.AlikeCounts.{IsAlike, alike_all}

-- a body of a POU uses what the POU uses
in_block : (c : CalledData) (u : ℕ) → is_among u (uses_of_all (block_body c)) ≡ true → is_among u (uses_of_called c) ≡ true
in_block (block body) u used = used
in_block (function types ranges start body) u used = absurd (let none : ⊥ = cc in none)

in_function : (c : CalledData) (u : ℕ) → is_among u (uses_of_all (function_body c)) ≡ true → is_among u (uses_of_called c) ≡ true
in_function (block body) u used = absurd (let none : ⊥ = cc in none)
in_function (function types ranges start body) u used = used

choose : (test : Bool) (x y u v : ℕ) → (test ≡ true → x ≡ u) → y ≡ v → (if test then x else y) ≡ (if test then u else v)
choose true x y u v here before = here refl
choose false x y u v here before = before

module _ (cs ds : List CalledData) (body : Statements) (same : (n : ℕ) → may_run cs body n ≡ true → get_or ds n nothing ≡ get_or cs n nothing) where
  -- the first so many of both, where they may run
  abbrev AreSame : ℕ → Type 0
  AreSame m = (n : ℕ) → may_run cs body n ≡ true → IsAlike (counting_of ds m) (counting_of cs m) n

  frame_same : (m n : ℕ) → may_run cs body n ≡ true → (counting_of ds m).frame n ≡ (counting_of cs m).frame n
  frame_same m n runs = frames_counted ds m n ∙ ap frame_of (same n runs) ∙ sym (frames_counted cs m n)

  -- the body of the next, by what it is in a POU
  body_same : (part : CalledData → Statements) (m n : ℕ) → AreSame m → ((c : CalledData) (u : ℕ) → is_among u (uses_of_all (part c)) ≡ true → is_among u (uses_of_called c) ≡ true) → n ≡ m → may_run cs body n ≡ true
      → count_of_all (counting_of ds m) (part (slice_index_or ds m nothing)) ≡ count_of_all (counting_of cs m) (part (slice_index_or cs m nothing))
  body_same part m n before within is runs =
      let here : may_run cs body m ≡ true = subst (λ (k : ℕ). may_run cs body k ≡ true) is runs in
      ap (λ (c : CalledData). count_of_all (counting_of ds m) (part c)) (same m here)
      ∙ alike_all (counting_of ds m) (counting_of cs m) (part (get_or cs m nothing)) (λ u used. before u (used_runs cs body m u here (within (get_or cs m nothing) u used)))

  are_same : (m : ℕ) → AreSame m
  are_same zero n runs = record { frame = frame_same zero n runs; runs = refl; bodies = refl }
  are_same (suc m) n runs =
      let before = are_same m in
      record {
        frame = frame_same (suc m) n runs;
        runs = choose (n == m) _ _ _ _ (λ is. body_same block_body m n before in_block (eqb-true n m is) runs) (before n runs).runs;
        bodies = choose (n == m) _ _ _ _ (λ is. body_same function_body m n before in_function (eqb-true n m is) runs) (before n runs).bodies;
      }

  pub counts_same : (m : ℕ) → count_of_all (counting_of ds m) body ≡ count_of_all (counting_of cs m) body
  counts_same m = alike_all (counting_of ds m) (counting_of cs m) body (λ u used. are_same m u (first_runs cs body u used))
