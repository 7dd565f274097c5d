-- What the bodies of POUs become, and weigh.
use Rattle.std.proofs.Common.{◌≡◌, ℕ, zero, suc, ◌*◌, ◌<◌, Bool, true, List, ◌++◌, length, slice_index_or, sym, ap, subst, ◌∙◌, arith, rules, tests}
use Rattle.std.specs.Prelude.{◌==◌}
use Rattle.std.proofs.lemmas.List.{append-nil, length-map}
use Rattle.std.proofs.lemmas.Bool.Decides.{nat_tests}
use Rattle.program_tree.specs.declared.typed.Called.{Called}
use Rattle.program_tree.specs.Tree.{Statements, no_statements, CalledData}
use Rattle.program_tree.specs.View.{called_view, all_called_view}
use Rattle.program_tree.specs.declared.scratch.Scratch.{Scratch}
use Rattle.meaning.specs.Calls.{nothing}
use Rattle.meaning.proofs.Sizes.{weight}
use Rattle.meaning.specs.Frames.{FrameData, frame_of, function_body}
use Rattle.flat_core.specs.FlatTree.{FlatStatement}
use Rattle.flat_charts.specs.declared.scope.FlatScope.{FlatScope}
use Rattle.flat_form.specs.Owners.{OwnerData, call_owner}
use Rattle.flat_form.specs.Unless.{without_flags}
use Rattle.flat_form.specs.FlatLists.{scratch_of_all, flat_of_all}
use Rattle.flat_form.specs.Pous.{block_body, bodies_of}
use Rattle.flat_form.specs.Idle.{idle_in, AreIdle, AreIdleBelow}
use Rattle.flat_form.proofs.FrameLemmas.{frames-here}
use Rattle.flat_form.proofs.IdleLemmas.{idle-list, idle-scratch}
use Rattle.flat_form.proofs.IdleTables.{by_test, told-idle, idle-whole}

abbrev pub weight_here : FlatScope → ℕ
weight_here scope = 2 * weight (all_called_view scope.called.now) scope.below

module _ (ps : List CalledData) where
  list-known : (owner : OwnerData) (i n base k : ℕ) → i < n → (bodies_of ps n).run_list owner i base k ≡ flat_of_all (bodies_of ps i) owner base without_flags (block_body (slice_index_or ps i nothing)) k
  list-known owner i zero base k h = absurd (omega (arith, h))
  list-known owner i (suc n) base k h =
      by_test (i == n)
      (λ e. let same : n ≡ i = search (rules, tests) in rw e (ap (λ m. flat_of_all (bodies_of ps m) owner base without_flags (block_body (slice_index_or ps m nothing)) k) same))
      (λ e. let less : i < n = grind (arith, nat_tests) in rw e (list-known owner i n base k less))

  scratch-known : (i n : ℕ) → i < n → (bodies_of ps n).run_scratch i ≡ scratch_of_all (bodies_of ps i) (block_body (slice_index_or ps i nothing))
  scratch-known i zero h = absurd (omega (arith, h))
  scratch-known i (suc n) h =
      by_test (i == n)
      (λ e. let same : n ≡ i = search (rules, tests) in rw e (ap (λ m. scratch_of_all (bodies_of ps m) (block_body (slice_index_or ps m nothing))) same))
      (λ e. let less : i < n = grind (arith, nat_tests) in rw e (scratch-known i n less))

  -- a block is made flat by its body
  list-run : (owner : OwnerData) (i n base k : ℕ) (p : CalledData) (body : Statements) → i < n → slice_index_or ps i nothing ≡ p → body ≡ block_body p
      → (bodies_of ps n).run_list owner i base k ≡ flat_of_all (bodies_of ps i) owner base without_flags body k
  list-run owner i n base k p body h is same = list-known owner i n base k h ∙ ap (λ q. flat_of_all (bodies_of ps i) owner base without_flags (block_body q) k) is ∙ ap (λ b. flat_of_all (bodies_of ps i) owner base without_flags b k) (sym same)

  scratch-run : (i n : ℕ) (p : CalledData) (body : Statements) → i < n → slice_index_or ps i nothing ≡ p → body ≡ block_body p
      → (bodies_of ps n).run_scratch i ≡ scratch_of_all (bodies_of ps i) body
  scratch-run i n p body h is same = scratch-known i n h ∙ ap (λ q. scratch_of_all (bodies_of ps i) (block_body q)) is ∙ ap (λ b. scratch_of_all (bodies_of ps i) b) (sym same)

  -- ---- the lists behind a run

  pub list-ran : (owner : OwnerData) (i n base at k : ℕ) (p : CalledData) (body : Statements) (out after : List FlatStatement) → i < n → slice_index_or ps i nothing ≡ p → body ≡ block_body p → at ≡ base
      → after ≡ out ++ flat_of_all (bodies_of ps i) owner at without_flags body k → after ≡ out ++ (bodies_of ps n).run_list owner i base k
  list-ran owner i n base at k p body out after h is same is_at ran =
      ran ∙ ap (λ b. out ++ flat_of_all (bodies_of ps i) owner b without_flags body k) is_at ∙ ap (λ l. out ++ l) (sym (list-run owner i n base k p body h is same))

  pub scratch-ran : (i n : ℕ) (p : CalledData) (body : Statements) (out after : List Scratch) → i < n → slice_index_or ps i nothing ≡ p → body ≡ block_body p
      → after ≡ out ++ scratch_of_all (bodies_of ps i) body → after ≡ out ++ (bodies_of ps n).run_scratch i
  scratch-ran i n p body out after h is same ran =
      ran ∙ ap (λ l. out ++ l) (sym (scratch-run i n p body h is same))

  -- what is no block adds nothing
  pub list-none : (owner : OwnerData) (i n base k : ℕ) (p : CalledData) (out : List FlatStatement) → i < n → slice_index_or ps i nothing ≡ p → block_body p ≡ no_statements → out ≡ out ++ (bodies_of ps n).run_list owner i base k
  list-none owner i n base k p out h is empty = sym (ap (λ l. out ++ l) (list-run owner i n base k p no_statements h is (sym empty)) ∙ append-nil out)

  pub scratch-none : (i n : ℕ) (p : CalledData) (out : List Scratch) → i < n → slice_index_or ps i nothing ≡ p → block_body p ≡ no_statements → out ≡ out ++ (bodies_of ps n).run_scratch i
  scratch-none i n p out h is empty = sym (ap (λ l. out ++ l) (scratch-run i n p no_statements h is (sym empty)) ∙ append-nil out)

  -- a block that does nothing adds nothing
  pub list-idle : (owner : OwnerData) (idle : List Bool) (i n base k : ℕ) (out : List FlatStatement) → AreIdleBelow idle ps n → i < n → idle_in idle i ≡ true → out ≡ out ++ (bodies_of ps n).run_list owner i base k
  list-idle owner idle i n base k out known h told = sym (ap (λ l. out ++ l) (idle-list ps n owner i base k (told-idle idle ps n i known h told)) ∙ append-nil out)

  pub scratch-idle : (idle : List Bool) (i n : ℕ) (out : List Scratch) → AreIdleBelow idle ps n → i < n → idle_in idle i ≡ true → out ≡ out ++ (bodies_of ps n).run_scratch i
  scratch-idle idle i n out known h told = sym (ap (λ l. out ++ l) (idle-scratch ps n i (told-idle idle ps n i known h told)) ∙ append-nil out)

  -- ---- a FUNCTION is called by its body

  pub call-list : (f n answer : ℕ) (places : List ℕ) (k : ℕ) → f < n
      → (bodies_of ps n).call_list f answer places k ≡ flat_of_all (bodies_of ps f) (call_owner answer places) 0 without_flags (function_body (slice_index_or ps f nothing)) k
  call-list f zero answer places k h = absurd (omega (arith, h))
  call-list f (suc n) answer places k h =
      by_test (f == n)
      (λ e. let same : n ≡ f = search (rules, tests) in rw e (ap (λ m. flat_of_all (bodies_of ps m) (call_owner answer places) 0 without_flags (function_body (slice_index_or ps m nothing)) k) same))
      (λ e. let less : f < n = grind (arith, nat_tests) in rw e (call-list f n answer places k less))

  pub call-scratch : (f n : ℕ) → f < n → (bodies_of ps n).call_scratch f ≡ scratch_of_all (bodies_of ps f) (function_body (slice_index_or ps f nothing))
  call-scratch f zero h = absurd (omega (arith, h))
  call-scratch f (suc n) h =
      by_test (f == n)
      (λ e. let same : n ≡ f = search (rules, tests) in rw e (ap (λ m. scratch_of_all (bodies_of ps m) (function_body (slice_index_or ps m nothing))) same))
      (λ e. let less : f < n = grind (arith, nat_tests) in rw e (call-scratch f n less))

  pub call-ran : (f n answer : ℕ) (places there_places : List ℕ) (k : ℕ) (p : CalledData) (body : Statements) (out after : List FlatStatement) → f < n → slice_index_or ps f nothing ≡ p
      → there_places ≡ places → body ≡ function_body p → after ≡ out ++ flat_of_all (bodies_of ps f) (call_owner answer there_places) 0 without_flags body k
      → after ≡ out ++ (bodies_of ps n).call_list f answer places k
  call-ran f n answer places there_places k p body out after h is is_places is_body ran =
      ran ∙ ap (λ l. out ++ flat_of_all (bodies_of ps f) (call_owner answer l) 0 without_flags body k) is_places
      ∙ ap (λ b. out ++ flat_of_all (bodies_of ps f) (call_owner answer places) 0 without_flags b k) is_body
      ∙ ap (λ l. out ++ l) (sym (call-list f n answer places k h ∙ ap (λ q. flat_of_all (bodies_of ps f) (call_owner answer places) 0 without_flags (function_body q) k) is))

  pub call-ran-scratch : (f n : ℕ) (p : CalledData) (body : Statements) (out after : List Scratch) → f < n → slice_index_or ps f nothing ≡ p
      → body ≡ function_body p → after ≡ out ++ scratch_of_all (bodies_of ps f) body
      → after ≡ out ++ (bodies_of ps n).call_scratch f
  call-ran-scratch f n p body out after h is is_body ran =
      ran ∙ ap (λ b. out ++ scratch_of_all (bodies_of ps f) b) is_body
      ∙ ap (λ l. out ++ l) (sym (call-scratch f n h ∙ ap (λ q. scratch_of_all (bodies_of ps f) (function_body q)) is))

  -- the frame of a FUNCTION
  pub frame-known : (f n : ℕ) (p : CalledData) → slice_index_or ps f nothing ≡ p → (bodies_of ps n).frame f ≡ frame_of p
  frame-known f n p is = ap (λ (g : ℕ → FrameData). g f) (frames-here ps n) ∙ ap frame_of is

-- the table of the POUs that do nothing, by what is read of it
pub idle-here : (idle told : List Bool) (called others whole : List Called) (n : ℕ) → told ≡ idle → others ≡ whole → called ≡ whole → n ≡ length whole → AreIdle idle (all_called_view others) → AreIdleBelow told (all_called_view called) n
idle-here idle told called others whole n is_told is_others is_called is_all are =
    let same = subst (λ (l : List Bool). AreIdle l (all_called_view whole)) (sym is_told) (subst (λ (qs : List Called). AreIdle idle (all_called_view qs)) is_others are) in
    let there = subst (λ (qs : List Called). AreIdle told (all_called_view qs)) (sym is_called) same in
    let many : length (all_called_view called) ≡ n = length-map called called_view ∙ ap length is_called ∙ sym is_all in
    idle-whole told (all_called_view called) n many there
