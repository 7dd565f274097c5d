-- What an idle block becomes: no scratch cells and no statements; and its run changes nothing.
use Rattle.std.proofs.Common.{◌≡◌, ℕ, zero, suc, ◌+◌, Bool, true, false, List, [], ◌++◌, length, refl, ap, ◌∙◌}
use Rattle.std.proofs.lemmas.Bool.{and_parts}
use Rattle.std.specs.Prelude.{◌==◌, slice_index_or, if◌then◌else◌}
use Rattle.plc_types.specs.declared.range.Range.{Range}
use Rattle.program_tree.specs.Tree.{Statement, assign, call_block, choice, cases, repeat, chart, exit, return, own_body, Statements, no_statements, statement, CalledData, block, function}
use Rattle.program_tree.specs.declared.scratch.Scratch.{Scratch}
use Rattle.meaning.specs.Values.{State, Callees}
use Rattle.meaning.specs.Effects.{Effect, on, state_of, followed_by, effect_of, effect_of_all}
use Rattle.meaning.specs.Calls.{nothing, run_of as effect_of_run, callees_of}
use Rattle.flat_core.specs.FlatTree.{FlatStatement}
use Rattle.program_tree.specs.Leaving.{can_exit, can_return}
use Rattle.flat_form.specs.Owners.{OwnerData}
use Rattle.flat_form.specs.Bodies.{Bodies}
use Rattle.flat_form.specs.Unless.{Flags, without_flags, unless_left}
use Rattle.flat_form.specs.FlatLists.{scratch_of, scratch_of_all, flat_of, flat_of_all}
use Rattle.flat_form.specs.Pous.{block_body, bodies_of}
use Rattle.flat_form.specs.Idle.{is_idle, is_idle_all, idle_of}

unless_left-none : (exits returns : Bool) (flags : Flags) → unless_left exits returns flags [] ≡ []
unless_left-none true returns flags = refl
unless_left-none false true flags = refl
unless_left-none false false flags = refl

-- ---- statements, where each block that is told idle becomes and does nothing

module _ (idle : ℕ → Bool) where
  module _ (bodies : Bodies) (each : (b : ℕ) → idle b ≡ true → bodies.run_scratch b ≡ []) where
    one-scratch : (t : Statement) → is_idle idle t ≡ true → scratch_of bodies t ≡ []
    one-scratch (assign target e) h = cc
    one-scratch (call_block b offset) h = each b h
    one-scratch (choice arms other) h = cc
    one-scratch (cases kind e es other) h = cc
    one-scratch (repeat turns body) h = cc
    one-scratch (chart _ _ _) h = cc
    one-scratch exit h = cc
    one-scratch return h = cc
    one-scratch (own_body ss) h = cc

    all-scratch : (ts : Statements) → is_idle_all idle ts ≡ true → scratch_of_all bodies ts ≡ []
    all-scratch no_statements h = refl
    all-scratch (statement t ts) h =
        let each_holds = and_parts (is_idle idle t) (is_idle_all idle ts) h in
        ap (λ (l : List Scratch). l ++ scratch_of_all bodies ts) (one-scratch t each_holds.0) ∙ all-scratch ts each_holds.1

  module _ (bodies : Bodies) (owner : OwnerData) (each : (b base k : ℕ) → idle b ≡ true → bodies.run_list owner b base k ≡ []) where
    one-list : (base : ℕ) (flags : Flags) (t : Statement) (k : ℕ) → is_idle idle t ≡ true → flat_of bodies owner base flags t k ≡ []
    one-list base flags (assign target e) k h = cc
    one-list base flags (call_block b offset) k h = each b (base + offset) k h
    one-list base flags (choice arms other) k h = cc
    one-list base flags (cases kind e es other) k h = cc
    one-list base flags (repeat turns body) k h = cc
    one-list base flags (chart _ _ _) k h = cc
    one-list base flags exit k h = cc
    one-list base flags return k h = cc
    one-list base flags (own_body ss) k h = cc

    all-list : (base : ℕ) (flags : Flags) (ts : Statements) (k : ℕ) → is_idle_all idle ts ≡ true → flat_of_all bodies owner base flags ts k ≡ []
    all-list base flags no_statements k h = refl
    all-list base flags (statement t ts) k h =
        let each_holds = and_parts (is_idle idle t) (is_idle_all idle ts) h in
        let rest = all-list base flags ts (k + length (scratch_of bodies t)) each_holds.1 in
        ap (λ (l : List FlatStatement). l ++ unless_left (can_exit t) (can_return t) flags (flat_of_all bodies owner base flags ts (k + length (scratch_of bodies t)))) (one-list base flags t k each_holds.0)
        ∙ ap (λ (l : List FlatStatement). unless_left (can_exit t) (can_return t) flags l) rest ∙ unless_left-none (can_exit t) (can_return t) flags

  module _ (callees : Callees) (rs : List Range) (each : (b base : ℕ) (s : State) → idle b ≡ true → callees.runs b rs base s ≡ s) where
    one-effect : (base : ℕ) (t : Statement) (s : State) → is_idle idle t ≡ true → effect_of callees rs base t s ≡ on s
    one-effect base (assign target e) s h = cc
    one-effect base (call_block b offset) s h = ap on (each b (base + offset) s h)
    one-effect base (choice arms other) s h = cc
    one-effect base (cases kind e es other) s h = cc
    one-effect base (repeat turns body) s h = cc
    one-effect base (chart _ _ _) s h = cc
    one-effect base exit s h = cc
    one-effect base return s h = cc
    one-effect base (own_body ss) s h = cc

    all-effect : (base : ℕ) (ts : Statements) (s : State) → is_idle_all idle ts ≡ true → effect_of_all callees rs base ts s ≡ on s
    all-effect base no_statements s h = refl
    all-effect base (statement t ts) s h =
        let each_holds = and_parts (is_idle idle t) (is_idle_all idle ts) h in
        ap (λ (e : Effect). followed_by e (effect_of_all callees rs base ts)) (one-effect base t s each_holds.0) ∙ all-effect base ts s each_holds.1

    run-effect : (q : CalledData) (base : ℕ) (s : State) → is_idle_all idle (block_body q) ≡ true → effect_of_run callees q rs base s ≡ s
    run-effect (block body) base s h = ap state_of (all-effect base body s h)
    run-effect (function types ranges start body) base s h = refl

-- ---- POUs, each of which runs those before it

module _ (ps : List CalledData) where
  abbrev IdleBody : ℕ → ℕ → Bool → Type 0
  IdleBody n b test = (if test then is_idle_all (idle_of ps n) (block_body (slice_index_or ps n nothing)) else idle_of ps n b) ≡ true

  next-scratch : (n : ℕ) (each : (b : ℕ) → idle_of ps n b ≡ true → (bodies_of ps n).run_scratch b ≡ []) (b : ℕ) (test : Bool) → IdleBody n b test
      → (if test then scratch_of_all (bodies_of ps n) (block_body (slice_index_or ps n nothing)) else (bodies_of ps n).run_scratch b) ≡ []
  next-scratch n each b true h = all-scratch (idle_of ps n) (bodies_of ps n) each (block_body (slice_index_or ps n nothing)) h
  next-scratch n each b false h = each b h

  pub idle-scratch : (n b : ℕ) → idle_of ps n b ≡ true → (bodies_of ps n).run_scratch b ≡ []
  idle-scratch zero b h = refl
  idle-scratch (suc n) b h = next-scratch n (idle-scratch n) b (b == n) h

  next-list : (n : ℕ) (owner : OwnerData) (each : (b base k : ℕ) → idle_of ps n b ≡ true → (bodies_of ps n).run_list owner b base k ≡ []) (b base k : ℕ) (test : Bool) → IdleBody n b test
      → (if test then flat_of_all (bodies_of ps n) owner base without_flags (block_body (slice_index_or ps n nothing)) k else (bodies_of ps n).run_list owner b base k) ≡ []
  next-list n owner each b base k true h = all-list (idle_of ps n) (bodies_of ps n) owner each base without_flags (block_body (slice_index_or ps n nothing)) k h
  next-list n owner each b base k false h = each b base k h

  pub idle-list : (n : ℕ) (owner : OwnerData) (b base k : ℕ) → idle_of ps n b ≡ true → (bodies_of ps n).run_list owner b base k ≡ []
  idle-list zero owner b base k h = refl
  idle-list (suc n) owner b base k h = next-list n owner (idle-list n owner) b base k (b == n) h

  next-effect : (n : ℕ) (rs : List Range) (each : (b base : ℕ) (s : State) → idle_of ps n b ≡ true → (callees_of ps n).runs b rs base s ≡ s) (b base : ℕ) (s : State) (test : Bool) → IdleBody n b test
      → (if test then effect_of_run (callees_of ps n) (slice_index_or ps n nothing) rs base s else (callees_of ps n).runs b rs base s) ≡ s
  next-effect n rs each b base s true h = run-effect (idle_of ps n) (callees_of ps n) rs each (slice_index_or ps n nothing) base s h
  next-effect n rs each b base s false h = each b base s h

  pub idle-effect : (n : ℕ) (rs : List Range) (b base : ℕ) (s : State) → idle_of ps n b ≡ true → (callees_of ps n).runs b rs base s ≡ s
  idle-effect zero rs b base s h = refl
  idle-effect (suc n) rs b base s h = next-effect n rs (idle-effect n rs) b base s (b == n) h

  -- ---- statements that do nothing, over the first so many POUs

  pub idle_body-scratch : (n : ℕ) (ts : Statements) → is_idle_all (idle_of ps n) ts ≡ true → scratch_of_all (bodies_of ps n) ts ≡ []
  idle_body-scratch n ts h = all-scratch (idle_of ps n) (bodies_of ps n) (idle-scratch n) ts h

  pub idle_body-list : (n : ℕ) (owner : OwnerData) (base : ℕ) (flags : Flags) (ts : Statements) (k : ℕ) → is_idle_all (idle_of ps n) ts ≡ true → flat_of_all (bodies_of ps n) owner base flags ts k ≡ []
  idle_body-list n owner base flags ts k h = all-list (idle_of ps n) (bodies_of ps n) owner (idle-list n owner) base flags ts k h

  pub idle_body-effect : (n : ℕ) (rs : List Range) (q : CalledData) (base : ℕ) (s : State) → is_idle_all (idle_of ps n) (block_body q) ≡ true → effect_of_run (callees_of ps n) q rs base s ≡ s
  idle_body-effect n rs q base s h = run-effect (idle_of ps n) (callees_of ps n) rs (idle-effect n rs) q base s h
