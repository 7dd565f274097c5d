-- Tables of the blocks that do nothing.
use mathlib.Core.Path.{fun_ext}
use Rattle.std.proofs.Common.{◌≡◌, ℕ, zero, suc, ◌+◌, ◌<◌, ◌≤◌, Bool, true, false, List, [], ◌∷◌, ◌++◌, length, slice_index_or, refl, ap, sym, ◌∙◌, arith, rules, tests}
use Rattle.std.specs.Prelude.{◌==◌, nat_lt, if◌then◌else◌}
use Rattle.std.proofs.lemmas.Bool.Decides.{nat_tests}
use Rattle.std.proofs.lemmas.List.{length-map}
use Rattle.program_tree.specs.declared.typed.Called.{Called}
use Rattle.program_tree.specs.Tree.{Statements, CalledData}
use Rattle.program_tree.specs.View.{called_view, all_called_view}
use Rattle.meaning.specs.Calls.{nothing}
use Rattle.flat_form.specs.Pous.{block_body}
use Rattle.flat_form.specs.Idle.{is_idle_all, idle_of, idle_in, AreIdle, AreIdleBelow}

pub by_test : {P : Type 0} (b : Bool) → (b ≡ true → P) → (b ≡ false → P) → P
by_test true p q = p refl
by_test false p q = q refl

idle-append : (idle : List Bool) (rests : Bool) (b : ℕ) → idle_in (idle ++ rests ∷ []) b ≡ (if b == length idle then rests else idle_in idle b)
idle-append [] rests zero = refl
idle-append [] rests (suc b) = let other : (suc b == 0) ≡ false = search (rules, tests) in rw other refl
idle-append (i ∷ is) rests zero = let other : (0 == suc (length is)) ≡ false = search (rules, tests) in rw other refl
idle-append (i ∷ is) rests (suc b) = let e : (suc b == suc (length is)) ≡ (b == length is) = search (rules, tests) in rw e (idle-append is rests b)

either-one : (test n m a b : Bool) → n ≡ m → a ≡ b → (if test then n else a) ≡ (if test then m else b)
either-one true n m a b p q = p
either-one false n m a b p q = q

-- the table so far, of the first so many POUs
abbrev pub AreFirst : List Bool → List CalledData → ℕ → Type 0
AreFirst idle ps i = (b : ℕ) → idle_in idle b ≡ idle_of ps i b

-- one more
pub idle-more : (idle known more : List Bool) (ps : List CalledData) (i : ℕ) (rests : Bool) (body : Statements) → length idle ≡ i → more ≡ idle ++ rests ∷ [] → known ≡ idle → AreFirst idle ps i
    → rests ≡ is_idle_all (idle_in known) body → body ≡ block_body (slice_index_or ps i nothing) → AreFirst more ps (i + 1)
idle-more idle known more ps i rests body long is same first e is_body b =
    let one : i + 1 ≡ suc i = omega arith in
    let now : rests ≡ is_idle_all (idle_of ps i) (block_body (slice_index_or ps i nothing))
    = e ∙ ap (λ (l : List Bool). is_idle_all (idle_in l) body) same ∙ ap (λ (f : ℕ → Bool). is_idle_all f body) (fun_ext first) ∙ ap (λ (ss : Statements). is_idle_all (idle_of ps i) ss) is_body in
    rw (one, is, idle-append idle rests b, long) (either-one (b == i) rests _ _ _ now (first b))

pub idle-all : (idle : List Bool) (called : List Called) (i : ℕ) → i ≡ length called → length idle ≡ i → AreFirst idle (all_called_view called) i → AreIdle idle (all_called_view called)
idle-all idle called i all long first =
    let m : length (all_called_view called) ≡ i = length-map called called_view ∙ sym all in
    rw m (long, first)

-- ---- the first of them

below : (ps : List CalledData) (m n b : ℕ) → m ≤ n → b < m → idle_of ps n b ≡ idle_of ps m b
below ps m zero b h low = absurd (omega arith)
below ps m (suc n) b h low =
    by_test (nat_lt n m)
    (λ e. let same : suc n ≡ m = grind (arith, nat_tests) in ap (λ (k : ℕ). idle_of ps k b) same)
    (λ e.
    let less : m ≤ n = grind (arith, nat_tests) in
    let other : (b == n) ≡ false = grind (arith, nat_tests) in
    rw other (below ps m n b less low))

-- whether a block does nothing does not depend on the POUs behind it
pub idle-first : (idle : List Bool) (ps : List CalledData) (m n : ℕ) → m ≤ n → AreIdleBelow idle ps n → AreIdleBelow idle ps m
idle-first idle ps m n h known b low = known b (omega arith) ∙ below ps m n b h low

pub idle-whole : (idle : List Bool) (ps : List CalledData) (n : ℕ) → length ps ≡ n → AreIdle idle ps → AreIdleBelow idle ps n
idle-whole idle ps n many are b low = are.1 b ∙ ap (λ (k : ℕ). idle_of ps k b) many

-- a block that the table tells idle
pub told-idle : (idle : List Bool) (ps : List CalledData) (n b : ℕ) → AreIdleBelow idle ps n → b < n → idle_in idle b ≡ true → idle_of ps n b ≡ true
told-idle idle ps n b known low told = sym (known b low) ∙ told
