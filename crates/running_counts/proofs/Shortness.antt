-- A program is short by the count of its statements.
use Rattle.std.proofs.Common.{◌≡◌, ◌≤◌, ℕ, zero, suc, List, [], ◌∷◌, length, Bool, true, false, if◌then◌else◌, refl, sym, ap, arith}
use Rattle.std.specs.Prelude.{◌==◌, nat_lt}
use Rattle.std.proofs.lemmas.Bool.{eqb-true}
use Rattle.std.proofs.lemmas.Bool.Decides.{nat_tests}
use Rattle.program_tree.specs.Tree.{CalledData, ProgramData}
use Rattle.meaning.specs.Frames.{frames_of}
use Rattle.flat_form.specs.FlatPrograms.{is_short}
use Rattle.flat_count.specs.Counts.{count_of_all, counting_of, counting, counted, capped, AreCounts}
use Rattle.flat_count.proofs.CountLemmas.{same_all, is_short-count}

pub frames_counted : (ps : List CalledData) (n f : ℕ) → (counting_of ps n).frame f ≡ frames_of ps f
frames_counted ps zero f = refl
frames_counted ps (suc n) f = refl

-- the first so many numbers of a sequence
abbrev listed : (ℕ → ℕ) → ℕ → List ℕ
listed g zero = []
listed g (suc m) = g 0 ∷ listed (λ k. g (suc k)) m

listed_at : (g : ℕ → ℕ) (m n : ℕ) → ((k : ℕ) → m ≤ k → g k ≡ 0) → counted (listed g m) n ≡ g n
listed_at g zero n past = sym (past n (omega arith))
listed_at g (suc m) zero past = refl
listed_at g (suc m) (suc n) past = listed_at (λ k. g (suc k)) m n (λ k low. past (suc k) (omega (arith, low)))

-- nothing is counted of what is no POU
not_there : (k n x y : ℕ) → suc n ≤ k → y ≡ 0 → (b : Bool) → (k == n) ≡ b → (if b then x else y) ≡ 0
not_there k n x y low none true h = let same : k ≡ n = eqb-true k n h in absurd (omega (arith, same, low))
not_there k n x y low none false h = none

runs_past : (ps : List CalledData) (n k : ℕ) → n ≤ k → (counting_of ps n).runs k ≡ 0
runs_past ps zero k low = refl
runs_past ps (suc n) k low = not_there k n _ _ low (runs_past ps n k (omega (arith, low))) (k == n) refl

bodies_past : (ps : List CalledData) (n k : ℕ) → n ≤ k → (counting_of ps n).bodies k ≡ 0
bodies_past ps zero k low = refl
bodies_past ps (suc n) k low = not_there k n _ _ low (bodies_past ps n k (omega (arith, low))) (k == n) refl

pub short_by : (p : ProgramData) → nat_lt (capped (count_of_all (counting_of p.called (length p.called)) p.body)) 200000 ≡ is_short p
short_by p =
    let m = length p.called in
    let all = counting_of p.called m in
    let runs = listed all.runs m in
    let bodies = listed all.bodies m in
    let are : AreCounts runs bodies p.called = λ n. (ap capped (listed_at all.runs m n (runs_past p.called m)), ap capped (listed_at all.bodies m n (bodies_past p.called m))) in
    let same = same_all (counting p.called runs bodies) all (λ n. sym (frames_counted p.called m n)) (λ n. (are n).0) (λ n. (are n).1) p.body in
    is_short-count p p.body runs bodies p.called (capped (count_of_all all p.body)) (sym same) are refl refl

-- what counts no less than what is too long is too long
pub longer : (m n : ℕ) → capped m ≤ n → nat_lt (capped m) 200000 ≡ false → nat_lt (capped n) 200000 ≡ false
longer m n low long = grind (arith, nat_tests)
