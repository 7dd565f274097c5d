-- What the POUs do, weigh and need that may be called.
use Rattle.std.proofs.Common.{◌≡◌, ℕ, zero, suc, ◌+◌, ◌-◌, ◌*◌, ◌<◌, ◌≤◌, List, [], ◌∷◌, length, get_or, slice_index_or, refl, sym, ap, ◌∙◌, arith, rules, tests, Bool, false, ℤ, ◌+ℤ◌, pos}
use Rattle.std.specs.Prelude.{◌==◌, ◌||◌, slice_set, if◌then◌else◌}
use Rattle.std.proofs.lemmas.Bool.Decides.{nat_tests}
use Rattle.program_tree.specs.plc_types.declared.range.Range.{Range}
use Rattle.program_tree.specs.declared.typed.CellType.{CellType}
use Rattle.program_tree.specs.declared.typed.Called.{Called}
use Rattle.program_tree.specs.plc_types.Types.{in_range}
use Rattle.program_tree.specs.Tree.{Statements, CalledData, block, function}
use Rattle.program_tree.specs.View.{called_view, all_called_view}
use Rattle.meaning.specs.Values.{State}
use Rattle.meaning.specs.Effects.{Effect, range_at, state_of, behind_turn, effect_of_turns, effect_of_all}
use Rattle.meaning.specs.Calls.{given, run_of, ends_of, nothing, callees_of}
use Rattle.meaning.specs.Room.{room_of, room_for}
use Rattle.meaning.proofs.Cases.{by_test}
use Rattle.meaning.proofs.Sizes.{called_nodes, weight}

-- the data of a POU, by its number
pub at-number : (ps : List Called) (i : ℕ) (p : Called) (known : CalledData) → i < length ps → called_view (get_or ps i p) ≡ known → slice_index_or (all_called_view ps) i nothing ≡ known
at-number [] i p known h is = absurd (omega (arith, h))
at-number (x ∷ ps) zero p known h is = is
at-number (x ∷ ps) (suc i) p known h is = at-number ps i p known (omega (arith, h)) is

-- a POU that may be called does what its data say
runs-known : (ps : List CalledData) (i n : ℕ) (rs : List Range) (base : ℕ) (s : State) → i < n → (callees_of ps n).runs i rs base s ≡ run_of (callees_of ps i) (slice_index_or ps i nothing) rs base s
runs-known ps i zero rs base s h = absurd (omega (arith, h))
runs-known ps i (suc n) rs base s h =
    by_test (i == n)
    (λ e. let same : n ≡ i = search (rules, tests) in rw e (ap (λ m. run_of (callees_of ps m) (slice_index_or ps m nothing) rs base s) same))
    (λ e. let less : i < n = grind (arith, nat_tests) in rw e (runs-known ps i n rs base s less))

ends-known : (ps : List CalledData) (i n : ℕ) (vs : List ℤ) → i < n → (callees_of ps n).ends i vs ≡ ends_of (callees_of ps i) (slice_index_or ps i nothing) vs
ends-known ps i zero vs h = absurd (omega (arith, h))
ends-known ps i (suc n) vs h =
    by_test (i == n)
    (λ e. let same : n ≡ i = search (rules, tests) in rw e (ap (λ m. ends_of (callees_of ps m) (slice_index_or ps m nothing) vs) same))
    (λ e. let less : i < n = grind (arith, nat_tests) in rw e (ends-known ps i n vs less))

-- another does nothing
pub runs-unknown : (ps : List CalledData) (i n : ℕ) (rs : List Range) (base : ℕ) (s : State) → n ≤ i → (callees_of ps n).runs i rs base s ≡ s
runs-unknown ps i zero rs base s h = refl
runs-unknown ps i (suc n) rs base s h =
    let other : (i == n) ≡ false = search (rules, tests) in rw other (runs-unknown ps i n rs base s (omega arith))

pub ends-unknown : (ps : List CalledData) (i n : ℕ) (vs : List ℤ) → n ≤ i → (callees_of ps n).ends i vs ≡ []
ends-unknown ps i zero vs h = refl
ends-unknown ps i (suc n) vs h =
    let other : (i == n) ≡ false = search (rules, tests) in rw other (ends-unknown ps i n vs (omega arith))

weight-rises : (ps : List CalledData) (i k : ℕ) → weight ps i ≤ weight ps (i + k)
weight-rises ps i zero = let e : i + 0 ≡ i = omega arith in rw e (omega arith)
weight-rises ps i (suc k) = let e : i + suc k ≡ suc (i + k) = omega arith in let h = weight-rises ps i k in rw e (omega arith)

room-rises : (ps : List CalledData) (i k : ℕ) → room_for ps i ≤ room_for ps (i + k)
room-rises ps i zero = let e : i + 0 ≡ i = omega arith in rw e (omega arith)
room-rises ps i (suc k) = let e : i + suc k ≡ suc (i + k) = omega arith in let h = room-rises ps i k in rw e (omega arith)

-- a POU that is called weighs less than all that may be called
pub weight-call : (ps : List CalledData) (i n : ℕ) → i < n → weight ps i + 2 * called_nodes (slice_index_or ps i nothing) < weight ps n
weight-call ps i n h =
    let e : suc i + (n - suc i) ≡ n = omega arith in
    let r = rw e at (weight-rises ps (suc i) (n - suc i)) in
    let here : weight ps (suc i) ≡ weight ps i + 2 * called_nodes (slice_index_or ps i nothing) + 1 = refl in
    omega arith

-- and leaves room for those that it may call
pub room-call : (ps : List CalledData) (i n : ℕ) → i < n → room_for ps i + room_of (slice_index_or ps i nothing) ≤ room_for ps n
room-call ps i n h =
    let e : suc i + (n - suc i) ≡ n = omega arith in
    let r = rw e at (room-rises ps (suc i) (n - suc i)) in
    let here : room_for ps (suc i) ≡ room_for ps i + room_of (slice_index_or ps i nothing) = refl in
    omega arith

-- ---- the steps of a call

pub function-ran : (ps : List CalledData) (f n : ℕ) (types : List CellType) (rs given_rs : List Range) (body ran_body : Statements) (start given_start front own : State) (vs : List ℤ) → f < n
    → slice_index_or ps f nothing ≡ function types rs start body → given_rs ≡ rs → given_start ≡ start → ran_body ≡ body
    → front ≡ given given_rs 2 vs given_start → own ≡ state_of (effect_of_all (callees_of ps f) given_rs 0 ran_body front) → own ≡ (callees_of ps n).ends f vs
function-ran ps f n types rs given_rs body ran_body start given_start front own vs h is r st b e ran =
    let k : (callees_of ps n).ends f vs ≡ state_of (effect_of_all (callees_of ps f) rs 0 body (given rs 2 vs start)) = ends-known ps f n vs h ∙ ap (λ q. ends_of (callees_of ps f) q vs) is in
    rw (ran, e, r, st, b) (sym k)

pub block-answers : (ps : List CalledData) (f n : ℕ) (body : Statements) (vs : List ℤ) → f < n → slice_index_or ps f nothing ≡ block body → (callees_of ps n).ends f vs ≡ []
block-answers ps f n body vs h is = ends-known ps f n vs h ∙ ap (λ q. ends_of (callees_of ps f) q vs) is

pub block-ran : (ps : List CalledData) (b n : ℕ) (rs : List Range) (base : ℕ) (body ran_body : Statements) (s after : State) → b < n → slice_index_or ps b nothing ≡ block body
    → ran_body ≡ body → after ≡ state_of (effect_of_all (callees_of ps b) rs base ran_body s) → after ≡ (callees_of ps n).runs b rs base s
block-ran ps b n rs base body ran_body s after h is e ran =
    let k : (callees_of ps n).runs b rs base s ≡ state_of (effect_of_all (callees_of ps b) rs base body s) = runs-known ps b n rs base s h ∙ ap (λ q. run_of (callees_of ps b) q rs base s) is in
    rw (ran, e) (sym k)

pub function-runs : (ps : List CalledData) (b n : ℕ) (types : List CellType) (rs own : List Range) (base : ℕ) (start : State) (body : Statements) (s : State) → b < n → slice_index_or ps b nothing ≡ function types own start body
    → s ≡ (callees_of ps n).runs b rs base s
function-runs ps b n types rs own base start body s h is = sym (runs-known ps b n rs base s h ∙ ap (λ q. run_of (callees_of ps b) q rs base s) is)

-- ---- the turns of a FOR: one turn less is left, and the whole is the same

pub effect_of_turns-turn : (rs : List Range) (count counter control : ℕ) (v more step : ℤ) (body : State → Effect) (s set : State) (ran : Effect) (r : Range) → counter < count
    → r ≡ range_at rs control → more ≡ v +ℤ step → set ≡ (if in_range v r then slice_set s control v else slice_set s 0 (pos 1)) → ran ≡ body set
    → behind_turn ran (effect_of_turns rs (count - (counter + 1)) control more step body) ≡ effect_of_turns rs (count - counter) control v step body s
effect_of_turns-turn rs count counter control v more step body s set ran r below is_range is_more is_set is_ran =
    let left : count - counter ≡ suc (count - (counter + 1)) = omega arith in
    rw (left, is_more, is_ran, is_set, is_range) refl

-- ---- a fault of an input or of the run

pub either-same : (a b c d : Bool) → a ≡ b → c ≡ d → (a || c) ≡ (b || d)
either-same a b c d e f = cc
