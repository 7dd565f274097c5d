-- The first rows of a list that is allowed are such a list.
use Rattle.std.proofs.Common.{◌≡◌, ℕ, zero, suc, ◌≤◌, List, [], ◌∷◌, length, refl, ap, arith}
use Rattle.program_tree.specs.Tree.{ProgramData}
use Rattle.scan_model.specs.InRange.{Row}
use Rattle.scan_model.specs.Pairs.{RelationData, Pair, start, after_row}
use Rattle.scan_model.specs.Verdicts.{AreAllowedFrom}
use Rattle.verdict_laws.specs.Reach.{HasWalk, UnwalkedIsReach, WholeIsReach}

first_rows : (old new : ProgramData) (rel : RelationData) (pair : Pair) (rows : List Row) (n : ℕ) → n ≤ length rows → AreAllowedFrom old new rel pair rows
    → (few : List Row) × (length few ≡ n) × AreAllowedFrom old new rel pair few
first_rows old new rel pair rows zero le ok = ([], refl, tt)
first_rows old new rel pair [] (suc n) le ok = absurd (omega arith)
first_rows old new rel pair (row ∷ rows) (suc n) le ok =
    let r = first_rows old new rel (after_row old new rel row pair) rows n (omega arith) ok.1 in
    (row ∷ r.0, ap suc r.1, (ok.0, r.2))

fewer : (old new : ProgramData) (rel : RelationData) (n e : ℕ) → n ≤ e → HasWalk old new rel e → HasWalk old new rel n
fewer old new rel n e le walk = let size = walk.1 in first_rows old new rel (start old new) walk.0 n (omega (arith, le, size)) walk.2

pub unwalked_is_reach : UnwalkedIsReach
unwalked_is_reach old new rel r walk deep none = record { walk = walk; deep = omega (arith, deep); greatest = λ e further within more. none (fewer old new rel (suc r) e (omega (arith, further)) more) }

pub whole_is_reach : WholeIsReach
whole_is_reach old new rel walk = record { walk = walk; deep = omega arith; greatest = λ e further within more. absurd (omega (arith, further, within)) }
