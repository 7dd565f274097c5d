-- What held on the pairs of runs, row by row.
use Rattle.std.proofs.Common.{◌≡◌, ◌<◌, ℕ, suc, ◌+◌, ◌-◌, List, Bool, true, ◌&&◌, sym, ap, ◌∙◌, arith}
use Rattle.program_tree.specs.View.{program_view}
use Rattle.scan_model.specs.InRange.{Row}
use Rattle.scan_model.specs.Pairs.{RelationData, Pair, relation_view}
use Rattle.scan_model.specs.Candidates.{candidate_holds}
use Rattle.scan_replay.specs.Duos.{Compared}
use Rattle.line_trials.specs.Held.{candidates_hold, held_along}

-- ---- candidates by their numbers

pub candidates_hold-step : (rel : RelationData) (first count offset : ℕ) (pair : Pair) → offset < count
    → candidates_hold rel (first + offset) (count - offset) pair ≡ (candidate_holds rel.candidates (first + offset) pair && candidates_hold rel (first + (offset + 1)) (count - (offset + 1)) pair)
candidates_hold-step rel first count offset pair below =
    let left : count - offset ≡ suc (count - (offset + 1)) = omega arith in
    let next : first + offset + 1 ≡ first + (offset + 1) = omega arith in
    ap (λ n. candidates_hold rel (first + offset) n pair) left
    ∙ ap (λ n. candidate_holds rel.candidates (first + offset) pair && candidates_hold rel n (count - (offset + 1)) pair) next

-- one more holds
pub one_holds : (rel : RelationData) (first count offset : ℕ) (pair : Pair) (all held : Bool) → offset < count → all ≡ candidates_hold rel (first + offset) (count - offset) pair
    → held ≡ candidate_holds rel.candidates (first + offset) pair → held ≡ true → all ≡ candidates_hold rel (first + (offset + 1)) (count - (offset + 1)) pair
one_holds rel first count offset pair all held below so_far is positive =
    so_far ∙ candidates_hold-step rel first count offset pair below ∙ ap (λ b. b && candidates_hold rel (first + (offset + 1)) (count - (offset + 1)) pair) (sym is ∙ positive)

-- what is to come from a pair of programs under a relation
abbrev pub to_come : Compared → ℕ → ℕ → List Row → Pair → Bool
to_come d first count rows pair = held_along (program_view d.old_program) (program_view d.new_program) (relation_view d.relation) first count rows pair
