-- Laws of verdicts, over all programs and their relations.
use Rattle.std.specs.Prelude.{◌≡◌, ◌<◌, ℕ, List, true, false}
use Rattle.program_tree.specs.Tree.{ProgramData}
use Rattle.scan_model.specs.declared.verdict.Verdict.{Verdict}
use Rattle.scan_model.specs.declared.verdict.Verdict.TheVariants.{Related}
use Rattle.scan_model.specs.InRange.{Row, IsFitToRun}
use Rattle.scan_model.specs.Pairs.{RelationData, Pair, BelongsTo, IsPairInRange, start, holds, is_allowed, after_row}
use Rattle.scan_model.specs.Candidates.{candidates_of, clause_at}
use Rattle.scan_model.specs.Verdicts.{CandidateSet, Meets, IsInductive, IsKept, IsGreatest, HasBreak, count_of, IsVerdict, AreAllowedFrom, AreRelatedFrom}

-- two programs, and a relation between them
pub record AreRelatable (old new : ProgramData) (rel : RelationData) : Type 0 where
  pub old_is_program : IsFitToRun old
  pub new_is_program : IsFitToRun new
  pub belongs : BelongsTo old new rel

-- where the verdict is RELATED, the pair is related after every row of every list of allowed rows
abbrev pub RelatedForEver : Type 0
RelatedForEver =
    (old new : ProgramData) (rel : RelationData) (kept candidates : ℕ) → AreRelatable old new rel → IsVerdict old new rel (Related kept candidates)
    → (rows : List Row) → AreAllowedFrom old new rel (start old new) rows → AreRelatedFrom old new rel (start old new) rows

-- where the verdict is RELATED, there is no break
abbrev pub NoBreakWhereRelated : Type 0
NoBreakWhereRelated =
    (old new : ProgramData) (rel : RelationData) (kept candidates : ℕ) → AreRelatable old new rel → IsVerdict old new rel (Related kept candidates)
    → (d : ℕ) → ¬ HasBreak old new rel d

-- the greatest inductive set is inductive
abbrev pub GreatestIsInductive : Type 0
GreatestIsInductive = (old new : ProgramData) (rel : RelationData) (set : CandidateSet) → IsGreatest old new rel set → IsInductive old new rel set

-- a set that holds on every pair in range is inductive
abbrev pub HoldingInRangeIsInductive : Type 0
HoldingInRangeIsInductive =
    (old new : ProgramData) (rel : RelationData) (set : CandidateSet) → AreRelatable old new rel
    → ((pair : Pair) → IsPairInRange old new pair → Meets old new rel set pair) → IsInductive old new rel set

-- a candidate that fails after an allowed row, from a pair in range that meets a set with all that is kept, is not kept
abbrev pub FailingIsNotKept : Type 0
FailingIsNotKept =
    (old new : ProgramData) (rel : RelationData) (set : CandidateSet) (pair : Pair) (row : Row) (n : ℕ)
    → ((m : ℕ) → m < count_of old new rel → IsKept old new rel m → set m ≡ true) → IsPairInRange old new pair → Meets old new rel set pair
    → is_allowed rel row pair ≡ true → n < count_of old new rel
    → holds (clause_at (candidates_of old new rel) n) (after_row old new rel row pair) ≡ false → ¬ IsKept old new rel n

-- there is at most one verdict
abbrev pub OneVerdict : Type 0
OneVerdict =
    (old new : ProgramData) (rel : RelationData) (v w : Verdict) → AreRelatable old new rel → IsVerdict old new rel v → IsVerdict old new rel w → v ≡ w
