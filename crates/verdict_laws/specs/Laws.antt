-- From evidence to verdicts, over all programs and their relations.
use Rattle.std.specs.Prelude.{◌≡◌, ◌<◌, ◌≤◌, ◌+◌, ℕ, List, length, true}
use Rattle.program_tree.specs.Tree.{ProgramData}
use Rattle.scan_model.specs.declared.verdict.Verdict.TheVariants.{Vacuous, Related, Different, Open}
use Rattle.scan_model.specs.InRange.{Row}
use Rattle.scan_model.specs.Pairs.{RelationData, Pair, IsPairInRange, start, is_allowed, after_row}
use Rattle.scan_model.specs.Verdicts.{CandidateSet, count_of, size_below, Meets, IsInductive, IsGreatest, IsProved, HasFirstRow, HasBreak, IsBreakFrom, NoBreakBelow, IsVerdict}
use Rattle.verdict_laws.specs.Evidence.{Covers, held_at_start, left_on, LeavesRelation, NothingLeavesSet, NothingLeavesRelation}

-- what holds at the start has every candidate that is kept
abbrev pub StartCovers : Type 0
StartCovers = (old new : ProgramData) (rel : RelationData) → Covers old new rel (held_at_start old new rel)

-- and it holds at the start
abbrev pub StartMeets : Type 0
StartMeets = (old new : ProgramData) (rel : RelationData) → Meets old new rel (held_at_start old new rel) (start old new)

-- what is left of a set with every candidate that is kept, after an allowed row from a pair in range that meets it, has them too
abbrev pub LeftCovers : Type 0
LeftCovers =
    (old new : ProgramData) (rel : RelationData) (set : CandidateSet) (pair : Pair) (row : Row) → Covers old new rel set
    → IsPairInRange old new pair → Meets old new rel set pair → is_allowed rel row pair ≡ true
    → Covers old new rel (left_on old new rel set (after_row old new rel row pair))

-- a set that holds at the start and that no allowed row leads out of is inductive
abbrev pub UnleftIsInductive : Type 0
UnleftIsInductive =
    (old new : ProgramData) (rel : RelationData) (set : CandidateSet) → Meets old new rel set (start old new) → NothingLeavesSet old new rel set
    → IsInductive old new rel set

-- an inductive set with every candidate that is kept is the greatest
abbrev pub CoveringIsGreatest : Type 0
CoveringIsGreatest =
    (old new : ProgramData) (rel : RelationData) (set : CandidateSet) → Covers old new rel set → IsInductive old new rel set
    → IsGreatest old new rel set

-- two greatest sets have one size
abbrev pub OneSize : Type 0
OneSize =
    (old new : ProgramData) (rel : RelationData) (a b : CandidateSet) → IsGreatest old new rel a → IsGreatest old new rel b
    → size_below (count_of old new rel) a ≡ size_below (count_of old new rel) b

-- the greatest set, where no allowed row leads from it out of the relation, proves that pairs stay related
abbrev pub UnleftIsProved : Type 0
UnleftIsProved =
    (old new : ProgramData) (rel : RelationData) (set : CandidateSet) → IsGreatest old new rel set → NothingLeavesRelation old new rel set
    → IsProved old new rel

-- where a row leads from it out of the relation, nothing proves it
abbrev pub LeftIsNotProved : Type 0
LeftIsNotProved =
    (old new : ProgramData) (rel : RelationData) (set : CandidateSet) (pair : Pair) (row : Row) → IsGreatest old new rel set
    → LeavesRelation old new rel set pair row → ¬ IsProved old new rel

-- no break at each number of rows below d means none below d: there is none of no row
abbrev pub NoneBelow : Type 0
NoneBelow =
    (old new : ProgramData) (rel : RelationData) (d : ℕ) → ((e : ℕ) → 1 ≤ e → e < d → ¬ HasBreak old new rel e) → NoBreakBelow old new rel d

abbrev pub VacuousIsShown : Type 0
VacuousIsShown = (old new : ProgramData) (rel : RelationData) → ¬ HasFirstRow old new rel → IsVerdict old new rel Vacuous

abbrev pub RelatedIsShown : Type 0
RelatedIsShown =
    (old new : ProgramData) (rel : RelationData) (set : CandidateSet) → HasFirstRow old new rel → IsGreatest old new rel set
    → NothingLeavesRelation old new rel set → IsVerdict old new rel (Related (size_below (count_of old new rel) set) (count_of old new rel))

abbrev pub DifferentIsShown : Type 0
DifferentIsShown =
    (old new : ProgramData) (rel : RelationData) (rows : List Row) → HasFirstRow old new rel → ¬ IsProved old new rel
    → NoBreakBelow old new rel (length rows) → IsBreakFrom old new rel (start old new) rows → length rows ≤ rel.depth
    → IsVerdict old new rel (Different (length rows))

abbrev pub OpenIsShown : Type 0
OpenIsShown =
    (old new : ProgramData) (rel : RelationData) (set : CandidateSet) → HasFirstRow old new rel → IsGreatest old new rel set
    → ¬ IsProved old new rel → NoBreakBelow old new rel (rel.depth + 1)
    → IsVerdict old new rel (Open (size_below (count_of old new rel) set) (count_of old new rel) rel.depth)
