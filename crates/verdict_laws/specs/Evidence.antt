-- What shows a verdict: sets with every candidate that is kept, and pairs from which a row leads out of a set or out of the relation.
use Rattle.std.specs.Prelude.{◌≡◌, ◌<◌, ℕ, Bool, true, false, ◌&&◌, nat_lt}
use Rattle.program_tree.specs.Tree.{ProgramData}
use Rattle.scan_model.specs.InRange.{Row}
use Rattle.scan_model.specs.Pairs.{RelationData, Pair, IsPairInRange, start, holds, is_allowed, is_related, after_row}
use Rattle.scan_model.specs.Candidates.{candidates_of, clause_at}
use Rattle.scan_model.specs.Verdicts.{CandidateSet, count_of, Meets, IsKept}

module _ (old new : ProgramData) (rel : RelationData) where
  -- the candidate of a number holds on a pair
  abbrev pub candidate_on : ℕ → Pair → Bool
  candidate_on n pair = holds (clause_at (candidates_of old new rel) n) pair

  -- a set with every candidate that is kept
  abbrev pub Covers : CandidateSet → Type 0
  Covers set = (n : ℕ) → n < count_of old new rel → IsKept old new rel n → set n ≡ true

  -- the candidates that hold at the start
  abbrev pub held_at_start : CandidateSet
  held_at_start n = nat_lt n (count_of old new rel) && candidate_on n (start old new)

  -- those of a set that hold on a pair
  abbrev pub left_on : CandidateSet → Pair → CandidateSet
  left_on set pair n = set n && candidate_on n pair

  -- a candidate of the set fails on a pair
  abbrev pub FailsOn : CandidateSet → Pair → Type 0
  FailsOn set pair = (n : ℕ) × (n < count_of old new rel) × (set n ≡ true) × (candidate_on n pair ≡ false)

  -- from a pair in range that meets the set, an allowed row leads to one on which a candidate of the set fails
  pub record LeavesSet (set : CandidateSet) (pair : Pair) (row : Row) : Type 0 where
    pub in_range : IsPairInRange old new pair
    pub meets : Meets old new rel set pair
    pub allowed : is_allowed rel row pair ≡ true
    pub fails : FailsOn set (after_row old new rel row pair)

  -- from a pair in range that meets the set, an allowed row leads to one that is not related
  pub record LeavesRelation (set : CandidateSet) (pair : Pair) (row : Row) : Type 0 where
    pub in_range : IsPairInRange old new pair
    pub meets : Meets old new rel set pair
    pub allowed : is_allowed rel row pair ≡ true
    pub unrelated : is_related rel (after_row old new rel row pair) ≡ false

  -- no allowed row leads out of the set
  abbrev pub NothingLeavesSet : CandidateSet → Type 0
  NothingLeavesSet set = (pair : Pair) (row : Row) → ¬ LeavesSet set pair row

  -- none leads out of the relation
  abbrev pub NothingLeavesRelation : CandidateSet → Type 0
  NothingLeavesRelation set = (pair : Pair) (row : Row) → ¬ LeavesRelation set pair row
