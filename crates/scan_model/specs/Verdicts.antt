-- Verdicts on two programs under a relation: inductive sets of candidates, breaks, and what is said of the pair.
use Rattle.std.specs.Prelude.{◌≡◌, ◌↔◌, ℕ, zero, suc, ◌+◌, ◌<◌, ◌≤◌, List, [], ◌∷◌, length, Bool, true, false, if◌then◌else◌}
use Rattle.program_tree.specs.Tree.{ProgramData}
use Rattle.scan_model.specs.declared.verdict.Verdict.{Verdict}
use Rattle.scan_model.specs.declared.verdict.Verdict.TheVariants.{Vacuous, Related, Different, Open}
use Rattle.scan_model.specs.InRange.{Row}
use Rattle.scan_model.specs.Pairs.{RelationData, Pair, start, IsPairInRange, holds, is_allowed, is_related, after_row}
use Rattle.scan_model.specs.Candidates.{candidates_of, clause_at}

-- a set of candidates, by their numbers
abbrev pub CandidateSet : Type 0
CandidateSet = ℕ → Bool

-- how many of the numbers below a bound are in a set
abbrev pub size_below : ℕ → CandidateSet → ℕ
size_below zero set = 0
size_below (suc n) set = (if set n then 1 else 0) + size_below n set

module _ (old new : ProgramData) (rel : RelationData) where
  abbrev pub count_of : ℕ
  count_of = length (candidates_of old new rel)

  -- all candidates of a set hold on a pair
  abbrev pub Meets : CandidateSet → Pair → Type 0
  Meets set pair = (n : ℕ) → n < count_of → set n ≡ true → holds (clause_at (candidates_of old new rel) n) pair ≡ true

  -- A set is inductive where all of it holds at the start, and from every pair in range that meets it, every allowed
  -- row leads to a pair that meets it.
  pub record IsInductive (set : CandidateSet) : Type 0 where
    pub starts : Meets set (start old new)
    pub steps : (pair : Pair) (row : Row) → IsPairInRange old new pair → Meets set pair → is_allowed rel row pair ≡ true → Meets set (after_row old new rel row pair)

  -- a candidate of some inductive set
  abbrev pub IsKept : ℕ → Type 0
  IsKept n = (set : CandidateSet) × IsInductive set × (set n ≡ true)

  -- the greatest inductive set: the union of all
  abbrev pub IsGreatest : CandidateSet → Type 0
  IsGreatest set = (n : ℕ) → n < count_of → (set n ≡ true) ↔ IsKept n

  -- how many candidates the greatest inductive set has
  abbrev pub IsSizeOfGreatest : ℕ → Type 0
  IsSizeOfGreatest k = (set : CandidateSet) × IsGreatest set × (k ≡ size_below count_of set)

  -- some first row is allowed
  abbrev pub HasFirstRow : Type 0
  HasFirstRow = (row : Row) × (is_allowed rel row (start old new) ≡ true)

  -- from every pair in range that meets a set, every allowed row leads to a related pair
  abbrev pub Proves : CandidateSet → Type 0
  Proves set = (pair : Pair) (row : Row) → IsPairInRange old new pair → Meets set pair → is_allowed rel row pair ≡ true → is_related rel (after_row old new rel row pair) ≡ true

  -- the greatest inductive set proves that pairs stay related
  abbrev pub IsProved : Type 0
  IsProved = (set : CandidateSet) × IsGreatest set × Proves set

  -- Rows are a break from a pair on: each is allowed, and after the last the pair is not related, while after each
  -- earlier one it is.
  abbrev pub IsBreakFrom : Pair → List Row → Type 0
  IsBreakFrom pair [] = ⊥
  IsBreakFrom pair (row ∷ []) = (is_allowed rel row pair ≡ true) × (is_related rel (after_row old new rel row pair) ≡ false)
  IsBreakFrom pair (row ∷ next ∷ rows) =
      (is_allowed rel row pair ≡ true) × (is_related rel (after_row old new rel row pair) ≡ true) × IsBreakFrom (after_row old new rel row pair) (next ∷ rows)

  -- a break of so many rows from the start
  abbrev pub HasBreak : ℕ → Type 0
  HasBreak d = (rows : List Row) × (length rows ≡ d) × IsBreakFrom (start old new) rows

  abbrev pub NoBreakBelow : ℕ → Type 0
  NoBreakBelow d = (e : ℕ) → e < d → ¬ HasBreak e

  -- VACUOUS: no first row is allowed. Else RELATED: the greatest inductive set proves it. Else DIFFERENT: there is a break,
  -- and the least has this length, at most DEPTH. Else OPEN.
  abbrev pub IsVerdict : Verdict → Type 0
  IsVerdict Vacuous = ¬ HasFirstRow
  IsVerdict (Related kept candidates) = HasFirstRow × IsProved × IsSizeOfGreatest kept × (candidates ≡ count_of)
  IsVerdict (Different scans) = HasFirstRow × (¬ IsProved) × HasBreak scans × NoBreakBelow scans × (scans ≤ rel.depth)
  IsVerdict (Open kept candidates depth) =
      HasFirstRow × (¬ IsProved) × NoBreakBelow (depth + 1) × IsSizeOfGreatest kept × (candidates ≡ count_of) × (depth ≡ rel.depth)

  -- each row is allowed on the pair that those before it leave
  abbrev pub AreAllowedFrom : Pair → List Row → Type 0
  AreAllowedFrom pair [] = Unit {0}
  AreAllowedFrom pair (row ∷ rows) = (is_allowed rel row pair ≡ true) × AreAllowedFrom (after_row old new rel row pair) rows

  -- the pair is related after each row
  abbrev pub AreRelatedFrom : Pair → List Row → Type 0
  AreRelatedFrom pair [] = Unit {0}
  AreRelatedFrom pair (row ∷ rows) = (is_related rel (after_row old new rel row pair) ≡ true) × AreRelatedFrom (after_row old new rel row pair) rows
