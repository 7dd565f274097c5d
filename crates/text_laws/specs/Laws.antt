-- Laws of three texts: what is known of the comparison that they state, and what a verdict on it says of lists of rows.
use Rattle.std.specs.Prelude.{◌≡◌, ◌<◌, ◌≤◌, ℕ, List, [], ◌∷◌, length, true}
use Rattle.scan_model.specs.declared.verdict.Verdict.{Verdict}
use Rattle.scan_model.specs.declared.verdict.Verdict.TheVariants.{Vacuous, Related, Different, Open}
use Rattle.scan_model.specs.InRange.{Row}
use Rattle.scan_model.specs.Pairs.{Pair, start, is_allowed, after_row}
use Rattle.scan_model.specs.Verdicts.{CandidateSet, count_of, IsKept, HasBreak, IsVerdict, AreAllowedFrom, AreRelatedFrom}
use Rattle.scan_model.specs.VerdictLaws.{AreRelatable}
use Rattle.verdict_laws.specs.Evidence.{candidate_on}
use Rattle.queries.specs.Comparisons.{Comparison, IsComparison}
use Rattle.queries.specs.Questions.{QueryData, IsQueryOf}
use Rattle.queries.specs.Meaning.{Means}
use Rattle.comparison_files.specs.Texts.{Texts}
use Rattle.comparison_files.specs.Accepting.{AreStated}
use Rattle.comparison_files.specs.Comparing.{formulas_of}

-- ---- what texts state

-- both programs can be run, and each INPUT line names cells of them
abbrev pub StatedIsRelatable : Type 0
StatedIsRelatable = (t : Texts) (c : Comparison) → AreStated t c → AreRelatable c.old c.new c.relation

-- and the candidates are listed, and the numbers are within their limits
abbrev pub StatedIsComparison : Type 0
StatedIsComparison = (t : Texts) (c : Comparison) → AreStated t c → IsComparison c

-- the formula of each query means the query
abbrev pub FormulasMean : Type 0
FormulasMean = (t : Texts) (c : Comparison) → AreStated t c → (q : QueryData) → IsQueryOf c q → Means c q (formulas_of c q)

-- ---- rows, from the start on

module _ (c : Comparison) where
  abbrev pub AreAllowed : List Row → Type 0
  AreAllowed rows = AreAllowedFrom c.old c.new c.relation (start c.old c.new) rows

  -- the pair is related after each row
  abbrev pub AreRelated : List Row → Type 0
  AreRelated rows = AreRelatedFrom c.old c.new c.relation (start c.old c.new) rows

  -- the candidate of a number holds on a pair, and after each row from it on
  abbrev pub HoldsFrom : ℕ → Pair → List Row → Type 0
  HoldsFrom n pair [] = candidate_on c.old c.new c.relation n pair ≡ true
  HoldsFrom n pair (row ∷ rows) = (candidate_on c.old c.new c.relation n pair ≡ true) × HoldsFrom n (after_row c.old c.new c.relation row pair) rows

  -- each candidate of a set holds at the start, and after each row of every list of allowed rows
  abbrev pub HoldForEver : CandidateSet → Type 0
  HoldForEver set = (n : ℕ) → n < count_of c.old c.new c.relation → set n ≡ true → (rows : List Row) → AreAllowed rows → HoldsFrom n (start c.old c.new) rows

  -- the programs' verdict
  abbrev pub IsVerdictOn : Verdict → Type 0
  IsVerdictOn v = IsVerdict c.old c.new c.relation v

  -- a break of so many rows, at least one and at most DEPTH; along fewer the pair stays related
  pub record IsLeastBreak (scans : ℕ) : Type 0 where
    pub some_scan : 1 ≤ scans
    pub within_depth : scans ≤ c.relation.depth
    pub found : HasBreak c.old c.new c.relation scans
    pub none_shorter : (rows : List Row) → length rows < scans → AreAllowed rows → AreRelated rows

  -- so many rows are allowed, one after the other from the start, at most DEPTH; and no more up to DEPTH
  pub record IsFarthest (count : ℕ) : Type 0 where
    pub found : (rows : List Row) × (length rows ≡ count) × AreAllowed rows
    pub within_depth : count ≤ c.relation.depth
    pub none_longer : (rows : List Row) → count < length rows → length rows ≤ c.relation.depth → ¬ AreAllowed rows

-- where the verdict is RELATED, the pair is related after each row of every list of allowed rows
abbrev pub RelatedForEver : Type 0
RelatedForEver =
    (t : Texts) (c : Comparison) (kept candidates : ℕ) → AreStated t c → IsVerdictOn c (Related kept candidates) → (rows : List Row) → AreAllowed c rows → AreRelated c rows

-- a candidate that is kept holds at the start and after each of them
abbrev pub KeptForEver : Type 0
KeptForEver =
    (t : Texts) (c : Comparison) (n : ℕ) → AreStated t c → n < count_of c.old c.new c.relation → IsKept c.old c.new c.relation n → (rows : List Row) → AreAllowed c rows
    → HoldsFrom c n (start c.old c.new) rows

-- where the verdict is DIFFERENT, its number is that of the least rows that lead out of the relation
abbrev pub DifferentIsLeast : Type 0
DifferentIsLeast = (t : Texts) (c : Comparison) (scans : ℕ) → AreStated t c → IsVerdictOn c (Different scans) → IsLeastBreak c scans

-- where it is OPEN, the pair is related after each of at most DEPTH allowed rows
abbrev pub OpenIsRelatedSoFar : Type 0
OpenIsRelatedSoFar =
    (t : Texts) (c : Comparison) (kept candidates depth : ℕ) → AreStated t c → IsVerdictOn c (Open kept candidates depth)
    → (depth ≡ c.relation.depth) × ((rows : List Row) → length rows ≤ depth → AreAllowed c rows → AreRelated c rows)

-- where it is VACUOUS, no row is allowed at the start
abbrev pub NothingRunsWhereVacuous : Type 0
NothingRunsWhereVacuous = (t : Texts) (c : Comparison) (row : Row) → AreStated t c → IsVerdictOn c Vacuous → ¬ (is_allowed c.relation row (start c.old c.new) ≡ true)

-- texts state one comparison, and it has at most one verdict
abbrev pub OneVerdictOfTexts : Type 0
OneVerdictOfTexts = (t : Texts) (c d : Comparison) (v w : Verdict) → AreStated t c → AreStated t d → IsVerdictOn c v → IsVerdictOn d w → (c ≡ d) × (v ≡ w)
