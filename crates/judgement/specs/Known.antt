-- What is known at each place of a finding.
use Rattle.std.specs.Prelude.{◌≡◌, ℕ, suc, ◌+◌, ◌<◌, ◌≤◌, Bool, IsTrue, List, length}
use Rattle.std.specs.List.{list_all}
use Rattle.clause_core.specs.declared.literal.Lit.{Lit}
use Rattle.clause_core.specs.declared.step.Step.{Step}
use Rattle.clause_core.specs.Clauses.{is_set}
use Rattle.clause_core.specs.Formula.{Formula}
use Rattle.clause_core.specs.Satisfaction.{Satisfies, HasNoSolution}
use Rattle.clause_core.specs.Logs.{AreAccepted, AreFresh, with_steps}
use Rattle.finding_lines.specs.declared.line.Asked.{Asked}
use Rattle.derivation_check.specs.Checks.{Derivation, held_of}
use Rattle.scan_model.specs.InRange.{Row}
use Rattle.clause_core.specs.Deletions.{Thinned}
use Rattle.scan_model.specs.Pairs.{Pair, start}
use Rattle.scan_model.specs.Runs.{after_rows}
use Rattle.scan_model.specs.Verdicts.{CandidateSet, Meets, IsGreatest, HasFirstRow, IsProved, IsBreakFrom, NoBreakBelow, AreAllowedFrom}
use Rattle.verdict_laws.specs.Evidence.{Covers}
use Rattle.verdict_laws.specs.Reach.{HasWalk}
use Rattle.queries.specs.Comparisons.{Comparison}
use Rattle.queries.specs.Questions.{QueryData, walk, IsQueryOf}
use Rattle.judgement.specs.Places.{Place, at_top, at_header, at_walks, in_walk, at_drops, at_kept, at_deep, at_scans, at_end, finished, in_log, in_query, Moved, goes, fails}
use Rattle.judgement.specs.Shown.{asked_of, IsShown, IsReachShown}

-- what satisfies the one satisfies the other
abbrev pub Implies : List (List Lit) → List (List Lit) → Type 0
Implies formula held = (values : ℕ → Bool) → Satisfies values formula → Satisfies values held

module _ (c : Comparison) where
  -- so many rows are allowed from the start, and lead to the pair
  pub record Walks (count : ℕ) (pair : Pair) : Type 0 where
    pub rows : List Row
    pub counted : length rows ≡ count
    pub allowed : AreAllowedFrom c.old c.new c.relation (start c.old c.new) rows
    pub leads : pair ≡ after_rows c.old c.new c.relation rows (start c.old c.new)

  pub record KnownAtWalks (count : ℕ) (pair : Pair) : Type 0 where
    pub first : HasFirstRow c.old c.new c.relation
    pub walks : Walks count pair
    pub deep : count < c.relation.depth

  pub record KnownAtDrops (set : CandidateSet) : Type 0 where
    pub first : HasFirstRow c.old c.new c.relation
    pub covers : Covers c.old c.new c.relation set
    pub meets : Meets c.old c.new c.relation set (start c.old c.new)

  pub record KnownAtKept (set : CandidateSet) : Type 0 where
    pub first : HasFirstRow c.old c.new c.relation
    pub greatest : IsGreatest c.old c.new c.relation set

  pub record KnownAtDeep (set : CandidateSet) (none : ℕ) : Type 0 where
    pub first : HasFirstRow c.old c.new c.relation
    pub greatest : IsGreatest c.old c.new c.relation set
    pub unproved : ¬ IsProved c.old c.new c.relation
    pub none_below : NoBreakBelow c.old c.new c.relation (none + 1)
    pub deep : none < c.relation.depth

  pub record KnownAtScans (scans more : ℕ) (pair : Pair) : Type 0 where
    pub first : HasFirstRow c.old c.new c.relation
    pub unproved : ¬ IsProved c.old c.new c.relation
    pub none_below : NoBreakBelow c.old c.new c.relation scans
    pub deep : scans ≤ c.relation.depth
    -- rows that are a break from here on make one of so many scans with those so far
    pub rest : (rows : List Row) → length rows ≡ more + 1 → IsBreakFrom c.old c.new c.relation pair rows
        → (all : List Row) × (length all ≡ scans) × IsBreakFrom c.old c.new c.relation (start c.old c.new) all

module _ (c : Comparison) (formula : QueryData → Formula) where
  -- These steps spend the query, as far as they go. What is held is what deletions left of the formula and their clauses.
  pub record KnownInQuery (query : QueryData) (d : Derivation) (left : ℕ) (log : List Step) : Type 0 where
    pub is_query : IsQueryOf c query
    pub opened : d.formula ≡ formula query
    pub held : Thinned (with_steps d.formula.clauses log) (held_of d)
    pub sets : IsTrue (list_all is_set (with_steps d.formula.clauses log))
    pub accepted : AreAccepted d.formula.variables d.formula.clauses log
    pub fresh : AreFresh d.formula.clauses log
    pub counted : length log + left ≡ c.relation.conflicts

  -- the query of that name is being spent
  abbrev pub KnownOfQuery : Asked → Derivation → ℕ → Type 0
  KnownOfQuery asked d left = (query : QueryData) × (asked ≡ asked_of query) × ((log : List Step) × KnownInQuery query d left log)

  pub record KnownInWalk (count : ℕ) (d : Derivation) (left : ℕ) : Type 0 where
    pub first : HasFirstRow c.old c.new c.relation
    pub walk_of_rows : HasWalk c.old c.new c.relation count
    pub log : List Step
    pub known : KnownInQuery (walk (suc count)) d left log

  abbrev pub Known : Place → Type 0
  Known at_top = Unit {0}
  Known (at_header reach) = IsReachShown c formula reach
  Known (at_walks count pair) = KnownAtWalks c count pair
  Known (in_walk count d left) = KnownInWalk count d left
  Known (at_drops reach set) = KnownAtDrops c set × IsReachShown c formula reach
  Known (at_kept reach set) = KnownAtKept c set × IsReachShown c formula reach
  Known (at_deep reach set none) = KnownAtDeep c set none × IsReachShown c formula reach
  Known (at_scans reach scans more pair) = KnownAtScans c scans more pair × IsReachShown c formula reach
  Known (at_end reach verdict) = IsShown c formula verdict × IsReachShown c formula reach
  Known (finished reach verdict) = IsShown c formula verdict × IsReachShown c formula reach
  Known (in_log d behind) = Implies d.formula.clauses (held_of d) × (HasNoSolution d.formula.clauses → Known behind)
  Known (in_query reach asked d left) = KnownOfQuery asked d left × IsReachShown c formula reach

  abbrev pub KnownAfter : Moved → Type 0
  KnownAfter (goes place) = Known place
  KnownAfter (fails reason) = Unit {0}
