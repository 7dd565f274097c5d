-- The tests of a line, at the place that the lines before it lead to. They stand in their order.
use Rattle.std.specs.Prelude.{◌≡◌, ◌↔◌, ℕ, zero, suc, ◌+◌, ◌-◌, ◌==◌, ℤ, pos, negsuc, Bool, true, false, not, ◌&&◌, ◌||◌, nat_lt, IsTrue, List, if◌then◌else◌}
use Rattle.clause_core.specs.Formula.{Formula}
use Rattle.clause_core.specs.Clauses.{rises}
use Rattle.clause_core.specs.Freshness.{IsFresh}
use Rattle.finding_lines.specs.declared.line.Asked.{Asked}
use Rattle.finding_lines.specs.declared.line.Asked.TheVariants.{First, Step, Goal, Deep, Walk}
use Rattle.finding_lines.specs.declared.line.Conclusion.{Conclusion}
use Rattle.finding_lines.specs.declared.line.Conclusion.TheVariants.{Vacuous, Related, Different, Open, Spent}
use Rattle.finding_lines.specs.declared.line.Version.{Version}
use Rattle.finding_lines.specs.declared.line.Version.TheVariants.{One, Two}
use Rattle.finding_lines.specs.declared.line.Line.{Line}
use Rattle.finding_lines.specs.declared.line.Line.TheVariants as lines
use Rattle.derivation_check.specs.Checks.{Derivation, held_of}
use Rattle.derivation_check.specs.Deletions.{may_delete_all, without_all}
use Rattle.scan_model.specs.InRange.{Row}
use Rattle.scan_model.specs.Pairs.{Pair}
use Rattle.scan_model.specs.Verdicts.{CandidateSet, size_below}
use Rattle.queries.specs.Settings.{Setting, meets, first_set, left_of}
use Rattle.queries.specs.Questions.{QueryData, first, step, goal, deep, walk}
use Rattle.judgement.specs.Steps.{clause_of, hints_of, step_of, opened, with_derived, accepts, is_empty, pair_in, row_in}
use Rattle.judgement.specs.Places.{Place, at_top, at_header, at_walks, in_walk, at_drops, at_kept, at_deep, at_scans, at_end, finished, in_log, in_query, reach_at, Moved, goes, fails}
use Rattle.judgement.specs.declared.answers.Reason.{Reason}
use Rattle.judgement.specs.declared.answers.Reason.TheVariants.{B1, B2, B3, B4, B5, B6, B7, B8, B9, B10, B11, B12, B14}
use Rattle.judgement.specs.declared.answers.Reach.{Reach}
use Rattle.judgement.specs.declared.answers.Reach.TheVariants.{Untold, Unwalked, Greatest, AtLeast}

-- a test, what it fails by, and what follows where it passes
abbrev pub when : Bool → Reason → Moved → Moved
when passes reason next = if passes then next else fails reason

abbrev pub is_deep : ℕ → Asked → Bool
is_deep scans (Deep (pos d)) = d == scans
is_deep scans (Deep (negsuc d)) = false
is_deep scans First = false
is_deep scans Step = false
is_deep scans Goal = false
is_deep scans (Walk r) = false

abbrev pub is_walk : ℕ → Asked → Bool
is_walk rows (Walk (pos r)) = r == rows
is_walk rows (Walk (negsuc r)) = false
is_walk rows First = false
is_walk rows Step = false
is_walk rows Goal = false
is_walk rows (Deep d) = false

-- ---- versions

abbrev pub asks_walk : Asked → Bool
asks_walk (Walk r) = true
asks_walk First = false
asks_walk Step = false
asks_walk Goal = false
asks_walk (Deep d) = false

abbrev pub is_second : Version → Bool
is_second One = false
is_second Two = true

-- a line that version 1 has no form for
abbrev pub is_of_second : Line → Bool
is_of_second (lines.Header version) = is_second version
is_of_second (lines.Seen row) = false
is_of_second (lines.Walk row) = true
is_of_second (lines.Dropping numbers) = false
is_of_second (lines.Pair numbers) = false
is_of_second (lines.Scan row) = false
is_of_second (lines.Log asked) = asks_walk asked
is_of_second (lines.Query asked) = asks_walk asked
is_of_second (lines.Derived literals hints) = false
is_of_second (lines.Deleted ids) = true
is_of_second (lines.End conclusion) = false

-- a finding of version 1 says nothing of reach
abbrev pub is_first_version : Reach → Bool
is_first_version Untold = true
is_first_version Unwalked = false
is_first_version (Greatest rows) = false
is_first_version (AtLeast rows) = false

abbrev pub begun : Version → Reach
begun One = Untold
begun Two = Unwalked

-- ---- questions

-- what the judge has to be told of a line: whether a step is fresh, or an END line that of the verdict
abbrev pub Question : Setting → Place → Line → Type 0
Question s (in_walk rows d left) (lines.Derived literals hints) = IsFresh (held_of d) (clause_of literals)
Question s (in_query reach asked d left) (lines.Derived literals hints) = IsFresh (held_of d) (clause_of literals)
Question s (in_query reach asked d left) (lines.End conclusion) = conclusion ≡ Spent asked (pos s.conflicts)
Question s (at_end reach verdict) (lines.End conclusion) = conclusion ≡ verdict
Question s place line = Unit {0}

abbrev pub open_log : Formula → Place → Moved
open_log formula behind = goes (in_log (opened formula) behind)

-- ---- lines, place by place

abbrev pub at_top_next : Line → Moved
at_top_next (lines.Header version) = goes (at_header (begun version))
at_top_next line = when (not (is_of_second line)) B1 (fails B9)

abbrev pub at_end_next : Reach → Conclusion → Bool → Line → Moved
at_end_next reach verdict told (lines.End conclusion) = when told B11 (goes (finished reach verdict))
at_end_next reach verdict told line = fails B9

-- the clauses of these numbers are held no more, one after the other
abbrev pub deleting : Derivation → List ℤ → (Derivation → Place) → Moved
deleting d ids place = when (may_delete_all d (hints_of ids)) B14 (goes (place (without_all d (hints_of ids))))

abbrev pub in_log_next : Derivation → Place → Line → Moved
in_log_next d behind (lines.Derived literals hints) =
    when (rises d.formula.variables (clause_of literals)) B2 (when (accepts d (step_of literals hints)) B6
    (goes (if is_empty (clause_of literals) then behind else in_log (with_derived d (clause_of literals)) behind)))
in_log_next d behind (lines.Deleted ids) = deleting d ids (λ left. in_log left behind)
in_log_next d behind line = fails B7

-- behind the log that is to spend the query for allowed rows a line needs that no step is to come
abbrev pub when_spent : ℕ → Moved → Moved
when_spent left (goes place) = when (left == 0) B10 (goes place)
when_spent left (fails reason) = fails reason

module _ (s : Setting) where
  abbrev pub open_query : Reach → Asked → Formula → Moved
  open_query reach asked formula = goes (in_query reach asked (opened formula) s.conflicts)

  abbrev pub related_by : CandidateSet → Conclusion
  related_by set = Related (pos (size_below s.candidates set)) (pos s.candidates)

  abbrev pub open_by : CandidateSet → Conclusion
  open_by set = Open (pos (size_below s.candidates set)) (pos s.candidates) (pos s.depth)

  -- behind the log for a break of so many scans
  abbrev pub after_deep : Reach → CandidateSet → ℕ → Place
  after_deep reach set scans = if nat_lt scans s.depth then at_deep reach set scans else at_end reach (open_by set)

  -- behind a first row: in version 2 an allowed list of rows comes before those that drop candidates
  abbrev pub after_first : Reach → Place
  after_first Untold = at_drops Untold (first_set s)
  after_first reach = at_walks 0 s.start

  -- a first row
  abbrev pub first_row : Reach → Row → Moved
  first_row reach row = when (s.fits row) B2 (when (s.allowed row s.start) B3 (goes (after_first reach)))

  -- behind so many rows of the list, of which there are DEPTH at most
  abbrev pub after_walk : ℕ → Pair → Place
  after_walk rows pair = if nat_lt rows s.depth then at_walks rows pair else at_drops (Greatest rows) (first_set s)

  -- a row of the list
  abbrev pub walk_row : ℕ → Pair → Row → Moved
  walk_row rows pair row = when (s.fits row) B2 (when (s.allowed row pair) B3 (goes (after_walk (suc rows) (s.after row pair))))

  -- a row that drops candidates
  abbrev pub drop_row : Reach → CandidateSet → Pair → Row → Moved
  drop_row reach set pair row =
      when (s.in_range pair && s.fits row) B2 (when (s.allowed row pair) B3 (when (meets s set pair) B4
      (when (not (meets s set (s.after row pair))) B5 (goes (at_drops reach (left_of s set (s.after row pair)))))))

  -- a row that leads out of the relation
  abbrev pub pair_row : Reach → CandidateSet → Pair → Row → Moved
  pair_row reach set pair row =
      when (s.in_range pair && s.fits row) B2 (when (s.allowed row pair) B3 (when (meets s set pair) B4
      (when (not (s.related (s.after row pair))) B8 (goes (at_deep reach set 0)))))

  -- a row of a break of so many scans, of which so many are to come behind it
  abbrev pub scan_row : Reach → ℕ → ℕ → Pair → Row → Moved
  scan_row reach scans zero pair row =
      when (s.fits row) B2 (when (s.allowed row pair) B3 (when (not (s.related (s.after row pair))) B8 (goes (at_end reach (Different (pos scans))))))
  scan_row reach scans (suc more) pair row =
      when (s.fits row) B2 (when (s.allowed row pair) B3 (when (s.related (s.after row pair)) B8 (goes (at_scans reach scans more (s.after row pair)))))

  abbrev pub at_scans_next : Reach → ℕ → ℕ → Pair → Line → Moved
  at_scans_next reach scans more pair (lines.Scan row) = scan_row reach scans more pair row
  at_scans_next reach scans more pair line = fails B9

  abbrev pub in_query_next : Reach → Asked → Derivation → ℕ → Bool → Line → Moved
  in_query_next reach asked d left told (lines.Derived literals hints) =
      when (rises d.formula.variables (clause_of literals)) B2 (when (accepts d (step_of literals hints)) B6
      (when (not (is_empty (clause_of literals)) && (told && nat_lt 0 left)) B10 (goes (in_query reach asked (with_derived d (clause_of literals)) (left - 1)))))
  in_query_next reach asked d left told (lines.Deleted ids) = deleting d ids (λ held. in_query reach asked held left)
  in_query_next reach asked d left told (lines.End conclusion) =
      when (left == 0) B10 (when told B11 (goes (finished reach (Spent asked (pos s.conflicts)))))
  in_query_next reach asked d left told line = fails B9

module _ (s : Setting) (formula : QueryData → Formula) where
  abbrev pub at_header_next : Reach → Line → Moved
  at_header_next reach (lines.Seen row) = first_row s reach row
  at_header_next reach (lines.Log First) = open_log (formula first) (at_end reach Vacuous)
  at_header_next reach (lines.Query First) = open_query s reach First (formula first)
  at_header_next reach line = fails B9

  -- behind so many rows a log may show that there is no list of one more, or spend the query for it
  abbrev pub walk_log : ℕ → Asked → Moved → Moved
  walk_log rows asked moved = when (nat_lt 0 rows && is_walk (suc rows) asked) B9 moved

  abbrev pub at_walks_next : ℕ → Pair → Line → Moved
  at_walks_next rows pair (lines.Walk row) = walk_row s rows pair row
  at_walks_next rows pair (lines.Log asked) =
      walk_log rows asked (open_log (formula (walk (suc rows))) (at_drops (Greatest rows) (first_set s)))
  at_walks_next rows pair (lines.Query asked) = walk_log rows asked (goes (in_walk rows (opened (formula (walk (suc rows)))) s.conflicts))
  at_walks_next rows pair line = fails B9

  abbrev pub at_drops_next : Reach → CandidateSet → Line → Moved
  at_drops_next reach set (lines.Dropping numbers) = drop_row s reach set (pair_in s numbers) (row_in s numbers)
  at_drops_next reach set (lines.Log Step) = open_log (formula (step set)) (at_kept reach set)
  at_drops_next reach set (lines.Query Step) = open_query s reach Step (formula (step set))
  at_drops_next reach set line = fails B9

  -- a line that is no part of the log is one that may stand behind the list of rows
  abbrev pub in_walk_next : ℕ → Derivation → ℕ → Bool → Line → Moved
  in_walk_next rows d left told (lines.Derived literals hints) =
      when (rises d.formula.variables (clause_of literals)) B2 (when (accepts d (step_of literals hints)) B6
      (when (not (is_empty (clause_of literals)) && (told && nat_lt 0 left)) B10 (goes (in_walk rows (with_derived d (clause_of literals)) (left - 1)))))
  in_walk_next rows d left told (lines.Deleted ids) = deleting d ids (λ held. in_walk rows held left)
  in_walk_next rows d left told line = when_spent left (at_drops_next (AtLeast rows) (first_set s) line)

  abbrev pub at_kept_next : Reach → CandidateSet → Line → Moved
  at_kept_next reach set (lines.Pair numbers) = pair_row s reach set (pair_in s numbers) (row_in s numbers)
  at_kept_next reach set (lines.Log Goal) = open_log (formula (goal set)) (at_end reach (related_by s set))
  at_kept_next reach set (lines.Query Goal) = open_query s reach Goal (formula (goal set))
  at_kept_next reach set line = fails B9

  abbrev pub at_deep_next : Reach → CandidateSet → ℕ → Line → Moved
  at_deep_next reach set none (lines.Scan row) = scan_row s reach (none + 1) none s.start row
  at_deep_next reach set none (lines.Log asked) =
      when (is_deep (none + 1) asked) B9 (open_log (formula (deep (none + 1))) (after_deep s reach set (none + 1)))
  at_deep_next reach set none (lines.Query asked) = when (is_deep (none + 1) asked) B9 (open_query s reach asked (formula (deep (none + 1))))
  at_deep_next reach set none line = fails B9

  -- where a line leads to from a place behind the header, in a version that has a form for it
  abbrev pub next_by : Place → Bool → Line → Moved
  next_by at_top told line = at_top_next line
  next_by (at_header reach) told line = at_header_next reach line
  next_by (at_walks rows pair) told line = at_walks_next rows pair line
  next_by (in_walk rows d left) told line = in_walk_next rows d left told line
  next_by (at_drops reach set) told line = at_drops_next reach set line
  next_by (at_kept reach set) told line = at_kept_next reach set line
  next_by (at_deep reach set none) told line = at_deep_next reach set none line
  next_by (at_scans reach scans more pair) told line = at_scans_next s reach scans more pair line
  next_by (at_end reach verdict) told line = at_end_next reach verdict told line
  next_by (finished reach verdict) told line = fails B12
  next_by (in_log d behind) told line = in_log_next d behind line
  next_by (in_query reach asked d left) told line = in_query_next s reach asked d left told line

  -- before the header and behind the END line the version decides nothing
  abbrev pub is_outside : Place → Bool
  is_outside at_top = true
  is_outside (finished reach verdict) = true
  is_outside place = false

  -- the version of the finding has a form for the line
  abbrev pub has_form_at : Place → Line → Bool
  has_form_at place line = is_outside place || not (is_first_version (reach_at place) && is_of_second line)

  -- where a line leads to from a place, or the first test that it fails; `told` answers the question on the line
  abbrev pub next : Place → Bool → Line → Moved
  next place told line = when (has_form_at place line) B1 (next_by place told line)

-- a step is asked about only where its variables are those of the formula, in their order
abbrev pub IsAsked : Place → Line → Type 0
IsAsked (in_walk rows d left) (lines.Derived literals hints) = IsTrue (rises d.formula.variables (clause_of literals))
IsAsked (in_query reach asked d left) (lines.Derived literals hints) = IsTrue (rises d.formula.variables (clause_of literals))
IsAsked place line = Unit {0}

-- `told` answers the question
abbrev pub IsTold : Setting → Place → Line → Bool → Type 0
IsTold s place line told = IsAsked place line → IsTrue told ↔ Question s place line

-- the line leads there, or fails so
abbrev pub Moves : Setting → (QueryData → Formula) → Place → Line → Moved → Type 0
Moves s formula place line moved = (told : Bool) × IsTold s place line told × (moved ≡ next s formula place told line)
