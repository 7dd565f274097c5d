-- Where the verdict is SPENT, or the query for one row more, the lines hold its log.
use Rattle.std.proofs.Common.{◌≡◌, ℕ, zero, suc, ◌+◌, ◌-◌, ◌<◌, Bool, true, false, not, ◌&&◌, ℤ, List, [], ◌∷◌, ◌++◌, refl, sym, ap, ◌∙◌, subst, arith, append_assoc, append-nil}
use Rattle.std.specs.Prelude.{◌==◌, ◌↔◌, nat_lt, if◌then◌else◌}
use Rattle.std.specs.List.{All, list_all}
use Rattle.std.proofs.lemmas.Bool.{and_parts, not-true, ltb-true}
use Rattle.std.proofs.lemmas.List.Elements.{All-nil, All-cons, All-append}
use Rattle.clause_core.specs.Formula.{Formula}
use Rattle.clause_core.specs.Clauses.{is_set, rises}
use Rattle.clause_core.specs.Freshness.{IsFresh}
use Rattle.clause_core.specs.declared.step.Step.{Step}
use Rattle.clause_core.proofs.Sets.{is_set-rises}
use Rattle.finding_lines.specs.declared.line.Asked.{Asked}
use Rattle.finding_lines.specs.declared.line.Asked.TheVariants.{First, Step as StepAsked, Goal}
use Rattle.finding_lines.specs.declared.line.Conclusion.{Conclusion}
use Rattle.finding_lines.specs.declared.line.Conclusion.TheVariants.{Vacuous, Related, Different, Open, Spent}
use Rattle.finding_lines.specs.declared.line.Version.TheVariants.{One, Two}
use Rattle.finding_lines.specs.declared.line.Line.{Line}
use Rattle.finding_lines.specs.declared.line.Line.TheVariants as lines
use Rattle.finding_file.specs.Writing.{all_written}
use Rattle.derivation_check.specs.Checks.{Derivation, held_of}
use Rattle.derivation_check.specs.Deletions.{may_delete_all, without_all}
use Rattle.scan_model.specs.InRange.{Row}
use Rattle.scan_model.specs.Pairs.{Pair}
use Rattle.scan_model.specs.Verdicts.{CandidateSet}
use Rattle.queries.specs.Comparisons.{Comparison, IsComparison}
use Rattle.queries.specs.Settings.{setting_of, meets, first_set}
use Rattle.queries.specs.Questions.{QueryData, first, step, goal, deep, walk, IsQueryOf}
use Rattle.queries.specs.Meaning.{Means}
use Rattle.judgement.specs.Steps.{clause_of, hints_of, step_of, opened, with_derived, accepts, is_empty}
use Rattle.judgement.specs.Places.{Place, at_top, at_header, at_walks, in_walk, at_drops, at_kept, at_deep, at_scans, at_end, finished, in_log, in_query, reach_at, Moved, goes, fails}
use Rattle.judgement.specs.declared.answers.Reach.{Reach}
use Rattle.judgement.specs.declared.answers.Reach.TheVariants.{Untold, Unwalked, Greatest, AtLeast}
use Rattle.judgement.specs.declared.answers.Reason.{Reason}
use Rattle.judgement.specs.declared.answers.Reason.TheVariants.{B1, B2, B6, B9, B10}
use Rattle.judgement.specs.Tests.{when, is_deep, is_walk, is_of_second, first_row, after_first, walk_row, drop_row, pair_row, scan_row, deleting, when_spent, at_top_next, at_header_next, at_walks_next, in_walk_next, at_drops_next, at_kept_next, at_deep_next, at_scans_next, at_end_next, in_log_next, in_query_next, open_by, next_by, has_form_at, next, IsTold}
use Rattle.judgement.specs.Findings.{Leads, nowhere, on}
use Rattle.judgement.specs.Shown.{asked_of}
use Rattle.judgement.specs.Known.{KnownInQuery, Known}
use Rattle.judgement.proofs.StartLemmas.{no_step}
use Rattle.judgement.proofs.StepLemmas.{step_more, left_more, spends}
use Rattle.judgement.proofs.Soundness.{is_deep-true, is_walk-true, known_leads}
use Rattle.judgement_laws.specs.Laws.{IsLogLine, steps_in, HoldsSpentLog, SpentIsLogged, ReachSpentIsLogged}
use Rattle.judgement_laws.specs.Shapes.{IsNotSpent, IsBehindLog, EndsInQuery, HoldLog, ReachShape, SpentShape, QueryShape, Shape, ShapeAfter}

-- ---- lines of a log

steps_in-derived : (log : List Line) (literals hints : List ℤ) → steps_in (log ++ lines.Derived literals hints ∷ []) ≡ steps_in log ++ step_of literals hints ∷ []
steps_in-derived [] literals hints = refl
steps_in-derived (lines.Derived ls hs ∷ log) literals hints = ap (λ (more : List Step). step_of ls hs ∷ more) (steps_in-derived log literals hints)
steps_in-derived (line ∷ log) literals hints = steps_in-derived log literals hints

steps_in-deleted : (log : List Line) (ids : List ℤ) → steps_in (log ++ lines.Deleted ids ∷ []) ≡ steps_in log
steps_in-deleted [] ids = refl
steps_in-deleted (lines.Derived ls hs ∷ log) ids = ap (λ (more : List Step). step_of ls hs ∷ more) (steps_in-deleted log ids)
steps_in-deleted (line ∷ log) ids = steps_in-deleted log ids

logged-more : (log : List Line) (line : Line) → All IsLogLine log → IsLogLine line → All IsLogLine (log ++ line ∷ [])
logged-more log line logged is = All-append IsLogLine log (line ∷ []) logged (All-cons IsLogLine line [] is (All-nil IsLogLine))

module _ (c : Comparison) (formula : QueryData → Formula) where
  -- ---- what has been said of reach

  reach_grows : (some more : List Line) (reach : Reach) → ReachShape c formula some reach → ReachShape c formula (some ++ more) reach
  reach_grows some more Untold h = tt
  reach_grows some more Unwalked h = tt
  reach_grows some more (Greatest rows) h = tt
  reach_grows some more (AtLeast rows) h = record {
    front = h.front;
    log = h.log;
    behind = h.behind ++ more;
    is_query = h.is_query;
    whole = ap (λ l. l ++ more) h.whole ∙ append_assoc (h.front ++ lines.Query (asked_of (walk (suc rows))) ∷ h.log) h.behind more;
    logged = h.logged;
    spends = h.spends;
  }

  -- a log without steps to come stands before the next line
  spent_behind : (some : List Line) (query : QueryData) (d : Derivation) (left : ℕ) (line : Line) → EndsInQuery c formula some query d left → (left == 0) ≡ true
      → HoldLog c formula (some ++ line ∷ []) query
  spent_behind some query d left line e none = record {
    front = e.front;
    log = e.log;
    behind = line ∷ [];
    is_query = e.known.is_query;
    whole = ap (λ l. l ++ line ∷ []) e.whole;
    logged = e.logged;
    spends = spends c formula query d left (steps_in e.log) e.known none;
  }

  -- ---- tests in a row

  module _ (all : List Line) where
    shape_when : (b : Bool) (r : Reason) (m : Moved) → (b ≡ true → ShapeAfter c formula all m) → ShapeAfter c formula all (when b r m)
    shape_when true r m h = h refl
    shape_when false r m h = tt

    shape_either : (b : Bool) (p q : Place) → Shape c formula all p → Shape c formula all q → Shape c formula all (if b then p else q)
    shape_either true p q f g = f
    shape_either false p q f g = g

    shape_when_spent : (left : ℕ) (m : Moved) → ((left == 0) ≡ true → ShapeAfter c formula all m) → ShapeAfter c formula all (when_spent left m)
    shape_when_spent left (goes place) h = shape_when (left == 0) B10 (goes place) h
    shape_when_spent left (fails reason) h = tt

    shape_after_first : (reach : Reach) → Shape c formula all (after_first (setting_of c) reach)
    shape_after_first Untold = tt
    shape_after_first Unwalked = tt
    shape_after_first (Greatest rows) = tt
    shape_after_first (AtLeast rows) = tt

    shape_first : (reach : Reach) (row : Row) → ShapeAfter c formula all (first_row (setting_of c) reach row)
    shape_first reach row =
        shape_when ((setting_of c).fits row) _ _ (λ fits. shape_when ((setting_of c).allowed row (setting_of c).start) _ _ (λ ok. shape_after_first reach))

    shape_walk : (count : ℕ) (pair : Pair) (row : Row) → ShapeAfter c formula all (walk_row (setting_of c) count pair row)
    shape_walk count pair row =
        let s = setting_of c in
        shape_when (s.fits row) _ _ (λ fits. shape_when (s.allowed row pair) _ _ (λ ok.
        shape_either (nat_lt (suc count) s.depth) (at_walks (suc count) (s.after row pair)) (at_drops (Greatest (suc count)) (first_set s)) tt tt))

    shape_drop : (reach : Reach) (set : CandidateSet) (pair : Pair) (row : Row) → ReachShape c formula all reach → ShapeAfter c formula all (drop_row (setting_of c) reach set pair row)
    shape_drop reach set pair row h =
        let s = setting_of c in
        shape_when (s.in_range pair && s.fits row) _ _ (λ fits. shape_when (s.allowed row pair) _ _ (λ ok. shape_when (meets s set pair) _ _ (λ met.
        shape_when (not (meets s set (s.after row pair))) _ _ (λ some. h))))

    shape_pair : (reach : Reach) (set : CandidateSet) (pair : Pair) (row : Row) → ReachShape c formula all reach → ShapeAfter c formula all (pair_row (setting_of c) reach set pair row)
    shape_pair reach set pair row h =
        let s = setting_of c in
        shape_when (s.in_range pair && s.fits row) _ _ (λ fits. shape_when (s.allowed row pair) _ _ (λ ok. shape_when (meets s set pair) _ _ (λ met.
        shape_when (not (s.related (s.after row pair))) _ _ (λ ends. h))))

    shape_scan : (reach : Reach) (scans more : ℕ) (pair : Pair) (row : Row) → ReachShape c formula all reach → ShapeAfter c formula all (scan_row (setting_of c) reach scans more pair row)
    shape_scan reach scans zero pair row h =
        let s = setting_of c in
        shape_when (s.fits row) _ _ (λ fits. shape_when (s.allowed row pair) _ _ (λ ok. shape_when (not (s.related (s.after row pair))) _ _ (λ ends. (tt, h))))
    shape_scan reach scans (suc more) pair row h =
        let s = setting_of c in
        shape_when (s.fits row) _ _ (λ fits. shape_when (s.allowed row pair) _ _ (λ ok. shape_when (s.related (s.after row pair)) _ _ (λ related. h)))

    shape_behind : (place : Place) → IsBehindLog place → ReachShape c formula all (reach_at place) → Shape c formula all place
    shape_behind (at_drops reach set) h r = r
    shape_behind (at_kept reach set) h r = r
    shape_behind (at_deep reach set none) h r = r
    shape_behind (at_end reach verdict) h r = (h, r)
    shape_behind at_top h r = absurd h
    shape_behind (at_header reach) h r = absurd h
    shape_behind (at_walks count pair) h r = absurd h
    shape_behind (in_walk count d left) h r = absurd h
    shape_behind (at_scans reach scans more pair) h r = absurd h
    shape_behind (finished reach verdict) h r = absurd h
    shape_behind (in_log d behind) h r = absurd h
    shape_behind (in_query reach asked d left) h r = absurd h

    shape_finished : (verdict : Conclusion) → IsNotSpent verdict → SpentShape c formula all verdict
    shape_finished (Spent asked count) h = absurd h
    shape_finished Vacuous h = tt
    shape_finished (Related kept candidates) h = tt
    shape_finished (Different scans) h = tt
    shape_finished (Open kept candidates depth) h = tt

    behind_deep : (reach : Reach) (set : CandidateSet) (scans : ℕ) (b : Bool) → ReachShape c formula all reach
        → ShapeAfter c formula all (goes (in_log (opened (formula (deep scans))) (if b then at_deep reach set scans else at_end reach (open_by (setting_of c) set))))
    behind_deep reach set scans true h = (tt, h)
    behind_deep reach set scans false h = (tt, h)

  -- ---- the log of a query

  shape_opened : (some : List Line) (asked : Asked) (query : QueryData) → asked ≡ asked_of query → IsQueryOf c query → list_all is_set (formula query).clauses ≡ true
      → EndsInQuery c formula (some ++ lines.Query asked ∷ []) query (opened (formula query)) (setting_of c).conflicts
  shape_opened some asked query named is_query sets = record {
    front = some;
    log = [];
    whole = ap (λ a. some ++ lines.Query a ∷ []) named;
    logged = All-nil IsLogLine;
    known = no_step c formula query is_query sets;
  }

  longer : (some : List Line) (query : QueryData) (line : Line) (front log : List Line) → some ≡ front ++ lines.Query (asked_of query) ∷ log
      → some ++ line ∷ [] ≡ front ++ lines.Query (asked_of query) ∷ (log ++ line ∷ [])
  longer some query line front log whole = ap (λ l. l ++ line ∷ []) whole ∙ append_assoc front (lines.Query (asked_of query) ∷ log) (line ∷ [])

  shape_step : (some : List Line) (query : QueryData) (d : Derivation) (left : ℕ) (literals hints : List ℤ) (told : Bool) (place : Place)
      → (rises d.formula.variables (clause_of literals) ≡ true → (told ≡ true) ↔ IsFresh (held_of d) (clause_of literals)) → EndsInQuery c formula some query d left
      → (EndsInQuery c formula (some ++ lines.Derived literals hints ∷ []) query (with_derived d (clause_of literals)) (left - 1) → Shape c formula (some ++ lines.Derived literals hints ∷ []) place)
      → ShapeAfter c formula (some ++ lines.Derived literals hints ∷ []) (when (rises d.formula.variables (clause_of literals)) B2 (when (accepts d (step_of literals hints)) B6
      (when (not (is_empty (clause_of literals)) && (told && nat_lt 0 left)) B10 (goes place))))
  shape_step some query d left literals hints told place is_told e onward =
      let taken = step_of literals hints in
      let all = some ++ lines.Derived literals hints ∷ [] in
      shape_when all (rises d.formula.variables (clause_of literals)) _ _ (λ ordered. shape_when all (accepts d taken) _ _ (λ ok.
      shape_when all (not (is_empty (clause_of literals)) && (told && nat_lt 0 left)) _ _ (λ more.
      let parts = and_parts (not (is_empty (clause_of literals))) (told && nat_lt 0 left) more in
      let second = and_parts told (nat_lt 0 left) parts.1 in
      onward (record {
        front = e.front;
        log = e.log ++ lines.Derived literals hints ∷ [];
        whole = longer some query (lines.Derived literals hints) e.front e.log e.whole;
        logged = logged-more e.log (lines.Derived literals hints) e.logged tt;
        known = subst (KnownInQuery c formula query (with_derived d (clause_of literals)) (left - 1)) (sym (steps_in-derived e.log literals hints))
            (step_more c formula query d left (steps_in e.log) taken e.known (is_set-rises d.formula.variables (clause_of literals) ordered) ok (not-true _ parts.0)
            ((is_told ordered).0 second.0) (ltb-true 0 left second.1));
      }))))

  shape_deleting : (some : List Line) (query : QueryData) (d : Derivation) (left : ℕ) (ids : List ℤ) (place : Derivation → Place) → EndsInQuery c formula some query d left
      → ((held : Derivation) → EndsInQuery c formula (some ++ lines.Deleted ids ∷ []) query held left → Shape c formula (some ++ lines.Deleted ids ∷ []) (place held))
      → ShapeAfter c formula (some ++ lines.Deleted ids ∷ []) (deleting d ids place)
  shape_deleting some query d left ids place e onward =
      shape_when (some ++ lines.Deleted ids ∷ []) (may_delete_all d (hints_of ids)) _ _ (λ may. onward (without_all d (hints_of ids)) (record {
        front = e.front;
        log = e.log ++ lines.Deleted ids ∷ [];
        whole = longer some query (lines.Deleted ids) e.front e.log e.whole;
        logged = logged-more e.log (lines.Deleted ids) e.logged tt;
        known = subst (KnownInQuery c formula query (without_all d (hints_of ids)) left) (sym (steps_in-deleted e.log ids))
            (left_more c formula query d left (steps_in e.log) (hints_of ids) e.known may);
      }))

  shape_spent : (some : List Line) (reach : Reach) (asked : Asked) (d : Derivation) (left : ℕ) (conclusion : Conclusion) (told : Bool)
      → IsTold (setting_of c) (in_query reach asked d left) (lines.End conclusion) told → QueryShape c formula some asked d left
      → ReachShape c formula (some ++ lines.End conclusion ∷ []) reach
      → ShapeAfter c formula (some ++ lines.End conclusion ∷ []) (in_query_next (setting_of c) reach asked d left told (lines.End conclusion))
  unfolding setting_of
  shape_spent some reach asked d left conclusion told is_told h r =
      let all = some ++ lines.End conclusion ∷ [] in
      shape_when all (left == 0) _ _ (λ none. shape_when all told _ _ (λ same. ((h.0, h.1, refl, spent_behind some h.0 d left (lines.End conclusion) h.2 none), r)))

  -- ---- place by place

  module _ (means : (query : QueryData) → IsQueryOf c query → Means c query (formula query)) (some : List Line) where
    shape_header : (reach : Reach) (line : Line) → ReachShape c formula (some ++ line ∷ []) reach → ShapeAfter c formula (some ++ line ∷ []) (at_header_next (setting_of c) formula reach line)
    shape_header reach (lines.Seen row) h = shape_first _ reach row
    shape_header reach (lines.Log First) h = (tt, h)
    shape_header reach (lines.Query First) h = ((first, refl, shape_opened some First first refl tt (means first tt).sets), h)
    shape_header reach line h = tt

    shape_walks : (count : ℕ) (pair : Pair) (line : Line) → count < c.relation.depth → ShapeAfter c formula (some ++ line ∷ []) (at_walks_next (setting_of c) formula count pair line)
    shape_walks count pair (lines.Walk row) lt = shape_walk _ count pair row
    shape_walks count pair (lines.Log asked) lt = shape_when _ (nat_lt 0 count && is_walk (suc count) asked) _ _ (λ is. (tt, tt))
    shape_walks count pair (lines.Query asked) lt =
        let is_query : IsQueryOf c (walk (suc count)) = ((omega arith), (omega (arith, lt))) in
        shape_when _ (nat_lt 0 count && is_walk (suc count) asked) _ _
        (λ is. shape_opened some asked (walk (suc count)) (is_walk-true (suc count) asked (and_parts (nat_lt 0 count) (is_walk (suc count) asked) is).1) is_query (means (walk (suc count)) is_query).sets)
    shape_walks count pair line lt = tt

    shape_drops : (reach : Reach) (set : CandidateSet) (line : Line) → ReachShape c formula (some ++ line ∷ []) reach
        → ShapeAfter c formula (some ++ line ∷ []) (at_drops_next (setting_of c) formula reach set line)
    shape_drops reach set (lines.Dropping numbers) h = shape_drop _ reach set _ _ h
    shape_drops reach set (lines.Log StepAsked) h = (tt, h)
    shape_drops reach set (lines.Query StepAsked) h = ((step set, refl, shape_opened some StepAsked (step set) refl tt (means (step set) tt).sets), h)
    shape_drops reach set line h = tt

    shape_in_walk : (count : ℕ) (d : Derivation) (left : ℕ) (told : Bool) (line : Line) → IsTold (setting_of c) (in_walk count d left) line told
        → EndsInQuery c formula some (walk (suc count)) d left → ShapeAfter c formula (some ++ line ∷ []) (in_walk_next (setting_of c) formula count d left told line)
    shape_in_walk count d left told (lines.Derived literals hints) t e =
        shape_step some (walk (suc count)) d left literals hints told (in_walk count (with_derived d (clause_of literals)) (left - 1)) t e (λ ends. ends)
    shape_in_walk count d left told (lines.Deleted ids) t e = shape_deleting some (walk (suc count)) d left ids (λ held. in_walk count held left) e (λ held ends. ends)
    shape_in_walk count d left told line t e =
        shape_when_spent (some ++ line ∷ []) left (at_drops_next (setting_of c) formula (AtLeast count) (first_set (setting_of c)) line)
        (λ none. shape_drops (AtLeast count) (first_set (setting_of c)) line (spent_behind some (walk (suc count)) d left line e none))

    shape_kept : (reach : Reach) (set : CandidateSet) (line : Line) → ReachShape c formula (some ++ line ∷ []) reach
        → ShapeAfter c formula (some ++ line ∷ []) (at_kept_next (setting_of c) formula reach set line)
    shape_kept reach set (lines.Pair numbers) h = shape_pair _ reach set _ _ h
    shape_kept reach set (lines.Log Goal) h = (tt, h)
    shape_kept reach set (lines.Query Goal) h = ((goal set, refl, shape_opened some Goal (goal set) refl tt (means (goal set) tt).sets), h)
    shape_kept reach set line h = tt

    shape_deep : (reach : Reach) (set : CandidateSet) (none : ℕ) (line : Line) → none < c.relation.depth → ReachShape c formula (some ++ line ∷ []) reach
        → ShapeAfter c formula (some ++ line ∷ []) (at_deep_next (setting_of c) formula reach set none line)
    shape_deep reach set none (lines.Scan row) lt h = shape_scan _ reach (none + 1) none _ row h
    shape_deep reach set none (lines.Log asked) lt h =
        shape_when _ (is_deep (none + 1) asked) _ _ (λ same. behind_deep _ reach set (none + 1) (nat_lt (none + 1) (setting_of c).depth) h)
    shape_deep reach set none (lines.Query asked) lt h =
        let is_query : IsQueryOf c (deep (none + 1)) = ((omega arith), (omega (arith, lt))) in
        shape_when _ (is_deep (none + 1) asked) _ _ (λ same.
        let named : asked ≡ asked_of (deep (none + 1)) = is_deep-true (none + 1) asked same in
        ((deep (none + 1), named, shape_opened some asked (deep (none + 1)) named is_query (means (deep (none + 1)) is_query).sets), h))
    shape_deep reach set none line lt h = tt

    shape_scans : (reach : Reach) (scans more : ℕ) (pair : Pair) (line : Line) → ReachShape c formula (some ++ line ∷ []) reach
        → ShapeAfter c formula (some ++ line ∷ []) (at_scans_next (setting_of c) reach scans more pair line)
    shape_scans reach scans more pair (lines.Scan row) h = shape_scan _ reach scans more pair row h
    shape_scans reach scans more pair line h = tt

    shape_end : (reach : Reach) (verdict : Conclusion) (told : Bool) (line : Line) → IsNotSpent verdict → ReachShape c formula (some ++ line ∷ []) reach
        → ShapeAfter c formula (some ++ line ∷ []) (at_end_next reach verdict told line)
    shape_end reach verdict told (lines.End conclusion) h r = shape_when _ told _ _ (λ same. (shape_finished _ verdict h, r))
    shape_end reach verdict told line h r = tt

    shape_log : (d : Derivation) (behind : Place) (line : Line) → IsBehindLog behind → ReachShape c formula (some ++ line ∷ []) (reach_at behind)
        → ShapeAfter c formula (some ++ line ∷ []) (in_log_next d behind line)
    shape_log d behind (lines.Derived literals hints) h r =
        shape_when _ (rises d.formula.variables (clause_of literals)) _ _ (λ ordered. shape_when _ (accepts d (step_of literals hints)) _ _ (λ ok.
        shape_either _ (is_empty (clause_of literals)) behind (in_log (with_derived d (clause_of literals)) behind) (shape_behind _ behind h r) (h, r)))
    shape_log d behind (lines.Deleted ids) h r = shape_when _ (may_delete_all d (hints_of ids)) _ _ (λ may. (h, r))
    shape_log d behind line h r = tt

    shape_query : (reach : Reach) (asked : Asked) (d : Derivation) (left : ℕ) (told : Bool) (line : Line) → IsTold (setting_of c) (in_query reach asked d left) line told
        → QueryShape c formula some asked d left → ReachShape c formula (some ++ line ∷ []) reach
        → ShapeAfter c formula (some ++ line ∷ []) (in_query_next (setting_of c) reach asked d left told line)
    shape_query reach asked d left told (lines.Derived literals hints) t h r =
        shape_step some h.0 d left literals hints told (in_query reach asked (with_derived d (clause_of literals)) (left - 1)) t h.2 (λ ends. ((h.0, h.1, ends), r))
    shape_query reach asked d left told (lines.Deleted ids) t h r =
        shape_deleting some h.0 d left ids (λ held. in_query reach asked held left) h.2 (λ held ends. ((h.0, h.1, ends), r))
    shape_query reach asked d left told (lines.End conclusion) t h r = shape_spent some reach asked d left conclusion told t h r
    shape_query reach asked d left told line t h r = tt

    shape_top : (line : Line) → ShapeAfter c formula (some ++ line ∷ []) (at_top_next line)
    shape_top (lines.Header One) = tt
    shape_top (lines.Header Two) = tt
    shape_top line = shape_when (some ++ line ∷ []) (not (is_of_second line)) B1 (fails B9) (λ first. tt)

    shape_by : (place : Place) (told : Bool) (line : Line) → IsTold (setting_of c) place line told → Known c formula place → Shape c formula some place
        → ShapeAfter c formula (some ++ line ∷ []) (next_by (setting_of c) formula place told line)
    shape_by at_top told line t k h = shape_top line
    shape_by (at_header reach) told line t k h = shape_header reach line (reach_grows some (line ∷ []) reach h)
    shape_by (at_walks count pair) told line t k h = shape_walks count pair line k.deep
    shape_by (in_walk count d left) told line t k h = shape_in_walk count d left told line t h
    shape_by (at_drops reach set) told line t k h = shape_drops reach set line (reach_grows some (line ∷ []) reach h)
    shape_by (at_kept reach set) told line t k h = shape_kept reach set line (reach_grows some (line ∷ []) reach h)
    shape_by (at_deep reach set none) told line t k h = shape_deep reach set none line k.0.deep (reach_grows some (line ∷ []) reach h)
    shape_by (at_scans reach scans more pair) told line t k h = shape_scans reach scans more pair line (reach_grows some (line ∷ []) reach h)
    shape_by (at_end reach verdict) told line t k h = shape_end reach verdict told line h.0 (reach_grows some (line ∷ []) reach h.1)
    shape_by (finished reach verdict) told line t k h = tt
    shape_by (in_log d behind) told line t k h = shape_log d behind line h.0 (reach_grows some (line ∷ []) (reach_at behind) h.1)
    shape_by (in_query reach asked d left) told line t k h = shape_query reach asked d left told line t h.0 (reach_grows some (line ∷ []) reach h.1)

    shape_next : (place : Place) (told : Bool) (line : Line) → IsTold (setting_of c) place line told → Known c formula place → Shape c formula some place
        → ShapeAfter c formula (some ++ line ∷ []) (next (setting_of c) formula place told line)
    shape_next place told line t k h =
        shape_when (some ++ line ∷ []) (has_form_at (setting_of c) formula place line) B1 (next_by (setting_of c) formula place told line) (λ has. shape_by place told line t k h)

  shape_leads : IsComparison c → ((query : QueryData) → IsQueryOf c query → Means c query (formula query)) → (all : List Line) (place : Place)
      → Leads (setting_of c) formula all place → Shape c formula all place
  shape_leads is means all place nowhere = tt
  shape_leads is means all place (on some line before after leads form moves) =
      subst (ShapeAfter c formula (some ++ line ∷ [])) (sym moves.2)
      (shape_next means some before moves.0 line moves.1 (known_leads c formula is means some before leads) (shape_leads is means some before leads))

  holds_log : (file : List ℕ) (all : List Line) (query : QueryData) → file ≡ all_written all ++ [] → HoldLog c formula all query → HoldsSpentLog c formula file query
  holds_log file all query whole h = record {
    front = h.front;
    log = h.log;
    behind = h.behind;
    is_query = h.is_query;
    whole = whole ∙ append-nil (all_written all) ∙ ap all_written h.whole;
    logged = h.logged;
    spends = h.spends;
  }

pub spent_is_logged : SpentIsLogged
spent_is_logged c formula is means limit file asked count reach j =
    let h : Shape c formula j.0 (finished reach (Spent asked count)) = shape_leads c formula is means j.0 (finished reach (Spent asked count)) j.1.leads in
    (h.0.0, h.0.1, h.0.2, holds_log c formula file j.0 h.0.0 j.1.whole h.0.3)

pub reach_spent_is_logged : ReachSpentIsLogged
reach_spent_is_logged c formula is means limit file verdict rows j =
    let h : Shape c formula j.0 (finished (AtLeast rows) verdict) = shape_leads c formula is means j.0 (finished (AtLeast rows) verdict) j.1.leads in
    holds_log c formula file j.0 (walk (suc rows)) j.1.whole h.1
