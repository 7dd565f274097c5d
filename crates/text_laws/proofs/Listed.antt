-- The candidates that no DROP line of a valid finding drops are the greatest inductive set.
use Rattle.std.proofs.Common.{◌≡◌, ℕ, zero, suc, ◌+◌, ◌-◌, ℤ, Bool, true, false, List, [], ◌∷◌, ◌++◌, refl, sym, ap, subst}
use Rattle.std.specs.Prelude.{nat_lt, ◌&&◌, not, ◌==◌, if◌then◌else◌}
use Rattle.clause_core.specs.Formula.{Formula}
use Rattle.clause_core.specs.Clauses.{rises}
use Rattle.finding_lines.specs.declared.line.Asked.{Asked}
use Rattle.finding_lines.specs.declared.line.Asked.TheVariants.{First, Step, Goal}
use Rattle.finding_lines.specs.declared.line.Conclusion.{Conclusion}
use Rattle.finding_lines.specs.declared.line.Conclusion.TheVariants as conclusions
use Rattle.finding_lines.specs.declared.line.Line.{Line}
use Rattle.finding_lines.specs.declared.line.Line.TheVariants as lines
use Rattle.scan_model.specs.InRange.{Row}
use Rattle.scan_model.specs.Pairs.{Pair}
use Rattle.scan_model.specs.Verdicts.{CandidateSet, IsGreatest}
use Rattle.derivation_check.specs.Checks.{Derivation}
use Rattle.derivation_check.specs.Deletions.{may_delete_all, without_all}
use Rattle.queries.specs.Comparisons.{Comparison, IsComparison}
use Rattle.queries.specs.Settings.{Setting, setting_of, first_set, meets}
use Rattle.queries.specs.Questions.{QueryData, IsQueryOf}
use Rattle.queries.specs.Meaning.{Means}
use Rattle.judgement.specs.Places.{Place, at_top, at_header, at_walks, in_walk, at_drops, at_kept, at_deep, at_scans, at_end, finished, in_log, in_query, Moved, goes, fails}
use Rattle.judgement.specs.Steps.{clause_of, hints_of, step_of, with_derived, accepts, is_empty, pair_in, row_in}
use Rattle.judgement.specs.Tests.{when, is_deep, is_walk, is_of_second, after_first, deleting, when_spent, at_top_next, at_header_next, at_walks_next, in_walk_next, at_drops_next, at_kept_next, at_deep_next, at_scans_next, at_end_next, in_log_next, in_query_next, scan_row, open_by, next_by, has_form_at, next}
use Rattle.judgement.specs.Findings.{Leads, nowhere, on}
use Rattle.judgement.specs.Known.{Known, KnownAtKept, KnownAtDeep}
use Rattle.judgement.specs.declared.answers.Reach.{Reach}
use Rattle.judgement.specs.declared.answers.Reach.TheVariants.{Untold, Unwalked, Greatest, AtLeast}
use Rattle.judgement.specs.declared.answers.Reason.{Reason}
use Rattle.judgement.specs.declared.answers.Reason.TheVariants.{B1, B2, B6, B9, B10}
use Rattle.judgement.proofs.Soundness.{known_leads}
use Rattle.finding_report.specs.Noted.{left_by, left_behind, kept_set}
use Rattle.comparison_files.specs.Comparing.{formulas_of}
use Rattle.text_laws.specs.Findings.{IfKeeps, ListedIsGreatest, ListedHoldsForEver}
use Rattle.text_laws.proofs.Stated.{stated_comparison, formulas_mean}
use Rattle.text_laws.proofs.RowLemmas.{kept_for_ever}

left_behind-append : (s : Setting) (set : CandidateSet) (ls : List Line) (line : Line) → left_behind s set (ls ++ line ∷ []) ≡ left_behind s (left_behind s set ls) (line ∷ [])
left_behind-append s set [] line = refl
left_behind-append s set (lines.Dropping numbers ∷ ls) line = left_behind-append s (left_by s set numbers) ls line
left_behind-append s set (l ∷ ls) line = left_behind-append s set ls line

module _ (c : Comparison) where
  abbrev GreatestSet : CandidateSet → Type 0
  GreatestSet set = IsGreatest c.old c.new c.relation set

  -- where the lines so far lead to this place and leave this set
  module _ (s : Setting) where
    abbrev Noted : Place → CandidateSet → Type 0
    Noted at_top left = first_set s ≡ left
    Noted (at_header reach) left = first_set s ≡ left
    Noted (at_walks count pair) left = first_set s ≡ left
    Noted (in_walk count d left_over) left = first_set s ≡ left
    Noted (at_drops reach set) left = set ≡ left
    Noted (at_kept reach set) left = set ≡ left
    Noted (at_deep reach set none) left = set ≡ left
    Noted (at_scans reach scans more pair) left = GreatestSet left
    Noted (at_end reach verdict) left = IfKeeps verdict (GreatestSet left)
    Noted (finished reach verdict) left = IfKeeps verdict (GreatestSet left)
    Noted (in_log d behind) left = Noted behind left
    Noted (in_query reach asked d left_over) left = Unit {0}

    abbrev NotedAfter : Moved → CandidateSet → Type 0
    NotedAfter (goes place) left = Noted place left
    NotedAfter (fails reason) left = Unit {0}

    noted_when : (b : Bool) (r : Reason) (m : Moved) (left : CandidateSet) → NotedAfter m left → NotedAfter (when b r m) left
    noted_when true r m left h = h
    noted_when false r m left h = tt

    noted_when_spent : (over : ℕ) (m : Moved) (left : CandidateSet) → NotedAfter m left → NotedAfter (when_spent over m) left
    noted_when_spent over (goes place) left h = noted_when (over == 0) B10 (goes place) left h
    noted_when_spent over (fails reason) left h = tt

    -- ---- one line

    noted_scan : (reach : Reach) (scans more : ℕ) (pair : Pair) (row : Row) (left : CandidateSet) → GreatestSet left → NotedAfter (scan_row s reach scans more pair row) left
    noted_scan reach scans zero pair row left g =
        noted_when (s.fits row) _ _ left (noted_when (s.allowed row pair) _ _ left (noted_when (not (s.related (s.after row pair))) _ _ left g))
    noted_scan reach scans (suc more) pair row left g =
        noted_when (s.fits row) _ _ left (noted_when (s.allowed row pair) _ _ left (noted_when (s.related (s.after row pair)) _ _ left g))

    noted_deep : (reach : Reach) (set : CandidateSet) (scans : ℕ) (b : Bool) (left : CandidateSet) → set ≡ left → GreatestSet left
        → Noted (if b then at_deep reach set scans else at_end reach (open_by s set)) left
    noted_deep reach set scans true left same g = same
    noted_deep reach set scans false left same g = g

    noted_step : (b : Bool) (d : Derivation) (behind : Place) (left : CandidateSet) → Noted behind left → Noted (if b then behind else in_log d behind) left
    noted_step true d behind left h = h
    noted_step false d behind left h = h

    noted_after_first : (reach : Reach) (left : CandidateSet) → first_set s ≡ left → Noted (after_first s reach) left
    noted_after_first Untold left h = h
    noted_after_first Unwalked left h = h
    noted_after_first (Greatest rows) left h = h
    noted_after_first (AtLeast rows) left h = h

    noted_after_walk : (count : ℕ) (pair : Pair) (b : Bool) (left : CandidateSet) → first_set s ≡ left → Noted (if b then at_walks count pair else at_drops (Greatest count) (first_set s)) left
    noted_after_walk count pair true left h = h
    noted_after_walk count pair false left h = h

    -- steps of the log of a query, and clauses that are held no more
    noted_query_step : (d : Derivation) (over : ℕ) (literals hints : List ℤ) (told : Bool) (place : Place) (left : CandidateSet) → Noted place left
        → NotedAfter (when (rises d.formula.variables (clause_of literals)) B2 (when (accepts d (step_of literals hints)) B6
        (when (not (is_empty (clause_of literals)) && (told && nat_lt 0 over)) B10 (goes place)))) left
    noted_query_step d over literals hints told place left h =
        noted_when (rises d.formula.variables (clause_of literals)) _ _ left (noted_when (accepts d (step_of literals hints)) _ _ left
        (noted_when (not (is_empty (clause_of literals)) && (told && nat_lt 0 over)) _ _ left h))

    noted_deleting : (d : Derivation) (ids : List ℤ) (place : Derivation → Place) (left : CandidateSet) → Noted (place (without_all d (hints_of ids))) left
        → NotedAfter (deleting d ids place) left
    noted_deleting d ids place left h = noted_when (may_delete_all d (hints_of ids)) _ _ left h

    module _ (formula : QueryData → Formula) where
      noted_top : (line : Line) (left : CandidateSet) → first_set s ≡ left → NotedAfter (at_top_next line) (left_behind s left (line ∷ []))
      noted_top (lines.Header version) left h = h
      noted_top line left h = noted_when (not (is_of_second line)) B1 (fails B9) (left_behind s left (line ∷ [])) tt

      noted_header : (reach : Reach) (line : Line) (left : CandidateSet) → first_set s ≡ left → NotedAfter (at_header_next s formula reach line) (left_behind s left (line ∷ []))
      noted_header reach (lines.Seen row) left h = noted_when (s.fits row) _ _ left (noted_when (s.allowed row s.start) _ _ left (noted_after_first reach left h))
      noted_header reach (lines.Log First) left h = tt
      noted_header reach (lines.Query First) left h = tt
      noted_header reach line left h = tt

      noted_walks : (count : ℕ) (pair : Pair) (line : Line) (left : CandidateSet) → first_set s ≡ left
          → NotedAfter (at_walks_next s formula count pair line) (left_behind s left (line ∷ []))
      noted_walks count pair (lines.Walk row) left h =
          noted_when (s.fits row) _ _ left (noted_when (s.allowed row pair) _ _ left (noted_after_walk (suc count) (s.after row pair) (nat_lt (suc count) s.depth) left h))
      noted_walks count pair (lines.Log asked) left h = noted_when (nat_lt 0 count && is_walk (suc count) asked) _ _ left h
      noted_walks count pair (lines.Query asked) left h = noted_when (nat_lt 0 count && is_walk (suc count) asked) _ _ left h
      noted_walks count pair line left h = tt

      noted_drops : (reach : Reach) (set : CandidateSet) (line : Line) (left : CandidateSet) → set ≡ left
          → NotedAfter (at_drops_next s formula reach set line) (left_behind s left (line ∷ []))
      noted_drops reach set (lines.Dropping numbers) left h =
          let pair = pair_in s numbers in
          let row = row_in s numbers in
          let now = left_by s left numbers in
          noted_when (s.in_range pair && s.fits row) _ _ now (noted_when (s.allowed row pair) _ _ now (noted_when (meets s set pair) _ _ now
          (noted_when (not (meets s set (s.after row pair))) _ _ now (ap (λ (k : CandidateSet). left_by s k numbers) h))))
      noted_drops reach set (lines.Log Step) left h = h
      noted_drops reach set (lines.Query Step) left h = tt
      noted_drops reach set line left h = tt

      noted_in_walk : (count : ℕ) (d : Derivation) (over : ℕ) (told : Bool) (line : Line) (left : CandidateSet) → first_set s ≡ left
          → NotedAfter (in_walk_next s formula count d over told line) (left_behind s left (line ∷ []))
      noted_in_walk count d over told (lines.Derived literals hints) left h =
          noted_query_step d over literals hints told (in_walk count (with_derived d (clause_of literals)) (over - 1)) left h
      noted_in_walk count d over told (lines.Deleted ids) left h = noted_deleting d ids (λ held. in_walk count held over) left h
      noted_in_walk count d over told line left h =
          noted_when_spent over (at_drops_next s formula (AtLeast count) (first_set s) line) (left_behind s left (line ∷ [])) (noted_drops (AtLeast count) (first_set s) line left h)

      noted_kept : (reach : Reach) (set : CandidateSet) (line : Line) (left : CandidateSet) → KnownAtKept c set → set ≡ left
          → NotedAfter (at_kept_next s formula reach set line) (left_behind s left (line ∷ []))
      noted_kept reach set (lines.Pair numbers) left k h =
          let pair = pair_in s numbers in
          let row = row_in s numbers in
          noted_when (s.in_range pair && s.fits row) _ _ left (noted_when (s.allowed row pair) _ _ left (noted_when (meets s set pair) _ _ left
          (noted_when (not (s.related (s.after row pair))) _ _ left h)))
      noted_kept reach set (lines.Log Goal) left k h = subst GreatestSet h k.greatest
      noted_kept reach set (lines.Query Goal) left k h = tt
      noted_kept reach set line left k h = tt

      noted_at_deep : (reach : Reach) (set : CandidateSet) (none : ℕ) (line : Line) (left : CandidateSet) → KnownAtDeep c set none → set ≡ left
          → NotedAfter (at_deep_next s formula reach set none line) (left_behind s left (line ∷ []))
      noted_at_deep reach set none (lines.Scan row) left k h = noted_scan reach (none + 1) none s.start row left (subst GreatestSet h k.greatest)
      noted_at_deep reach set none (lines.Log asked) left k h =
          noted_when (is_deep (none + 1) asked) _ _ left (noted_deep reach set (none + 1) (nat_lt (none + 1) s.depth) left h (subst GreatestSet h k.greatest))
      noted_at_deep reach set none (lines.Query asked) left k h = noted_when (is_deep (none + 1) asked) _ _ left tt
      noted_at_deep reach set none line left k h = tt

      noted_scans : (reach : Reach) (scans more : ℕ) (pair : Pair) (line : Line) (left : CandidateSet) → GreatestSet left
          → NotedAfter (at_scans_next s reach scans more pair line) (left_behind s left (line ∷ []))
      noted_scans reach scans more pair (lines.Scan row) left g = noted_scan reach scans more pair row left g
      noted_scans reach scans more pair line left g = tt

      noted_end : (reach : Reach) (verdict : Conclusion) (told : Bool) (line : Line) (left : CandidateSet) → IfKeeps verdict (GreatestSet left)
          → NotedAfter (at_end_next reach verdict told line) (left_behind s left (line ∷ []))
      noted_end reach verdict told (lines.End conclusion) left h = noted_when told _ _ left h
      noted_end reach verdict told line left h = tt

      noted_log : (d : Derivation) (behind : Place) (line : Line) (left : CandidateSet) → Noted behind left → NotedAfter (in_log_next d behind line) (left_behind s left (line ∷ []))
      noted_log d behind (lines.Derived literals hints) left h =
          noted_when (rises d.formula.variables (clause_of literals)) _ _ left (noted_when (accepts d (step_of literals hints)) _ _ left (noted_step (is_empty (clause_of literals)) _ behind left h))
      noted_log d behind (lines.Deleted ids) left h = noted_deleting d ids (λ held. in_log held behind) left h
      noted_log d behind line left h = tt

      noted_query : (reach : Reach) (asked : Asked) (d : Derivation) (over : ℕ) (told : Bool) (line : Line) (left : CandidateSet)
          → NotedAfter (in_query_next s reach asked d over told line) (left_behind s left (line ∷ []))
      noted_query reach asked d over told (lines.Derived literals hints) left =
          noted_query_step d over literals hints told (in_query reach asked (with_derived d (clause_of literals)) (over - 1)) left tt
      noted_query reach asked d over told (lines.Deleted ids) left = noted_deleting d ids (λ held. in_query reach asked held over) left tt
      noted_query reach asked d over told (lines.End conclusion) left = noted_when (over == 0) _ _ left (noted_when told _ _ left tt)
      noted_query reach asked d over told line left = tt

      noted_by : (place : Place) (told : Bool) (line : Line) (left : CandidateSet) → Known c formula place → Noted place left
          → NotedAfter (next_by s formula place told line) (left_behind s left (line ∷ []))
      noted_by at_top told line left k h = noted_top line left h
      noted_by (at_header reach) told line left k h = noted_header reach line left h
      noted_by (at_walks count pair) told line left k h = noted_walks count pair line left h
      noted_by (in_walk count d over) told line left k h = noted_in_walk count d over told line left h
      noted_by (at_drops reach set) told line left k h = noted_drops reach set line left h
      noted_by (at_kept reach set) told line left k h = noted_kept reach set line left k.0 h
      noted_by (at_deep reach set none) told line left k h = noted_at_deep reach set none line left k.0 h
      noted_by (at_scans reach scans more pair) told line left k h = noted_scans reach scans more pair line left h
      noted_by (at_end reach verdict) told line left k h = noted_end reach verdict told line left h
      noted_by (finished reach verdict) told line left k h = tt
      noted_by (in_log d behind) told line left k h = noted_log d behind line left h
      noted_by (in_query reach asked d over) told line left k h = noted_query reach asked d over told line left

      noted_next : (place : Place) (told : Bool) (line : Line) (left : CandidateSet) → Known c formula place → Noted place left
          → NotedAfter (next s formula place told line) (left_behind s left (line ∷ []))
      noted_next place told line left k h =
          noted_when (has_form_at s formula place line) B1 (next_by s formula place told line) (left_behind s left (line ∷ [])) (noted_by place told line left k h)

  -- ---- all lines

  module _ (formula : QueryData → Formula) (is : IsComparison c) (means : (query : QueryData) → IsQueryOf c query → Means c query (formula query)) where
    noted_leads : (ls : List Line) (place : Place) → Leads (setting_of c) formula ls place → Noted (setting_of c) place (kept_set (setting_of c) ls)
    noted_leads ls place nowhere = refl
    noted_leads ls place (on some line before after leads form moves) =
        let s = setting_of c in
        let step = noted_next s formula before moves.0 line (kept_set s some) (known_leads c formula is means some before leads) (noted_leads some before leads) in
        subst (λ (left : CandidateSet). Noted s after left) (sym (left_behind-append s (first_set s) some line))
        (subst (λ (m : Moved). NotedAfter s m (left_behind s (kept_set s some) (line ∷ []))) (sym moves.2) step)

-- ---- findings on texts

pub listed_is_greatest : ListedIsGreatest
listed_is_greatest t c limit file ls conclusion reach h =
    noted_leads c (formulas_of c) (stated_comparison t c h.0) (formulas_mean t c h.0) ls (finished reach conclusion) h.1.leads

if_keeps : (conclusion : Conclusion) (P Q : Type 0) → (P → Q) → IfKeeps conclusion P → IfKeeps conclusion Q
if_keeps conclusions.Vacuous P Q each h = tt
if_keeps (conclusions.Related kept candidates) P Q each h = each h
if_keeps (conclusions.Different scans) P Q each h = each h
if_keeps (conclusions.Open kept candidates depth) P Q each h = each h
if_keeps (conclusions.Spent asked count) P Q each h = tt

pub listed_holds_for_ever : ListedHoldsForEver
listed_holds_for_ever t c limit file ls conclusion reach h =
    if_keeps conclusion _ _ (λ g n below inside rows ok. kept_for_ever t c n h.0 below ((g n below).0 inside) rows ok) (listed_is_greatest t c limit file ls conclusion reach h)
