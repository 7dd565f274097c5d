-- A valid finding holds the END line of its verdict, and ends there.
use Rattle.std.proofs.Common.{◌≡◌, ℕ, suc, zero, ◌+◌, ◌-◌, ◌==◌, ℤ, Bool, true, false, not, ◌&&◌, if◌then◌else◌, List, [], ◌∷◌, ◌++◌, refl, sym, ap, ◌∙◌, subst, append-nil}
use Rattle.std.specs.Prelude.{nat_lt}
use Rattle.std.specs.List.{All}
use Rattle.std.proofs.lemmas.List.Elements.{All-nil, All-cons, All-append}
use Rattle.clause_core.specs.Formula.{Formula}
use Rattle.clause_core.specs.Clauses.{rises}
use Rattle.finding_lines.specs.declared.line.Asked.TheVariants.{First, Step, Goal}
use Rattle.finding_lines.specs.declared.line.Conclusion.{Conclusion}
use Rattle.finding_lines.specs.declared.line.Version.TheVariants.{One, Two}
use Rattle.finding_lines.specs.declared.line.Line.{Line}
use Rattle.finding_lines.specs.declared.line.Line.TheVariants as lines
use Rattle.finding_lines.specs.Form.{IsLine}
use Rattle.finding_lines.specs.Spelling.{written}
use Rattle.finding_file.specs.Writing.{all_written}
use Rattle.finding_file.proofs.WritingLemmas.{all_written-append}
use Rattle.derivation_check.specs.Checks.{Derivation}
use Rattle.derivation_check.specs.Deletions.{may_delete_all, without_all}
use Rattle.scan_model.specs.InRange.{Row}
use Rattle.scan_model.specs.Pairs.{Pair}
use Rattle.scan_model.specs.Verdicts.{CandidateSet}
use Rattle.queries.specs.Settings.{Setting, meets, first_set}
use Rattle.queries.specs.Questions.{QueryData, deep}
use Rattle.judgement.specs.Steps.{clause_of, hints_of, step_of, opened, with_derived, accepts, is_empty}
use Rattle.judgement.specs.Places.{Place, at_top, at_header, at_walks, in_walk, at_drops, at_kept, at_deep, at_scans, at_end, finished, in_log, in_query, Moved, goes, fails}
use Rattle.judgement.specs.Tests.{when, is_deep, is_walk, is_of_second, after_first, first_row, walk_row, drop_row, pair_row, scan_row, deleting, when_spent, at_top_next, at_walks_next, in_walk_next, at_drops_next, open_by, next_by, has_form_at, next, IsTold}
use Rattle.judgement.specs.Findings.{Leads, nowhere, on}
use Rattle.judgement.specs.declared.answers.Reach.{Reach}
use Rattle.judgement.specs.declared.answers.Reach.TheVariants.{Untold, Unwalked, Greatest, AtLeast}
use Rattle.judgement.specs.declared.answers.Reason.{Reason}
use Rattle.judgement.specs.declared.answers.Reason.TheVariants.{B1, B2, B6, B9, B10}
use Rattle.judgement_laws.specs.Shapes.{IsBehindLog}
use Rattle.prefix_laws.specs.Laws.{ValidHasEnd}

-- only the END line of a verdict leads behind it
abbrev Keeps : Line → Moved → Type 0
Keeps line (goes (finished reach verdict)) = line ≡ lines.End verdict
Keeps line (goes (in_log d behind)) = IsBehindLog behind
Keeps line (goes place) = Unit {0}
Keeps line (fails reason) = Unit {0}

abbrev Fits : Place → Type 0
Fits (in_log d behind) = IsBehindLog behind
Fits place = Unit {0}

keeps_when : (line : Line) (b : Bool) (r : Reason) (m : Moved) → (b ≡ true → Keeps line m) → Keeps line (when b r m)
keeps_when line true r m h = h refl
keeps_when line false r m h = tt

keeps_when_spent : (line : Line) (left : ℕ) (m : Moved) → Keeps line m → Keeps line (when_spent left m)
keeps_when_spent line left (goes place) h = keeps_when line (left == 0) B10 (goes place) (λ none. h)
keeps_when_spent line left (fails reason) h = tt

keeps_either : (line : Line) (b : Bool) (p q : Place) → Keeps line (goes p) → Keeps line (goes q) → Keeps line (goes (if b then p else q))
keeps_either line true p q f g = f
keeps_either line false p q f g = g

behind_either : (b : Bool) (p q : Place) → IsBehindLog p → IsBehindLog q → IsBehindLog (if b then p else q)
behind_either true p q f g = f
behind_either false p q f g = g

keeps_behind : (line : Line) (place : Place) → IsBehindLog place → Keeps line (goes place)
keeps_behind line (at_drops reach set) h = tt
keeps_behind line (at_kept reach set) h = tt
keeps_behind line (at_deep reach set none) h = tt
keeps_behind line (at_end reach verdict) h = tt
keeps_behind line at_top h = absurd h
keeps_behind line (at_header reach) h = absurd h
keeps_behind line (at_walks count pair) h = absurd h
keeps_behind line (in_walk count d left) h = absurd h
keeps_behind line (at_scans reach scans more pair) h = absurd h
keeps_behind line (finished reach verdict) h = absurd h
keeps_behind line (in_log d behind) h = absurd h
keeps_behind line (in_query reach asked d left) h = absurd h

fits_after : (line : Line) (place : Place) → Keeps line (goes place) → Fits place
fits_after line (in_log d behind) h = h
fits_after line (at_kept reach set) h = tt
fits_after line (at_deep reach set none) h = tt
fits_after line (at_end reach verdict) h = tt
fits_after line at_top h = tt
fits_after line (at_header reach) h = tt
fits_after line (at_walks count pair) h = tt
fits_after line (in_walk count d left) h = tt
fits_after line (at_drops reach set) h = tt
fits_after line (at_scans reach scans more pair) h = tt
fits_after line (finished reach verdict) h = tt
fits_after line (in_query reach asked d left) h = tt

module _ (s : Setting) (line : Line) where
  keeps_after_first : (reach : Reach) → Keeps line (goes (after_first s reach))
  keeps_after_first Untold = tt
  keeps_after_first Unwalked = tt
  keeps_after_first (Greatest rows) = tt
  keeps_after_first (AtLeast rows) = tt

  keeps_first : (reach : Reach) (row : Row) → Keeps line (first_row s reach row)
  keeps_first reach row = keeps_when line (s.fits row) _ _ (λ a. keeps_when line (s.allowed row s.start) _ _ (λ b. keeps_after_first reach))

  keeps_walk : (count : ℕ) (pair : Pair) (row : Row) → Keeps line (walk_row s count pair row)
  keeps_walk count pair row =
      keeps_when line (s.fits row) _ _ (λ a. keeps_when line (s.allowed row pair) _ _ (λ b.
      keeps_either line (nat_lt (suc count) s.depth) (at_walks (suc count) (s.after row pair)) (at_drops (Greatest (suc count)) (first_set s)) tt tt))

  keeps_drop : (reach : Reach) (set : CandidateSet) (pair : Pair) (row : Row) → Keeps line (drop_row s reach set pair row)
  keeps_drop reach set pair row =
      keeps_when line (s.in_range pair && s.fits row) _ _ (λ a. keeps_when line (s.allowed row pair) _ _ (λ b. keeps_when line (meets s set pair) _ _ (λ c.
      keeps_when line (not (meets s set (s.after row pair))) _ _ (λ d. tt))))

  keeps_pair : (reach : Reach) (set : CandidateSet) (pair : Pair) (row : Row) → Keeps line (pair_row s reach set pair row)
  keeps_pair reach set pair row =
      keeps_when line (s.in_range pair && s.fits row) _ _ (λ a. keeps_when line (s.allowed row pair) _ _ (λ b. keeps_when line (meets s set pair) _ _ (λ c.
      keeps_when line (not (s.related (s.after row pair))) _ _ (λ d. tt))))

  keeps_scan : (reach : Reach) (scans more : ℕ) (pair : Pair) (row : Row) → Keeps line (scan_row s reach scans more pair row)
  keeps_scan reach scans zero pair row =
      keeps_when line (s.fits row) _ _ (λ a. keeps_when line (s.allowed row pair) _ _ (λ b. keeps_when line (not (s.related (s.after row pair))) _ _ (λ c. tt)))
  keeps_scan reach scans (suc more) pair row =
      keeps_when line (s.fits row) _ _ (λ a. keeps_when line (s.allowed row pair) _ _ (λ b. keeps_when line (s.related (s.after row pair)) _ _ (λ c. tt)))

-- clauses that are held no more lead on in the log
keeps_deleting : (line : Line) (d : Derivation) (ids : List ℤ) (place : Derivation → Place) → ((held : Derivation) → Keeps line (goes (place held))) → Keeps line (deleting d ids place)
keeps_deleting line d ids place h = keeps_when line (may_delete_all d (hints_of ids)) _ _ (λ may. h (without_all d (hints_of ids)))

-- a step of the log of a query leads on in it
keeps_step : (line : Line) (d : Derivation) (left : ℕ) (literals hints : List ℤ) (told : Bool) (place : Place) → Keeps line (goes place)
    → Keeps line (when (rises d.formula.variables (clause_of literals)) B2 (when (accepts d (step_of literals hints)) B6
    (when (not (is_empty (clause_of literals)) && (told && nat_lt 0 left)) B10 (goes place))))
keeps_step line d left literals hints told place h =
    keeps_when line (rises d.formula.variables (clause_of literals)) _ _ (λ a. keeps_when line (accepts d (step_of literals hints)) _ _ (λ b.
    keeps_when line (not (is_empty (clause_of literals)) && (told && nat_lt 0 left)) _ _ (λ c. h)))

module _ (s : Setting) (formula : QueryData → Formula) where
  keeps_deep_log : (line : Line) (reach : Reach) (set : CandidateSet) (scans : ℕ) (b : Bool)
      → Keeps line (goes (in_log (opened (formula (deep scans))) (if b then at_deep reach set scans else at_end reach (open_by s set))))
  keeps_deep_log line reach set scans true = tt
  keeps_deep_log line reach set scans false = tt

  keeps_drops : (reach : Reach) (set : CandidateSet) (line : Line) → Keeps line (at_drops_next s formula reach set line)
  keeps_drops reach set (lines.Dropping numbers) = keeps_drop s _ reach set _ _
  keeps_drops reach set (lines.Log Step) = tt
  keeps_drops reach set (lines.Query Step) = tt
  keeps_drops reach set line = tt

  keeps_in_walk : (count : ℕ) (d : Derivation) (left : ℕ) (told : Bool) (line : Line) → Keeps line (in_walk_next s formula count d left told line)
  keeps_in_walk count d left told (lines.Derived literals hints) = keeps_step _ d left literals hints told (in_walk count (with_derived d (clause_of literals)) (left - 1)) tt
  keeps_in_walk count d left told (lines.Deleted ids) = keeps_deleting _ d ids (λ held. in_walk count held left) (λ held. tt)
  keeps_in_walk count d left told line = keeps_when_spent line left (at_drops_next s formula (AtLeast count) (first_set s) line) (keeps_drops (AtLeast count) (first_set s) line)

  keeps_walks : (count : ℕ) (pair : Pair) (line : Line) → Keeps line (at_walks_next s formula count pair line)
  keeps_walks count pair (lines.Walk row) = keeps_walk s _ count pair row
  keeps_walks count pair (lines.Log asked) = keeps_when _ (nat_lt 0 count && is_walk (suc count) asked) _ _ (λ is. tt)
  keeps_walks count pair (lines.Query asked) = keeps_when _ (nat_lt 0 count && is_walk (suc count) asked) _ _ (λ is. tt)
  keeps_walks count pair line = tt

  keeps_top : (line : Line) → Keeps line (at_top_next line)
  keeps_top (lines.Header One) = tt
  keeps_top (lines.Header Two) = tt
  keeps_top line = keeps_when line (not (is_of_second line)) B1 (fails B9) (λ first. tt)

  keeps_by : (place : Place) (told : Bool) (line : Line) → IsTold s place line told → Fits place → Keeps line (next_by s formula place told line)
  keeps_by at_top told line t h = keeps_top line
  keeps_by (at_header reach) told (lines.Seen row) t h = keeps_first s _ reach row
  keeps_by (at_header reach) told (lines.Log First) t h = tt
  keeps_by (at_header reach) told (lines.Query First) t h = tt
  keeps_by (at_header reach) told line t h = tt
  keeps_by (at_walks count pair) told line t h = keeps_walks count pair line
  keeps_by (in_walk count d left) told line t h = keeps_in_walk count d left told line
  keeps_by (at_drops reach set) told line t h = keeps_drops reach set line
  keeps_by (at_kept reach set) told (lines.Pair numbers) t h = keeps_pair s _ reach set _ _
  keeps_by (at_kept reach set) told (lines.Log Goal) t h = tt
  keeps_by (at_kept reach set) told (lines.Query Goal) t h = tt
  keeps_by (at_kept reach set) told line t h = tt
  keeps_by (at_deep reach set none) told (lines.Scan row) t h = keeps_scan s _ reach (none + 1) none _ row
  keeps_by (at_deep reach set none) told (lines.Log asked) t h = keeps_when _ (is_deep (none + 1) asked) _ _ (λ same. keeps_deep_log (lines.Log asked) reach set (none + 1) (nat_lt (none + 1) s.depth))
  keeps_by (at_deep reach set none) told (lines.Query asked) t h = keeps_when _ (is_deep (none + 1) asked) _ _ (λ same. tt)
  keeps_by (at_deep reach set none) told line t h = tt
  keeps_by (at_scans reach scans more pair) told (lines.Scan row) t h = keeps_scan s _ reach scans more pair row
  keeps_by (at_scans reach scans more pair) told line t h = tt
  keeps_by (at_end reach verdict) told (lines.End conclusion) t h = keeps_when _ told _ _ (λ same. ap lines.End ((t tt).0 same))
  keeps_by (at_end reach verdict) told line t h = tt
  keeps_by (finished reach verdict) told line t h = tt
  keeps_by (in_log d behind) told (lines.Derived literals hints) t h =
      keeps_when _ (rises d.formula.variables (clause_of literals)) _ _ (λ a. keeps_when _ (accepts d (step_of literals hints)) _ _ (λ b.
      keeps_either _ (is_empty (clause_of literals)) behind (in_log (with_derived d (clause_of literals)) behind) (keeps_behind _ behind h) h))
  keeps_by (in_log d behind) told (lines.Deleted ids) t h = keeps_deleting _ d ids (λ held. in_log held behind) (λ held. h)
  keeps_by (in_log d behind) told line t h = tt
  keeps_by (in_query reach asked d left) told (lines.Derived literals hints) t h =
      keeps_step _ d left literals hints told (in_query reach asked (with_derived d (clause_of literals)) (left - 1)) tt
  keeps_by (in_query reach asked d left) told (lines.Deleted ids) t h = keeps_deleting _ d ids (λ held. in_query reach asked held left) (λ held. tt)
  keeps_by (in_query reach asked d left) told (lines.End conclusion) t h =
      keeps_when _ (left == 0) _ _ (λ none. keeps_when _ told _ _ (λ same. ap lines.End ((t tt).0 same)))
  keeps_by (in_query reach asked d left) told line t h = tt

  keeps_next : (place : Place) (told : Bool) (line : Line) → IsTold s place line told → Fits place → Keeps line (next s formula place told line)
  keeps_next place told line t h = keeps_when line (has_form_at s formula place line) B1 (next_by s formula place told line) (λ has. keeps_by place told line t h)

  keeps_leads : (all : List Line) (place : Place) → Leads s formula all place → Fits place
  keeps_leads all place nowhere = tt
  keeps_leads all place (on some line before after leads form moves) =
      fits_after line after (subst (Keeps line) (sym moves.2) (keeps_next before moves.0 line moves.1 (keeps_leads some before leads)))

  lines_lead : (all : List Line) (place : Place) → Leads s formula all place → All IsLine all
  lines_lead all place nowhere = All-nil _
  lines_lead all place (on some line before after leads form moves) = All-append IsLine some (line ∷ []) (lines_lead some before leads) (All-cons IsLine line [] form (All-nil _))

  ends_so : (all : List Line) (place : Place) (reach : Reach) (verdict : Conclusion) → Leads s formula all place → place ≡ finished reach verdict
      → (front : List Line) × All IsLine front × IsLine (lines.End verdict) × (all_written all ≡ all_written front ++ written (lines.End verdict))
  ends_so all place reach verdict nowhere same = absurd (let h : ⊥ = cc in h)
  ends_so all place reach verdict (on some line before after leads form moves) same =
      let kept : Keeps line (goes after) = subst (Keeps line) (sym moves.2) (keeps_next before moves.0 line moves.1 (keeps_leads some before leads)) in
      let is : line ≡ lines.End verdict = subst (λ p. Keeps line (goes p)) same kept in
      (some, lines_lead some before leads, subst IsLine is form, all_written-append some line ∙ ap (λ l. all_written some ++ written l) is)

pub valid_has_end : ValidHasEnd
valid_has_end s formula limit file verdict reach (all, stands) =
    let found = ends_so s formula all (finished reach verdict) reach verdict stands.leads refl in
    (found.0, found.1, found.2, stands.whole ∙ append-nil (all_written all) ∙ found.3)
