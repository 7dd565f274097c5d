-- Lines that all pass have their form, and the scans of their DROP lines can be run.
use Rattle.std.proofs.Common.{◌≡◌, ◌++◌, ℕ, ℤ, Bool, true, false, List, [], ◌∷◌, refl, ◌∙◌, append-nil}
use Rattle.std.specs.Prelude.{◌&&◌}
use Rattle.std.proofs.lemmas.Bool.{and_parts}
use Rattle.clause_core.specs.Formula.{Formula}
use Rattle.finding_lines.specs.declared.line.Line.{Line}
use Rattle.finding_lines.specs.declared.line.Line.TheVariants.{Dropping}
use Rattle.finding_lines.specs.Form.{IsLine}
use Rattle.finding_file.specs.Writing.{all_written}
use Rattle.queries.specs.Settings.{Setting, first_set}
use Rattle.queries.specs.Questions.{QueryData}
use Rattle.judgement.specs.Steps.{pair_in, row_in}
use Rattle.judgement.specs.Places.{Place, at_top, at_header, at_walks, in_walk, at_drops, at_kept, at_deep, at_scans, at_end, finished, in_log, in_query, Moved, goes, fails}
use Rattle.judgement.specs.Tests.{when, when_spent, drop_row, has_form_at, next, next_by, Moves}
use Rattle.judgement.specs.Findings.{Leads, nowhere, on, Stands}
use Rattle.judgement.specs.declared.answers.Reach.{Reach}
use Rattle.judgement.specs.declared.answers.Reach.TheVariants.{AtLeast}
use Rattle.judgement.specs.declared.answers.Reason.{Reason}
use Rattle.judgement.specs.declared.answers.Reason.TheVariants.{B1}
use Rattle.finding_explain.specs.Notable.{CanRun, HasScan, AreNotable, IsFileOf}

goes_apart : (after : Place) (reason : Reason) → goes after ≡ fails reason → ⊥
goes_apart after reason e = cc

when_goes : (b : Bool) (reason : Reason) (next : Moved) (after : Place) → goes after ≡ when b reason next → (b ≡ true) × (goes after ≡ next)
when_goes true reason next after e = (refl, e)
when_goes false reason next after e = absurd (goes_apart after reason e)

-- behind a spent log a line leads on only where it does without
spent_goes : (left : ℕ) (moved : Moved) (after : Place) → goes after ≡ when_spent left moved → (then : Place) × (goes then ≡ moved)
spent_goes left (goes place) after e = (place, refl)
spent_goes left (fails reason) after e = (after, e)

module _ (s : Setting) (formula : QueryData → Formula) where
  -- a line that leads on has a form in its version
  formed : (before after : Place) (told : Bool) (line : Line) → goes after ≡ next s formula before told line → goes after ≡ next_by s formula before told line
  formed before after told line e = (when_goes (has_form_at s formula before line) B1 (next_by s formula before told line) after e).1

  dropped_row : (reach : Reach) (set : ℕ → Bool) (numbers : List ℤ) (after : Place) → goes after ≡ drop_row s reach set (pair_in s numbers) (row_in s numbers) → CanRun s numbers
  dropped_row reach set numbers after e =
      let first = when_goes (s.in_range (pair_in s numbers) && s.fits (row_in s numbers)) _ _ after e in
      let second = when_goes (s.allowed (row_in s numbers) (pair_in s numbers)) _ _ after first.1 in
      ((and_parts (s.in_range (pair_in s numbers)) (s.fits (row_in s numbers)) first.0).0, second.0)

  dropped_by : (before after : Place) (told : Bool) (numbers : List ℤ) → goes after ≡ next_by s formula before told (Dropping numbers) → CanRun s numbers
  dropped_by at_top after told numbers e = absurd (goes_apart after _ e)
  dropped_by (at_header reach) after told numbers e = absurd (goes_apart after _ e)
  dropped_by (at_walks rows pair) after told numbers e = absurd (goes_apart after _ e)
  dropped_by (in_walk rows d left) after told numbers e =
      let behind = spent_goes left (drop_row s (AtLeast rows) (first_set s) (pair_in s numbers) (row_in s numbers)) after e in
      dropped_row (AtLeast rows) (first_set s) numbers behind.0 behind.1
  dropped_by (at_drops reach set) after told numbers e = dropped_row reach set numbers after e
  dropped_by (at_kept reach set) after told numbers e = absurd (goes_apart after _ e)
  dropped_by (at_deep reach set none) after told numbers e = absurd (goes_apart after _ e)
  dropped_by (at_scans reach scans more pair) after told numbers e = absurd (goes_apart after _ e)
  dropped_by (at_end reach verdict) after told numbers e = absurd (goes_apart after _ e)
  dropped_by (finished reach verdict) after told numbers e = absurd (goes_apart after _ e)
  dropped_by (in_log d behind) after told numbers e = absurd (goes_apart after _ e)
  dropped_by (in_query reach asked d left) after told numbers e = absurd (goes_apart after _ e)

  dropped : (before after : Place) (numbers : List ℤ) → Moves s formula before (Dropping numbers) (goes after) → CanRun s numbers
  dropped before after numbers moves = dropped_by before after moves.0 numbers (formed before after moves.0 (Dropping numbers) moves.2)

  has_scan : (before after : Place) (line : Line) → Moves s formula before line (goes after) → HasScan s line
  has_scan before after (Dropping numbers) moves = dropped before after numbers moves
  has_scan before after line moves = tt

  one_more : (ls : List Line) (line : Line) → AreNotable s ls → IsLine line → HasScan s line → AreNotable s (ls ++ line ∷ [])
  one_more [] line some form scan = (form, scan, tt)
  one_more (l ∷ ls) line some form scan = (some.0, some.1, one_more ls line some.2 form scan)

  leads_notable : (ls : List Line) (place : Place) → Leads s formula ls place → AreNotable s ls
  leads_notable ls place nowhere = tt
  leads_notable ls place (on some line before after leads form moves) = one_more some line (leads_notable some before leads) form (has_scan before after line moves)

  -- a finding is a file of lines from which notes are taken
  pub finding_lines : (limit : ℕ) (file : List ℕ) (ls : List Line) (place : Place) → Stands s formula limit file ls place [] → IsFileOf s limit file ls
  finding_lines limit file ls place stands = record {
    whole = stands.whole ∙ append-nil (all_written ls);
    within = stands.within;
    notable = leads_notable ls place stands.leads;
  }
