-- A row that drops candidates, read from what was found and tried on a pair.
use Rattle.std.proofs.Common.{◌≡◌, ◌<◌, ◌∙◌, sym, ap, subst, true, List, length, get_or, ℤ}
use Rattle.std.specs.Prelude.{Result, Ok}
use Rattle.clause_core.specs.Formula.{Formula}
use Rattle.finding_file.specs.declared.errors.WriteErr.{WriteErr}
use Rattle.finding_lines.specs.declared.line.Line.TheVariants as lines
use Rattle.scan_model.specs.InRange.{Row}
use Rattle.scan_model.specs.Pairs.{Pair}
use Rattle.scan_model.specs.Verdicts.{CandidateSet, size_below}
use Rattle.verdict_laws.specs.Evidence.{LeavesSet}
use Rattle.scan_replay.specs.Duos.{Compared, with_pair}
use Rattle.queries.specs.Comparisons.{IsComparison}
use Rattle.queries.specs.Settings.{first_set, left_of}
use Rattle.queries.specs.Questions.{QueryData, step}
use Rattle.queries.specs.Meaning.{Answers}
use Rattle.queries.specs.declared.decoded.Decoded.{Decoded}
use Rattle.queries.proofs.SettingLemmas.{test-IsPairInRange}
use Rattle.pair_trial.specs.Trials.{comparison_of, setting_in}
use Rattle.judgement.specs.Places.{Place, at_drops}
use Rattle.judgement.specs.declared.answers.Reach.{Reach}
use Rattle.invariant_prune.specs.Answers.{pair_of}
use Rattle.finding_search.specs.Desks.{Desk}
use Rattle.finding_search.specs.Passing.{Passes}
use Rattle.finding_search.specs.Shown.{numbers_of}
use Rattle.finding_search.specs.Writes.{Writes}
use Rattle.finding_search.proofs.Going.{Writes-then}
use Rattle.finding_search.proofs.RowPasses.{allowed-setting, drop_passes, drop_found, read_row, leaves_fewer, same_pair}

-- what is written behind lines that were written with another pair on trial
pub drops_then : {T : Type 0} (formula : QueryData → Formula) (first trial : Compared) (old mid new : Desk) (reach : Reach) (from set : CandidateSet) (to : T → Place) (result : Result T WriteErr)
    → trial ≡ with_pair trial.pair first → Writes (setting_in first) formula old (at_drops reach from) mid (λ (x : Unit {0}). at_drops reach set) (let r : Result (Unit {0}) WriteErr = Ok tt in r)
    → Writes (setting_in trial) formula mid (at_drops reach set) new to result → Writes (setting_in first) formula old (at_drops reach from) new to result
drops_then formula first trial old mid new reach from set to result same before after =
    Writes-then (setting_in first) formula old mid new (at_drops reach from) (λ (x : Unit {0}). at_drops reach set) to tt result before
    (subst (λ (d : Compared). Writes (setting_in d) formula mid (at_drops reach set) new to result) same after)

-- what is written from the first set on, with another pair on trial
pub starts_then : {T : Type 0} (formula : QueryData → Formula) (first trial : Compared) (old new : Desk) (reach : Reach) {to : T → Place} (result : Result T WriteErr)
    → trial ≡ with_pair trial.pair first → Writes (setting_in trial) formula old (at_drops reach (first_set (setting_in trial))) new to result
    → Writes (setting_in first) formula old (at_drops reach (first_set (setting_in first))) new to result
starts_then formula first trial old new reach {to = to} result same w =
    subst (λ (d : Compared). Writes (setting_in d) formula old (at_drops reach (first_set (setting_in d))) new to result) same w

-- the same where the set is another name of the first
pub starts_from : {T : Type 0} (formula : QueryData → Formula) (first trial : Compared) (old new : Desk) (reach : Reach) (set : CandidateSet) (pair : Pair) {to : T → Place}
    (result : Result T WriteErr) → trial ≡ with_pair pair first → set ≡ first_set (setting_in first) → Writes (setting_in trial) formula old (at_drops reach set) new to result
    → Writes (setting_in first) formula old (at_drops reach (first_set (setting_in first))) new to result
starts_from formula first trial old new reach set pair {to = to} result same is w =
    subst (λ (held : CandidateSet). Writes (setting_in first) formula old (at_drops reach held) new to result) is
    (subst (λ (d : Compared). Writes (setting_in d) formula old (at_drops reach set) new to result) same w)

-- only the pair on trial is another
pub still : (first mid last : Compared) → mid ≡ with_pair mid.pair first → last ≡ with_pair last.pair mid → last ≡ with_pair last.pair first
still first mid last one two = two ∙ ap (with_pair last.pair) one

-- the set that a row leaves
abbrev pub left_by : Compared → CandidateSet → Decoded → Row → CandidateSet
left_by trial set found row = left_of (setting_in trial) set ((setting_in trial).after row (pair_of found))

module _ (trial : Compared) (is : IsComparison (comparison_of trial)) (set : CandidateSet) (found : Decoded) (row : Row)
    (answers : Answers (comparison_of trial) (step set) (pair_of found) found.rows.items) (read : row ≡ get_or found.rows.items 0 row) where
  leaves : LeavesSet (comparison_of trial).old (comparison_of trial).new (comparison_of trial).relation set (pair_of found) row
  leaves =
      drop_found (comparison_of trial) set (pair_of found) found.rows.items answers row
      (read_row found.rows.items row (ap (λ (rows : List Row). length rows) answers.1) read)

  pub passes_read : (reach : Reach) (formula : QueryData → Formula) (numbers : List ℤ) → numbers ≡ numbers_of (pair_of found) row
      → Passes (setting_in trial) formula (at_drops reach set) (lines.Dropping numbers) (at_drops reach (left_by trial set found row))
  passes_read reach formula numbers e =
      subst (λ (n : List ℤ). Passes (setting_in trial) formula (at_drops reach set) (lines.Dropping n) (at_drops reach (left_by trial set found row))) (sym e)
      (drop_passes (comparison_of trial) formula is reach set (pair_of found) row leaves)

  pub fewer_read : (kept : CandidateSet) → kept ≡ left_by trial set found row → size_below (setting_in trial).candidates kept < size_below (setting_in trial).candidates set
  fewer_read kept e =
      subst (λ (m : CandidateSet). size_below (setting_in trial).candidates m < size_below (setting_in trial).candidates set) (sym e)
      (leaves_fewer (comparison_of trial) is set (pair_of found) row leaves)

  -- the pair on trial, and the row that is run
  module _ (there : Pair) (run : Row) (old : there.old ≡ found.old.items) (new : there.new ≡ found.new.items) (runs : run ≡ row) where
    same : there ≡ pair_of found
    same = same_pair there (pair_of found) old new

    pub in_range_read : (setting_in trial).in_range there ≡ true
    in_range_read = subst (λ (p : Pair). (setting_in trial).in_range p ≡ true) (sym same) (test-IsPairInRange (comparison_of trial) (pair_of found) leaves.in_range)

    pub allowed_read : (mid : Compared) → mid ≡ with_pair there trial → (setting_in mid).allowed run mid.pair ≡ true
    allowed_read mid set_to =
        subst (λ (d : Compared). (setting_in d).allowed run d.pair ≡ true) (sym set_to)
        (subst (λ (p : Pair). (setting_in trial).allowed run p ≡ true) (sym same)
        (subst (λ (r : Row). (setting_in trial).allowed r (pair_of found) ≡ true) (sym runs) (allowed-setting (comparison_of trial) row (pair_of found) leaves.allowed)))

    pub kept_read : (mid last : Compared) (kept : CandidateSet) → mid ≡ with_pair there trial → last ≡ with_pair ((setting_in mid).after run mid.pair) mid
        → kept ≡ left_of (setting_in last) set last.pair → kept ≡ left_by trial set found row
    kept_read mid last kept set_to ran left =
        left ∙ ap (λ (d : Compared). left_of (setting_in d) set d.pair) ran ∙ ap (λ (d : Compared). left_of (setting_in d) set ((setting_in d).after run d.pair)) set_to
        ∙ ap (λ (r : Row). left_of (setting_in trial) set ((setting_in trial).after r there)) runs
        ∙ ap (λ (p : Pair). left_of (setting_in trial) set ((setting_in trial).after row p)) same
