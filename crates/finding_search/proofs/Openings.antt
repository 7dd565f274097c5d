-- Lines that open a finding or a log, and numbers that fit.
use Rattle.std.proofs.Common.{◌≡◌, ◌≢◌, ℕ, suc, ◌+◌, ◌^◌, ◌<◌, ◌≤◌, Bool, true, false, ◌&&◌, refl, arith, pos}
use Rattle.std.specs.Prelude.{if◌then◌else◌, nat_lt}
use Rattle.std.proofs.lemmas.Bool.{eq-eqb, lt-ltb, false≢true, ltb-true, and_from}
use Rattle.clause_core.specs.Formula.{Formula}
use Rattle.finding_lines.specs.Numbers.{IsNumber}
use Rattle.finding_lines.specs.Form.{IsEnding}
use Rattle.finding_lines.proofs.NumberLemmas.{is-number}
use Rattle.finding_lines.specs.declared.line.Asked.{Asked}
use Rattle.finding_lines.specs.declared.line.Asked.TheVariants.{First, Step, Goal, Deep, Walk}
use Rattle.finding_lines.specs.declared.line.Conclusion.{Conclusion}
use Rattle.finding_lines.specs.declared.line.Conclusion.TheVariants as conclusions
use Rattle.finding_lines.specs.declared.line.Line.TheVariants as lines
use Rattle.finding_lines.specs.declared.line.Version.TheVariants.{Two}
use Rattle.scan_model.specs.Pairs.{Pair}
use Rattle.scan_model.specs.Verdicts.{CandidateSet}
use Rattle.derivation_check.specs.Checks.{Derivation}
use Rattle.queries.specs.Settings.{Setting, first_set}
use Rattle.queries.specs.Questions.{QueryData, first, step, goal, deep, walk}
use Rattle.judgement.specs.Steps.{opened}
use Rattle.judgement.specs.Places.{Place, at_top, at_header, at_walks, in_walk, at_drops, at_kept, at_deep, at_end, finished, in_log, in_query, reach_at}
use Rattle.judgement.specs.Tests.{related_by, open_by, after_deep, after_walk, is_first_version, is_walk}
use Rattle.judgement.specs.declared.answers.Reason.TheVariants.{B1, B9}
use Rattle.judgement.specs.declared.answers.Reach.{Reach}
use Rattle.judgement.specs.declared.answers.Reach.TheVariants.{Untold, Unwalked, Greatest}
use Rattle.finding_search.specs.Passing.{Passes}
use Rattle.finding_search.proofs.LogRuns.{when-true, either_version}

-- a number of 64 bits is one of a finding
pub IsNumber-few : (n : ℕ) → n < 2 ^ 64 → IsNumber (pos n)
IsNumber-few n few = is-number n few

module _ (s : Setting) (formula : QueryData → Formula) where
  pub header_passes : Passes s formula at_top (lines.Header Two) (at_header Unwalked)
  header_passes = record { form = tt; moves = (true, (λ _. (λ _. tt, λ _. refl)), refl); tight = tt }

  pub log_first : Passes s formula (at_header Unwalked) (lines.Log First) (in_log (opened (formula first)) (at_end Unwalked conclusions.Vacuous))
  log_first = record { form = tt; moves = (true, (λ _. (λ _. tt, λ _. refl)), refl); tight = tt }

  pub query_first : Passes s formula (at_header Unwalked) (lines.Query First) (in_query Unwalked First (opened (formula first)) s.conflicts)
  query_first = record { form = tt; moves = (true, (λ _. (λ _. tt, λ _. refl)), refl); tight = tt }

  -- the next row of an allowed list may not come: a log behind so many rows
  asks_next : (rows : ℕ) → 0 < rows → (nat_lt 0 rows && is_walk (suc rows) (Walk (pos (rows + 1)))) ≡ true
  asks_next rows some = and_from (nat_lt 0 rows) _ (lt-ltb 0 rows some) (eq-eqb (rows + 1) (suc rows) (omega arith))

  pub log_walk : (rows : ℕ) (pair : Pair) → 0 < rows
      → Passes s formula (at_walks rows pair) (lines.Log (Walk (pos (rows + 1)))) (in_log (opened (formula (walk (suc rows)))) (at_drops (Greatest rows) (first_set s)))
  log_walk rows pair some = record { form = tt; moves = (true, (λ _. (λ _. tt, λ _. refl)), when-true _ B9 _ _ (asks_next rows some) refl); tight = tt }

  pub query_walk : (rows : ℕ) (pair : Pair) → 0 < rows
      → Passes s formula (at_walks rows pair) (lines.Query (Walk (pos (rows + 1)))) (in_walk rows (opened (formula (walk (suc rows)))) s.conflicts)
  query_walk rows pair some = record { form = tt; moves = (true, (λ _. (λ _. tt, λ _. refl)), when-true _ B9 _ _ (asks_next rows some) refl); tight = tt }

  module _ (reach : Reach) where
    pub log_step : (set : CandidateSet) → Passes s formula (at_drops reach set) (lines.Log Step) (in_log (opened (formula (step set))) (at_kept reach set))
    log_step set = record { form = tt; moves = (true, (λ _. (λ _. tt, λ _. refl)), when-true _ B1 _ _ (either_version (is_first_version reach)) refl); tight = tt }

    pub query_step : (set : CandidateSet) → Passes s formula (at_drops reach set) (lines.Query Step) (in_query reach Step (opened (formula (step set))) s.conflicts)
    query_step set = record { form = tt; moves = (true, (λ _. (λ _. tt, λ _. refl)), when-true _ B1 _ _ (either_version (is_first_version reach)) refl); tight = tt }

    pub log_goal : (set : CandidateSet) → Passes s formula (at_kept reach set) (lines.Log Goal) (in_log (opened (formula (goal set))) (at_end reach (related_by s set)))
    log_goal set = record { form = tt; moves = (true, (λ _. (λ _. tt, λ _. refl)), when-true _ B1 _ _ (either_version (is_first_version reach)) refl); tight = tt }

    pub query_goal : (set : CandidateSet) → Passes s formula (at_kept reach set) (lines.Query Goal) (in_query reach Goal (opened (formula (goal set))) s.conflicts)
    query_goal set = record { form = tt; moves = (true, (λ _. (λ _. tt, λ _. refl)), when-true _ B1 _ _ (either_version (is_first_version reach)) refl); tight = tt }

    pub log_deep : (set : CandidateSet) (none : ℕ)
        → Passes s formula (at_deep reach set none) (lines.Log (Deep (pos (none + 1)))) (in_log (opened (formula (deep (none + 1)))) (after_deep s reach set (none + 1)))
    log_deep set none = record {
      form = tt;
      moves = (
        true,
        (λ _. (λ _. tt, λ _. refl)),
        when-true _ B1 _ _ (either_version (is_first_version reach)) (when-true _ B9 _ _ (eq-eqb (none + 1) (none + 1) refl) refl),
      );
      tight = tt;
    }

    pub query_deep : (set : CandidateSet) (none : ℕ)
        → Passes s formula (at_deep reach set none) (lines.Query (Deep (pos (none + 1)))) (in_query reach (Deep (pos (none + 1))) (opened (formula (deep (none + 1)))) s.conflicts)
    query_deep set none = record {
      form = tt;
      moves = (
        true,
        (λ _. (λ _. tt, λ _. refl)),
        when-true _ B1 _ _ (either_version (is_first_version reach)) (when-true _ B9 _ _ (eq-eqb (none + 1) (none + 1) refl) refl),
      );
      tight = tt;
    }

    pub end_passes : (verdict : Conclusion) → IsEnding verdict → Passes s formula (at_end reach verdict) (lines.End verdict) (finished reach verdict)
    end_passes verdict ending = record {
      form = ending;
      moves = (true, (λ _. (λ _. refl, λ _. refl)), when-true _ B1 _ _ (either_version (is_first_version reach)) refl);
      tight = tt;
    }

    pub spent_passes : (asked : Asked) (d : Derivation) → IsEnding (conclusions.Spent asked (pos s.conflicts))
        → Passes s formula (in_query reach asked d 0) (lines.End (conclusions.Spent asked (pos s.conflicts))) (finished reach (conclusions.Spent asked (pos s.conflicts)))
    spent_passes asked d ending = record {
      form = ending;
      moves = (true, (λ _. (λ _. refl, λ _. refl)), when-true _ B1 _ _ (either_version (is_first_version reach)) refl);
      tight = tt;
    }

  either_less : (b : Bool) (p q : Place) → b ≡ true → (if b then p else q) ≡ p
  either_less true p q e = refl
  either_less false p q e = absurd (false≢true e)

  -- before the last depth the search goes on
  pub after_deep-less : (reach : Reach) (set : CandidateSet) (none : ℕ) → none < s.depth → after_deep s reach set none ≡ at_deep reach set none
  after_deep-less reach set none less = either_less _ (at_deep reach set none) (at_end reach (open_by s set)) (lt-ltb none s.depth less)

  either_more : (b : Bool) (p q : Place) → (b ≡ true → ⊥) → (if b then p else q) ≡ q
  either_more true p q e = absurd (e refl)
  either_more false p q e = refl

  pub after_deep-all : (reach : Reach) (set : CandidateSet) (none : ℕ) → s.depth ≤ none → after_deep s reach set none ≡ at_end reach (open_by s set)
  after_deep-all reach set none all = either_more _ (at_deep reach set none) (at_end reach (open_by s set)) (λ e. let less : none < s.depth = ltb-true none s.depth e in absurd (omega (arith, less, all)))

  -- what has been said of reach stays
  either_told : (b : Bool) (p q : Place) → reach_at p ≢ Untold → reach_at q ≢ Untold → reach_at (if b then p else q) ≢ Untold
  either_told true p q f g = f
  either_told false p q f g = g

  pub after_deep-told : (reach : Reach) (set : CandidateSet) (none : ℕ) → reach ≢ Untold → reach_at (after_deep s reach set none) ≢ Untold
  after_deep-told reach set none told = either_told (nat_lt none s.depth) (at_deep reach set none) (at_end reach (open_by s set)) told told

  -- before the last row of an allowed list another may come, and behind it candidates are dropped
  pub after_walk-less : (rows : ℕ) (pair : Pair) → rows < s.depth → after_walk s rows pair ≡ at_walks rows pair
  after_walk-less rows pair less = either_less _ (at_walks rows pair) (at_drops (Greatest rows) (first_set s)) (lt-ltb rows s.depth less)

  pub after_walk-all : (rows : ℕ) (pair : Pair) → s.depth ≤ rows → after_walk s rows pair ≡ at_drops (Greatest rows) (first_set s)
  after_walk-all rows pair all =
      either_more _ (at_walks rows pair) (at_drops (Greatest rows) (first_set s)) (λ e. let less : rows < s.depth = ltb-true rows s.depth e in absurd (omega (arith, less, all)))
