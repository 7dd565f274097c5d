-- The union of all inductive sets is inductive, and what it proves holds along allowed rows.
use Rattle.std.proofs.Common.{◌≡◌, ℕ, true, false, List, [], ◌∷◌, sym, ◌∙◌}
use Rattle.program_tree.specs.Tree.{ProgramData}
use Rattle.scan_model.specs.InRange.{Row}
use Rattle.scan_model.specs.Pairs.{RelationData, Pair, IsPairInRange, start, holds, is_allowed, after_row}
use Rattle.scan_model.specs.Candidates.{candidates_of, clause_at}
use Rattle.scan_model.specs.Verdicts.{CandidateSet, Meets, IsInductive, IsBreakFrom, Proves, IsProved, HasBreak, AreAllowedFrom, AreRelatedFrom}
use Rattle.scan_model.specs.VerdictLaws.{AreRelatable, GreatestIsInductive, HoldingInRangeIsInductive, FailingIsNotKept}
use Rattle.scan_model.proofs.Keeping.{IsPairInRange-after_row}

pub greatest_inductive : GreatestIsInductive
greatest_inductive old new rel set g = record {
  starts = λ n lt inside. let k = (g n lt).0 inside in k.1.starts n lt k.2;
  steps = λ pair row range meets ok n lt inside.
      let k = (g n lt).0 inside in
      k.1.steps pair row range (λ m below within. meets m below ((g m below).1 (k.0, k.1, within))) ok n lt k.2;
}

pub failing_not_kept : FailingIsNotKept
failing_not_kept old new rel set pair row n covers range meets ok lt fails k =
    let held : holds (clause_at (candidates_of old new rel) n) (after_row old new rel row pair) ≡ true =
    k.1.steps pair row range (λ m below within. meets m below (covers m below (k.0, k.1, within))) ok n lt k.2
    in
    let both : true ≡ false = sym held ∙ fails in
    cc

module _ (old new : ProgramData) (rel : RelationData) (fits : AreRelatable old new rel) where
  start_in_range : IsPairInRange old new (start old new)
  start_in_range = (fits.old_is_program.start_in_range, fits.new_is_program.start_in_range)

  stays : (row : Row) (pair : Pair) → is_allowed rel row pair ≡ true → IsPairInRange old new pair → IsPairInRange old new (after_row old new rel row pair)
  stays row pair ok range = IsPairInRange-after_row old new rel fits.old_is_program fits.new_is_program fits.belongs row pair ok range

  related_along : (set : CandidateSet) → IsInductive old new rel set → Proves old new rel set → (pair : Pair) → IsPairInRange old new pair → Meets old new rel set pair
      → (rows : List Row) → AreAllowedFrom old new rel pair rows → AreRelatedFrom old new rel pair rows
  related_along set inductive proves pair range meets [] ok = tt
  related_along set inductive proves pair range meets (row ∷ rows) ok = (
    proves pair row range meets ok.0,
    related_along set inductive proves (after_row old new rel row pair) (stays row pair ok.0 range) (inductive.steps pair row range meets ok.0) rows ok.1,
  )

  no_break_along : (set : CandidateSet) → IsInductive old new rel set → Proves old new rel set → (pair : Pair) → IsPairInRange old new pair → Meets old new rel set pair
      → (rows : List Row) → ¬ IsBreakFrom old new rel pair rows
  no_break_along set inductive proves pair range meets [] b = b
  no_break_along set inductive proves pair range meets (row ∷ []) b =
      let both : true ≡ false = sym (proves pair row range meets b.0) ∙ b.1 in
      cc
  no_break_along set inductive proves pair range meets (row ∷ next ∷ rows) b =
      no_break_along set inductive proves (after_row old new rel row pair) (stays row pair b.0 range) (inductive.steps pair row range meets b.0) (next ∷ rows) b.2

  pub related_always : IsProved old new rel → (rows : List Row) → AreAllowedFrom old new rel (start old new) rows → AreRelatedFrom old new rel (start old new) rows
  related_always p rows ok =
      let inductive = greatest_inductive old new rel p.0 p.1 in
      related_along p.0 inductive p.2 (start old new) start_in_range inductive.starts rows ok

  pub no_break : IsProved old new rel → (d : ℕ) → ¬ HasBreak old new rel d
  no_break p d b =
      let inductive = greatest_inductive old new rel p.0 p.1 in
      no_break_along p.0 inductive p.2 (start old new) start_in_range inductive.starts b.0 b.2

pub holding_inductive : HoldingInRangeIsInductive
holding_inductive old new rel set fits holds = record {
  starts = holds (start old new) (start_in_range old new rel fits);
  steps = λ pair row range meets ok. holds (after_row old new rel row pair) (stays old new rel fits row pair ok range);
}
