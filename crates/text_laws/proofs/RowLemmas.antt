-- What each verdict says of lists of allowed rows.
use Rattle.std.proofs.Common.{◌≡◌, ◌<◌, ◌≤◌, ◌+◌, ◌⊎◌, inl, inr, ℕ, suc, List, [], ◌∷◌, length, true, refl, subst, arith}
use Rattle.scan_model.specs.InRange.{Row}
use Rattle.scan_model.specs.Pairs.{Pair, IsPairInRange, start, is_allowed, is_related, after_row}
use Rattle.scan_model.specs.Verdicts.{CandidateSet, count_of, Meets, IsInductive, IsBreakFrom, NoBreakBelow, AreAllowedFrom, AreRelatedFrom}
use Rattle.scan_model.specs.VerdictLaws.{AreRelatable}
use Rattle.scan_model.proofs.Keeping.{IsPairInRange-after_row}
use Rattle.scan_model.proofs.KeptSets.{related_always}
use Rattle.scan_model.proofs.OneEach.{one_verdict_is}
use Rattle.meaning.proofs.Cases.{by_test}
use Rattle.queries.specs.Comparisons.{Comparison}
use Rattle.comparison_files.proofs.Once.{stated_once}
use Rattle.text_laws.specs.Laws.{AreAllowed, AreRelated, HoldsFrom, IsVerdictOn, RelatedForEver, KeptForEver, DifferentIsLeast, OpenIsRelatedSoFar, NothingRunsWhereVacuous, OneVerdictOfTexts}
use Rattle.text_laws.proofs.Stated.{stated_relatable}

-- ---- what an inductive set keeps

module _ (c : Comparison) (fits : AreRelatable c.old c.new c.relation) (set : CandidateSet) (inductive : IsInductive c.old c.new c.relation set) (n : ℕ)
    (below : n < count_of c.old c.new c.relation) (inside : set n ≡ true) where
  holds_along : (pair : Pair) → IsPairInRange c.old c.new pair → Meets c.old c.new c.relation set pair → (rows : List Row) → AreAllowedFrom c.old c.new c.relation pair rows → HoldsFrom c n pair rows
  holds_along pair range meets [] ok = meets n below inside
  holds_along pair range meets (row ∷ rows) ok = (
    meets n below inside,
    holds_along (after_row c.old c.new c.relation row pair) (IsPairInRange-after_row c.old c.new c.relation fits.old_is_program fits.new_is_program fits.belongs row pair ok.0 range)
        (inductive.steps pair row range meets ok.0) rows ok.1,
  )

-- ---- allowed rows stay related, or begin with a break

module _ (c : Comparison) where
  -- a break of at most so many rows
  abbrev BreaksWithin : Pair → ℕ → Type 0
  BreaksWithin pair most = (rows : List Row) × (length rows ≤ most) × IsBreakFrom c.old c.new c.relation pair rows

  one_more : (row : Row) (pair : Pair) (most : ℕ) → is_allowed c.relation row pair ≡ true → is_related c.relation (after_row c.old c.new c.relation row pair) ≡ true
      → (rows : List Row) → length rows ≤ most → IsBreakFrom c.old c.new c.relation (after_row c.old c.new c.relation row pair) rows → BreaksWithin pair (suc most)
  one_more row pair most ok related [] few b = absurd b
  one_more row pair most ok related (next ∷ rows) few b = (row ∷ next ∷ rows, omega (arith, few), (ok, related, b))

  related_or_break : (pair : Pair) (rows : List Row) → AreAllowedFrom c.old c.new c.relation pair rows → AreRelatedFrom c.old c.new c.relation pair rows ⊎ BreaksWithin pair (length rows)
  related_or_break pair [] ok = inl tt
  related_or_break pair (row ∷ rows) ok =
      by_test (is_related c.relation (after_row c.old c.new c.relation row pair))
      (λ related. further related (related_or_break (after_row c.old c.new c.relation row pair) rows ok.1))
      (λ off. inr (row ∷ [], omega arith, (ok.0, off)))
    where
      further : is_related c.relation (after_row c.old c.new c.relation row pair) ≡ true
          → AreRelatedFrom c.old c.new c.relation (after_row c.old c.new c.relation row pair) rows ⊎ BreaksWithin (after_row c.old c.new c.relation row pair) (length rows)
          → AreRelatedFrom c.old c.new c.relation pair (row ∷ rows) ⊎ BreaksWithin pair (suc (length rows))
      further related (inl rest) = inl (related, rest)
      further related (inr b) = inr (one_more row pair (length rows) ok.0 related b.0 b.1 b.2)

  -- where there is no break of fewer rows than these, they stay related
  related_below : (most : ℕ) → NoBreakBelow c.old c.new c.relation most → (rows : List Row) → length rows < most → AreAllowed c rows → AreRelated c rows
  related_below most none rows few ok = settled (related_or_break (start c.old c.new) rows ok)
    where
      settled : AreRelated c rows ⊎ BreaksWithin (start c.old c.new) (length rows) → AreRelated c rows
      settled (inl related) = related
      settled (inr b) = absurd (none (length b.0) (omega (arith, few, b.1)) (b.0, refl, b.2))

  some_row : (scans : ℕ) (rows : List Row) → length rows ≡ scans → IsBreakFrom c.old c.new c.relation (start c.old c.new) rows → 1 ≤ scans
  some_row scans [] is b = absurd b
  some_row scans (row ∷ rows) is b = omega (arith, is)

-- ---- verdicts on texts

pub related_for_ever : RelatedForEver
related_for_ever t c kept candidates h v rows ok = related_always c.old c.new c.relation (stated_relatable t c h) v.1 rows ok

pub kept_for_ever : KeptForEver
kept_for_ever t c n h below kept rows ok =
    let fits = stated_relatable t c h in
    holds_along c fits kept.0 kept.1 n below kept.2 (start c.old c.new) (fits.old_is_program.start_in_range, fits.new_is_program.start_in_range) kept.1.starts rows ok

pub different_is_least : DifferentIsLeast
different_is_least t c scans h v = record { some_scan = some_row c scans v.2.0 v.2.1 v.2.2; within_depth = v.4; found = v.2; none_shorter = related_below c scans v.3 }

pub open_is_related_so_far : OpenIsRelatedSoFar
open_is_related_so_far t c kept candidates depth h v = (v.5, λ rows few ok. related_below c (depth + 1) v.2 rows (omega (arith, few)) ok)

pub nothing_runs : NothingRunsWhereVacuous
nothing_runs t c row h v ok = v (row, ok)

pub one_verdict : OneVerdictOfTexts
one_verdict t c d v w h k is_v is_w =
    let same = stated_once t c d h k in
    let there = subst (λ (x : Comparison). IsVerdictOn x v) same is_v in
    (same, one_verdict_is d.old d.new d.relation v w (stated_relatable t d k) there is_w)
