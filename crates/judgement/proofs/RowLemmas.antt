-- Rows that pass leave what is known behind them.
use Rattle.std.proofs.Common.{◌≡◌, ℕ, zero, suc, ◌+◌, ◌≤◌, Bool, true, false, not, ◌&&◌, List, [], ◌∷◌, refl, sym, ◌∙◌, subst, arith, inl, inr}
use Rattle.std.specs.Prelude.{nat_lt, if◌then◌else◌}
use Rattle.std.proofs.lemmas.Bool.{false≢true, and_parts, not-true, cases_lt, ltb-true, lt-ltb}
use Rattle.clause_core.specs.Formula.{Formula}
use Rattle.scan_model.specs.declared.verdict.Verdict.TheVariants.{Different}
use Rattle.scan_model.specs.InRange.{Row}
use Rattle.scan_model.specs.Pairs.{Pair, start, is_allowed, is_related, after_row}
use Rattle.scan_model.specs.Verdicts.{CandidateSet, HasFirstRow, IsBreakFrom}
use Rattle.verdict_laws.specs.Evidence.{Covers, held_at_start, left_on}
use Rattle.verdict_laws.specs.Reach.{HasWalk, IsReach}
use Rattle.verdict_laws.proofs.Walked.{whole_is_reach}
use Rattle.verdict_laws.proofs.Covering.{start_covers_is, start_meets_is, left_covers_is}
use Rattle.verdict_laws.proofs.Shown.{left_is_not_proved, none_below}
use Rattle.queries.specs.Comparisons.{Comparison, IsComparison}
use Rattle.queries.specs.Settings.{setting_of, meets, first_set, left_of}
use Rattle.queries.specs.Questions.{QueryData}
use Rattle.queries.proofs.SettingLemmas.{IsPairInRange-test, Meets-test, first_set-setting, left_of-setting}
use Rattle.judgement.specs.declared.answers.Reach.{Reach}
use Rattle.judgement.specs.declared.answers.Reach.TheVariants.{Untold, Unwalked, Greatest, AtLeast}
use Rattle.judgement.specs.Places.{at_walks, at_drops}
use Rattle.judgement.specs.Shown.{IsReachShown}
use Rattle.judgement.specs.Tests.{after_first, walk_row, drop_row, pair_row, scan_row}
use Rattle.judgement.specs.Known.{Walks, KnownAtWalks, KnownAtDrops, KnownAtKept, KnownAtScans, Known, KnownAfter}
use Rattle.judgement.proofs.StartLemmas.{known_when}
use Rattle.judgement.proofs.WalkLemmas.{no_rows, one_more, walk_of}

module _ (c : Comparison) (formula : QueryData → Formula) (is : IsComparison c) where
  Covers-same : (a b : CandidateSet) → ((n : ℕ) → a n ≡ b n) → Covers c.old c.new c.relation a → Covers c.old c.new c.relation b
  Covers-same a b same covers n lt kept = sym (same n) ∙ covers n lt kept

  pub known_at_drops : HasFirstRow c.old c.new c.relation → KnownAtDrops c (first_set (setting_of c))
  unfolding setting_of
  known_at_drops first = record {
    first = first;
    covers = Covers-same (held_at_start c.old c.new c.relation) (first_set (setting_of c)) (λ n. sym (first_set-setting c is n)) (start_covers_is c.old c.new c.relation);
    meets = λ n lt inside. start_meets_is c.old c.new c.relation n lt (sym (first_set-setting c is n) ∙ inside);
  }

  known_at_walks : HasFirstRow c.old c.new c.relation → KnownAtWalks c 0 (start c.old c.new)
  known_at_walks first = record { first = first; walks = no_rows c; deep = is.some_depth }

  pub known_after_first : (reach : Reach) → HasFirstRow c.old c.new c.relation → Known c formula (after_first (setting_of c) reach)
  unfolding setting_of
  known_after_first Untold first = (known_at_drops first, tt)
  known_after_first Unwalked first = known_at_walks first
  known_after_first (Greatest rows) first = known_at_walks first
  known_after_first (AtLeast rows) first = known_at_walks first

  reached : (count : ℕ) → HasWalk c.old c.new c.relation count → count ≡ c.relation.depth → IsReach c.old c.new c.relation count
  reached count rows whole = subst (IsReach c.old c.new c.relation) (sym whole) (whole_is_reach c.old c.new c.relation (subst (HasWalk c.old c.new c.relation) whole rows))

  by_rows : (count : ℕ) (pair : Pair) (b : Bool) → nat_lt count (setting_of c).depth ≡ b → HasFirstRow c.old c.new c.relation → Walks c count pair → count ≤ c.relation.depth
      → Known c formula (if b then at_walks count pair else at_drops (Greatest count) (first_set (setting_of c)))
  unfolding setting_of
  by_rows count pair true e first w le = record { first = first; walks = w; deep = ltb-true count c.relation.depth e }
  by_rows count pair false e first w le =
      elim (cases_lt count c.relation.depth) [
        | inl less ↦ absurd (false≢true (sym e ∙ lt-ltb count c.relation.depth less))
        | inr more ↦
            let whole : count ≡ c.relation.depth = omega (arith, more, le) in
            (known_at_drops first, reached count (walk_of c count pair w) whole)
      ]

  pub known_walk : (count : ℕ) (pair : Pair) (row : Row) → KnownAtWalks c count pair → KnownAfter c formula (walk_row (setting_of c) count pair row)
  unfolding setting_of
  known_walk count pair row k =
      let s = setting_of c in
      known_when c formula (s.fits row) _ _ (λ fits. known_when c formula (s.allowed row pair) _ _ (λ ok.
      by_rows (suc count) (after_row c.old c.new c.relation row pair) _ refl k.first (one_more c count pair row k.walks ok) (let lt = k.deep in omega (arith, lt))))

  pub known_drop : (reach : Reach) (set : CandidateSet) (pair : Pair) (row : Row) → KnownAtDrops c set → IsReachShown c formula reach
      → KnownAfter c formula (drop_row (setting_of c) reach set pair row)
  unfolding setting_of
  known_drop reach set pair row k shown =
      let s = setting_of c in
      let after = after_row c.old c.new c.relation row pair in
      known_when c formula (s.in_range pair && s.fits row) _ _ (λ fits. known_when c formula (s.allowed row pair) _ _ (λ ok.
      known_when c formula (meets s set pair) _ _ (λ met. known_when c formula (not (meets s set (s.after row pair))) _ _ (λ some. (
        record {
          first = k.first;
          covers = Covers-same (left_on c.old c.new c.relation set after) (left_of s set after) (λ n. sym (left_of-setting c is set after n))
              (left_covers_is c.old c.new c.relation set pair row k.covers (IsPairInRange-test c pair (and_parts (s.in_range pair) (s.fits row) fits).0) (Meets-test c is set pair met) ok);
          meets = λ n lt inside. k.meets n lt (and_parts (set n) (s.holds n after) inside).0;
        },
        shown,
      )))))

  pub known_pair : (reach : Reach) (set : CandidateSet) (pair : Pair) (row : Row) → KnownAtKept c set → IsReachShown c formula reach
      → KnownAfter c formula (pair_row (setting_of c) reach set pair row)
  unfolding setting_of
  known_pair reach set pair row k shown =
      let s = setting_of c in
      known_when c formula (s.in_range pair && s.fits row) _ _ (λ fits. known_when c formula (s.allowed row pair) _ _ (λ ok.
      known_when c formula (meets s set pair) _ _ (λ met. known_when c formula (not (s.related (s.after row pair))) _ _ (λ ends. (
        record {
          first = k.first;
          greatest = k.greatest;
          unproved = left_is_not_proved c.old c.new c.relation set pair row k.greatest (record {
            in_range = IsPairInRange-test c pair (and_parts (s.in_range pair) (s.fits row) fits).0;
            meets = Meets-test c is set pair met;
            allowed = ok;
            unrelated = not-true _ ends;
          });
          none_below = none_below c.old c.new c.relation (0 + 1) (λ e some few. absurd (omega arith));
          deep = is.some_depth;
        },
        shown,
      )))))

  break_more : (pair : Pair) (row : Row) (rows : List Row) → is_allowed c.relation row pair ≡ true
      → is_related c.relation (after_row c.old c.new c.relation row pair) ≡ true
      → IsBreakFrom c.old c.new c.relation (after_row c.old c.new c.relation row pair) rows → IsBreakFrom c.old c.new c.relation pair (row ∷ rows)
  break_more pair row [] ok related b = absurd b
  break_more pair row (next ∷ rows) ok related b = (ok, related, b)

  pub known_scan : (reach : Reach) (scans more : ℕ) (pair : Pair) (row : Row) → KnownAtScans c scans more pair → IsReachShown c formula reach
      → KnownAfter c formula (scan_row (setting_of c) reach scans more pair row)
  unfolding setting_of
  known_scan reach scans zero pair row k shown =
      let s = setting_of c in
      known_when c formula (s.fits row) _ _ (λ fits. known_when c formula (s.allowed row pair) _ _ (λ ok.
      known_when c formula (not (s.related (s.after row pair))) _ _ (λ ends.
      ((Different scans, refl, (k.first, k.unproved, k.rest (row ∷ []) (omega arith) (ok, not-true _ ends), k.none_below, k.deep)), shown))))
  known_scan reach scans (suc more) pair row k shown =
      let s = setting_of c in
      known_when c formula (s.fits row) _ _ (λ fits. known_when c formula (s.allowed row pair) _ _ (λ ok.
      known_when c formula (s.related (s.after row pair)) _ _ (λ related. (
        record {
          first = k.first;
          unproved = k.unproved;
          none_below = k.none_below;
          deep = k.deep;
          rest = λ rows long b. k.rest (row ∷ rows) (omega (arith, long)) (break_more pair row rows ok related b);
        },
        shown,
      ))))
