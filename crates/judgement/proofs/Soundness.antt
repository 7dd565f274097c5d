-- Each line that passes leaves what is known at the next place, so a finding that is judged valid shows its verdict.
use Rattle.std.proofs.Common.{◌≡◌, ℕ, suc, ◌+◌, ◌<◌, ◌≤◌, Bool, true, false, not, ◌&&◌, List, [], ◌∷◌, refl, sym, ap, ◌∙◌, subst, arith, pos, negsuc, inl, inr}
use Rattle.std.specs.Prelude.{nat_lt, if◌then◌else◌, Result, Ok, Err}
use Rattle.std.proofs.lemmas.Bool.{false≢true, cases_lt, ltb-true, lt-ltb}
use Rattle.clause_core.specs.Formula.{Formula}
use Rattle.derivation_check.specs.Checks.{Derivation}
use Rattle.finding_lines.specs.declared.line.Asked.{Asked}
use Rattle.finding_lines.specs.declared.line.Asked.TheVariants.{First, Step, Goal, Deep, Walk}
use Rattle.finding_lines.specs.declared.line.Version.TheVariants.{One, Two}
use Rattle.finding_lines.specs.declared.line.Conclusion.{Conclusion}
use Rattle.finding_lines.specs.declared.line.Conclusion.TheVariants as conclusions
use Rattle.finding_lines.specs.declared.line.Line.{Line}
use Rattle.finding_lines.specs.declared.line.Line.TheVariants as lines
use Rattle.scan_model.specs.declared.verdict.Verdict.TheVariants as verdicts
use Rattle.scan_model.specs.Pairs.{Pair, start}
use Rattle.scan_model.specs.Verdicts.{CandidateSet, count_of, size_below, HasBreak, NoBreakBelow, IsProved}
use Rattle.verdict_laws.proofs.Walked.{unwalked_is_reach}
use Rattle.verdict_laws.proofs.Covering.{unleft_is_inductive, covering_is_greatest}
use Rattle.verdict_laws.proofs.Shown.{related_is_shown, open_is_shown}
use Rattle.queries.specs.Comparisons.{Comparison, IsComparison}
use Rattle.queries.specs.Settings.{setting_of, first_set}
use Rattle.queries.specs.Questions.{QueryData, first, step, goal, deep, walk, IsQueryOf}
use Rattle.queries.specs.Meaning.{Means}
use Rattle.queries.proofs.SettingLemmas.{candidates-setting}
use Rattle.judgement.specs.Places.{Place, at_top, at_header, at_walks, in_walk, at_drops, at_kept, at_deep, at_scans, at_end, finished, in_log, in_query, Moved, goes, fails}
use Rattle.judgement.specs.Tests.{is_deep, is_walk, is_of_second, at_top_next, at_header_next, at_walks_next, in_walk_next, at_drops_next, at_kept_next, at_deep_next, at_scans_next, at_end_next, next_by, has_form_at, next, after_deep, related_by, open_by, IsTold, Moves}
use Rattle.judgement.specs.Findings.{Leads, nowhere, on, IsJudged}
use Rattle.judgement.specs.Shown.{IsShown, IsReachShown, ShowsVerdict}
use Rattle.judgement.specs.Known.{KnownAtWalks, KnownAtDrops, KnownAtKept, KnownAtDeep, KnownAtScans, KnownInWalk, Known, KnownAfter}
use Rattle.judgement.specs.declared.answers.Reason.TheVariants.{B1, B9}
use Rattle.judgement.specs.declared.answers.Reach.{Reach}
use Rattle.judgement.specs.declared.answers.Reach.TheVariants.{Greatest, AtLeast}
use Rattle.judgement.specs.declared.answers.Judged.{Judged}
use Rattle.judgement.specs.declared.answers.Judged.TheVariants.{Valid, Bad}
use Rattle.judgement.specs.declared.answers.JudgeErr.{JudgeErr}
use Rattle.judgement.proofs.WalkLemmas.{walk_of}
use Rattle.judgement.proofs.StartLemmas.{known_when, no_step, known_open_log, known_open_query}
use Rattle.judgement.proofs.RowLemmas.{known_at_drops, known_after_first, known_walk, known_drop, known_pair, known_scan}
use Rattle.judgement.proofs.StepLemmas.{known_log_step, known_log_deleted, known_query_step, known_query_deleted, known_query_end, known_walk_step, known_walk_deleted, known_when_spent, walk_spent}

pub is_deep-true : (scans : ℕ) (asked : Asked) → is_deep scans asked ≡ true → asked ≡ Deep (pos scans)
is_deep-true scans (Deep (pos d)) h = let same : d ≡ scans = grind (arith, h) in ap (λ n. Deep (pos n)) same
is_deep-true scans (Deep (negsuc d)) h = absurd (false≢true h)
is_deep-true scans First h = absurd (false≢true h)
is_deep-true scans Step h = absurd (false≢true h)
is_deep-true scans Goal h = absurd (false≢true h)
is_deep-true scans (Walk r) h = absurd (false≢true h)

pub is_walk-true : (rows : ℕ) (asked : Asked) → is_walk rows asked ≡ true → asked ≡ Walk (pos rows)
is_walk-true rows (Walk (pos r)) h = let same : r ≡ rows = grind (arith, h) in ap (λ n. Walk (pos n)) same
is_walk-true rows (Walk (negsuc r)) h = absurd (false≢true h)
is_walk-true rows First h = absurd (false≢true h)
is_walk-true rows Step h = absurd (false≢true h)
is_walk-true rows Goal h = absurd (false≢true h)
is_walk-true rows (Deep d) h = absurd (false≢true h)

module _ (c : Comparison) (formula : QueryData → Formula) (is : IsComparison c) (means : (query : QueryData) → IsQueryOf c query → Means c query (formula query)) where
  known_top : (line : Line) → KnownAfter c formula (at_top_next line)
  known_top (lines.Header One) = tt
  known_top (lines.Header Two) = tt
  known_top line = known_when c formula (not (is_of_second line)) B1 (fails B9) (λ first. tt)

  known_header : (reach : Reach) (line : Line) → IsReachShown c formula reach → KnownAfter c formula (at_header_next (setting_of c) formula reach line)
  unfolding setting_of
  known_header reach (lines.Seen row) shown =
      let s = setting_of c in
      known_when c formula (s.fits row) _ _ (λ fits. known_when c formula (s.allowed row s.start) _ _ (λ ok. known_after_first c formula is reach (row, ok)))
  known_header reach (lines.Log First) shown =
      known_open_log c formula first (at_end reach conclusions.Vacuous) (means first tt)
      (λ none. ((verdicts.Vacuous, refl, λ row. none (start c.old c.new, row.0 ∷ [], (row.0, refl, row.1))), shown))
  known_header reach (lines.Query First) shown = known_open_query c formula reach First first refl tt (means first tt).sets shown
  known_header reach line shown = tt

  walk_is_query : (count : ℕ) → count < c.relation.depth → IsQueryOf c (walk (suc count))
  walk_is_query count lt = ((omega arith), (omega (arith, lt)))

  known_walks : (count : ℕ) (pair : Pair) (line : Line) → KnownAtWalks c count pair → KnownAfter c formula (at_walks_next (setting_of c) formula count pair line)
  known_walks count pair (lines.Walk row) k = known_walk c formula is count pair row k
  known_walks count pair (lines.Log asked) k =
      let is_query : IsQueryOf c (walk (suc count)) = walk_is_query count k.deep in
      known_when c formula (nat_lt 0 count && is_walk (suc count) asked) _ _ (λ some.
      known_open_log c formula (walk (suc count)) (at_drops (Greatest count) (first_set (setting_of c))) (means (walk (suc count)) is_query) (λ none. (
        known_at_drops c formula is k.first,
        unwalked_is_reach c.old c.new c.relation count (walk_of c count pair k.walks) k.deep (λ w. none (start c.old c.new, w.0, (w.1, w.2))),
      )))
  known_walks count pair (lines.Query asked) k =
      let is_query : IsQueryOf c (walk (suc count)) = walk_is_query count k.deep in
      known_when c formula (nat_lt 0 count && is_walk (suc count) asked) _ _ (λ some. record {
        first = k.first;
        walk_of_rows = walk_of c count pair k.walks;
        log = [];
        known = no_step c formula (walk (suc count)) is_query (means (walk (suc count)) is_query).sets;
      })
  known_walks count pair line k = tt

  known_drops : (reach : Reach) (set : CandidateSet) (line : Line) → KnownAtDrops c set → IsReachShown c formula reach
      → KnownAfter c formula (at_drops_next (setting_of c) formula reach set line)
  known_drops reach set (lines.Dropping numbers) k shown = known_drop c formula is reach set _ _ k shown
  known_drops reach set (lines.Log Step) k shown =
      known_open_log c formula (step set) (at_kept reach set) (means (step set) tt) (λ none. (
        record {
          first = k.first;
          greatest = covering_is_greatest c.old c.new c.relation set k.covers
              (unleft_is_inductive c.old c.new c.relation set k.meets (λ pair row leaves. none (pair, row ∷ [], (row, refl, leaves))));
        },
        shown,
      ))
  known_drops reach set (lines.Query Step) k shown = known_open_query c formula reach Step (step set) refl tt (means (step set) tt).sets shown
  known_drops reach set line k shown = tt

  known_in_walk : (count : ℕ) (d : Derivation) (left : ℕ) (told : Bool) (line : Line) → IsTold (setting_of c) (in_walk count d left) line told
      → KnownInWalk c formula count d left → KnownAfter c formula (in_walk_next (setting_of c) formula count d left told line)
  known_in_walk count d left told (lines.Derived literals hints) t k = known_walk_step c formula count d left literals hints told t k
  known_in_walk count d left told (lines.Deleted ids) t k = known_walk_deleted c formula count d left ids told k
  known_in_walk count d left told line t k =
      known_when_spent c formula left (at_drops_next (setting_of c) formula (AtLeast count) (first_set (setting_of c)) line)
      (λ all. known_drops (AtLeast count) (first_set (setting_of c)) line (known_at_drops c formula is k.first) (walk_spent c formula count d left k all))

  sized : (set : CandidateSet) → size_below (setting_of c).candidates set ≡ size_below (count_of c.old c.new c.relation) set
  sized set = ap (λ n. size_below n set) (candidates-setting c is)

  known_kept : (reach : Reach) (set : CandidateSet) (line : Line) → KnownAtKept c set → IsReachShown c formula reach
      → KnownAfter c formula (at_kept_next (setting_of c) formula reach set line)
  known_kept reach set (lines.Pair numbers) k shown = known_pair c formula is reach set _ _ k shown
  known_kept reach set (lines.Log Goal) k shown =
      known_open_log c formula (goal set) (at_end reach (related_by (setting_of c) set)) (means (goal set) tt) (λ none. (
        (
          verdicts.Related (size_below (count_of c.old c.new c.relation) set) (count_of c.old c.new c.relation),
          (let sizes : size_below (setting_of c).candidates set ≡ size_below (count_of c.old c.new c.relation) set = sized set in
              let count : (setting_of c).candidates ≡ count_of c.old c.new c.relation = candidates-setting c is in cc),
          related_is_shown c.old c.new c.relation set k.first k.greatest (λ pair row leaves. none (pair, row ∷ [], (row, refl, leaves))),
        ),
        shown,
      ))
  known_kept reach set (lines.Query Goal) k shown = known_open_query c formula reach Goal (goal set) refl tt (means (goal set) tt).sets shown
  known_kept reach set line k shown = tt

  none_more : (d : ℕ) → NoBreakBelow c.old c.new c.relation d → ¬ HasBreak c.old c.new c.relation d → NoBreakBelow c.old c.new c.relation (d + 1)
  none_more d below here e lt b =
      elim (cases_lt e d) [
        | inl less ↦ below e less b
        | inr more ↦ let same : e ≡ d = omega arith in here (subst (HasBreak c.old c.new c.relation) same b)
      ]

  known_open : (set : CandidateSet) → KnownAtKept c set → ¬ IsProved c.old c.new c.relation → NoBreakBelow c.old c.new c.relation (c.relation.depth + 1)
      → IsShown c formula (open_by (setting_of c) set)
  unfolding setting_of
  known_open set k unproved none = (
    verdicts.Open (size_below (count_of c.old c.new c.relation) set) (count_of c.old c.new c.relation) c.relation.depth,
    (let sizes : size_below (setting_of c).candidates set ≡ size_below (count_of c.old c.new c.relation) set = sized set in
        let count : (setting_of c).candidates ≡ count_of c.old c.new c.relation = candidates-setting c is in cc),
    open_is_shown c.old c.new c.relation set k.first k.greatest unproved none,
  )

  by_depth : (reach : Reach) (set : CandidateSet) (scans : ℕ) (b : Bool) → nat_lt scans (setting_of c).depth ≡ b → scans ≤ c.relation.depth → KnownAtKept c set
      → ¬ IsProved c.old c.new c.relation → NoBreakBelow c.old c.new c.relation (scans + 1) → IsReachShown c formula reach
      → Known c formula (if b then at_deep reach set scans else at_end reach (open_by (setting_of c) set))
  unfolding setting_of
  by_depth reach set scans true e le k unproved none shown =
      (record { first = k.first; greatest = k.greatest; unproved = unproved; none_below = none; deep = ltb-true scans c.relation.depth e }, shown)
  by_depth reach set scans false e le k unproved none shown =
      elim (cases_lt scans c.relation.depth) [
        | inl less ↦ absurd (false≢true (sym e ∙ lt-ltb scans c.relation.depth less))
        | inr more ↦
            let same : scans ≡ c.relation.depth = omega arith in
            (known_open set k unproved (subst (λ n. NoBreakBelow c.old c.new c.relation (n + 1)) same none), shown)
      ]

  deep_is_query : (none : ℕ) → none < c.relation.depth → IsQueryOf c (deep (none + 1))
  deep_is_query none lt = ((omega arith), (omega (arith, lt)))

  known_deep : (reach : Reach) (set : CandidateSet) (none : ℕ) (line : Line) → KnownAtDeep c set none → IsReachShown c formula reach
      → KnownAfter c formula (at_deep_next (setting_of c) formula reach set none line)
  unfolding setting_of
  known_deep reach set none (lines.Scan row) k shown =
      known_scan c formula is reach (none + 1) none (start c.old c.new) row
      (record { first = k.first; unproved = k.unproved; none_below = k.none_below; deep = (let d = k.deep in omega arith); rest = λ rows long b. (rows, long, b) })
      shown
  known_deep reach set none (lines.Log asked) k shown =
      let is_query : IsQueryOf c (deep (none + 1)) = deep_is_query none k.deep in
      known_when c formula (is_deep (none + 1) asked) _ _ (λ same.
      known_open_log c formula (deep (none + 1)) (after_deep (setting_of c) reach set (none + 1)) (means (deep (none + 1)) is_query)
      (λ no_break. by_depth reach set (none + 1) _ refl is_query.1 (record { first = k.first; greatest = k.greatest }) k.unproved
      (none_more (none + 1) k.none_below (λ b. no_break (start c.old c.new, b.0, (b.1, b.2)))) shown))
  known_deep reach set none (lines.Query asked) k shown =
      let is_query : IsQueryOf c (deep (none + 1)) = deep_is_query none k.deep in
      known_when c formula (is_deep (none + 1) asked) _ _ (λ same.
      known_open_query c formula reach asked (deep (none + 1)) (is_deep-true (none + 1) asked same) is_query (means (deep (none + 1)) is_query).sets shown)
  known_deep reach set none line k shown = tt

  known_scans : (reach : Reach) (scans more : ℕ) (pair : Pair) (line : Line) → KnownAtScans c scans more pair → IsReachShown c formula reach
      → KnownAfter c formula (at_scans_next (setting_of c) reach scans more pair line)
  known_scans reach scans more pair (lines.Scan row) k shown = known_scan c formula is reach scans more pair row k shown
  known_scans reach scans more pair line k shown = tt

  known_end : (reach : Reach) (verdict : Conclusion) (told : Bool) (line : Line) → Known c formula (at_end reach verdict) → KnownAfter c formula (at_end_next reach verdict told line)
  known_end reach verdict told (lines.End conclusion) k = known_when c formula told _ _ (λ same. k)
  known_end reach verdict told line k = tt

  known_by : (place : Place) (told : Bool) (line : Line) → IsTold (setting_of c) place line told → Known c formula place
      → KnownAfter c formula (next_by (setting_of c) formula place told line)
  known_by at_top told line t k = known_top line
  known_by (at_header reach) told line t k = known_header reach line k
  known_by (at_walks count pair) told line t k = known_walks count pair line k
  known_by (in_walk count d left) told line t k = known_in_walk count d left told line t k
  known_by (at_drops reach set) told line t k = known_drops reach set line k.0 k.1
  known_by (at_kept reach set) told line t k = known_kept reach set line k.0 k.1
  known_by (at_deep reach set none) told line t k = known_deep reach set none line k.0 k.1
  known_by (at_scans reach scans more pair) told line t k = known_scans reach scans more pair line k.0 k.1
  known_by (at_end reach verdict) told line t k = known_end reach verdict told line k
  known_by (finished reach verdict) told line t k = tt
  known_by (in_log d behind) told (lines.Derived literals hints) t k = known_log_step c formula d behind literals hints k
  known_by (in_log d behind) told (lines.Deleted ids) t k = known_log_deleted c formula d behind ids k
  known_by (in_log d behind) told line t k = tt
  known_by (in_query reach asked d left) told (lines.Derived literals hints) t k = known_query_step c formula reach asked d left literals hints told t k
  known_by (in_query reach asked d left) told (lines.Deleted ids) t k = known_query_deleted c formula reach asked d left ids told k
  known_by (in_query reach asked d left) told (lines.End conclusion) t k = known_query_end c formula reach asked d left conclusion told k
  known_by (in_query reach asked d left) told line t k = tt

  pub known_next : (place : Place) (told : Bool) (line : Line) → IsTold (setting_of c) place line told → Known c formula place
      → KnownAfter c formula (next (setting_of c) formula place told line)
  known_next place told line t k =
      known_when c formula (has_form_at (setting_of c) formula place line) B1 (next_by (setting_of c) formula place told line) (λ has. known_by place told line t k)

  pub known_moved : (place : Place) (line : Line) (moved : Moved) → Moves (setting_of c) formula place line moved → Known c formula place → KnownAfter c formula moved
  known_moved place line moved m k = subst (KnownAfter c formula) (sym m.2) (known_next place m.0 line m.1 k)

  pub known_leads : (before : List Line) (place : Place) → Leads (setting_of c) formula before place → Known c formula place
  known_leads before place nowhere = tt
  known_leads before place (on some line between there leads form moves) = known_moved between line (goes place) moves (known_leads some between leads)

  pub shows_verdict : (limit : ℕ) (file : List ℕ) (answer : Result Judged JudgeErr) → IsJudged (setting_of c) formula limit file answer → ShowsVerdict c formula answer
  shows_verdict limit file (Ok (Valid verdict reach)) j = known_leads j.0 (finished reach verdict) j.1.leads
  shows_verdict limit file (Ok (Bad line reason)) j = tt
  shows_verdict limit file (Err _) j = tt
