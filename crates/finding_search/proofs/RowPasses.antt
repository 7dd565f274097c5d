-- Rows that were found pass as they are written, and drop a candidate.
use Rattle.std.proofs.Common.{◌≡◌, ℕ, zero, suc, ◌+◌, ◌<◌, ◌≤◌, Bool, true, false, not, ◌&&◌, List, [], ◌∷◌, ◌++◌, length, take, drop, get_or, refl, sym, ap, ◌∙◌, subst, arith, inl, inr, ℤ, pos}
use Rattle.std.specs.Prelude.{if◌then◌else◌}
use Rattle.std.proofs.Math.Seq.{take-append_seam, drop-append_seam}
use Rattle.std.proofs.lemmas.List.{length-map}
use Rattle.std.proofs.lemmas.Bool.{false≢true, cases_lt, and_parts, and_from}
use Rattle.clause_core.specs.Formula.{Formula}
use Rattle.finding_lines.specs.declared.line.Conclusion.TheVariants.{Different}
use Rattle.finding_lines.specs.declared.line.Line.TheVariants as lines
use Rattle.scan_model.specs.Scans.{ranges_of}
use Rattle.scan_model.specs.InRange.{Row, IsInRange}
use Rattle.scan_model.specs.Pairs.{Pair, start, is_allowed, is_related, after_row, fits_lines, all_hold, loaded}
use Rattle.scan_model.specs.Verdicts.{CandidateSet, size_below, IsBreakFrom}
use Rattle.scan_model.proofs.Keeping.{IsInRange-length}
use Rattle.program_tree.specs.Tree.{CellData}
use Rattle.verdict_laws.specs.Evidence.{LeavesSet, LeavesRelation}
use Rattle.queries.specs.Comparisons.{Comparison, IsComparison}
use Rattle.queries.specs.Settings.{Setting, setting_of, meets, left_of}
use Rattle.queries.specs.Questions.{QueryData, first, step, goal}
use Rattle.queries.specs.Meaning.{Answers}
use Rattle.queries.proofs.SettingLemmas.{test-IsPairInRange, test-Meets, meets-fails_at, candidates-setting, holds-setting}
use Rattle.judgement.specs.Steps.{pair_in, row_in}
use Rattle.judgement.specs.Places.{Place, at_header, at_walks, at_drops, at_kept, at_deep, at_scans, at_end, goes}
use Rattle.judgement.specs.Tests.{drop_row, pair_row, scan_row, is_first_version}
use Rattle.judgement.specs.declared.answers.Reason.TheVariants.{B1, B2, B3, B4, B5, B8}
use Rattle.judgement.specs.declared.answers.Reach.{Reach}
use Rattle.judgement.specs.declared.answers.Reach.TheVariants.{Unwalked}
use Rattle.finding_search.specs.Passing.{Passes, Runs}
use Rattle.finding_search.specs.Shown.{numbers_of, scans_of}
use Rattle.finding_search.proofs.LogRuns.{when-true, either_version}

module _ (c : Comparison) where
  pub allowed-setting : (row : Row) (pair : Pair) → is_allowed c.relation row pair ≡ true → (setting_of c).allowed row pair ≡ true
  unfolding setting_of
  allowed-setting row pair h = h

  pub fits-setting : (row : Row) (pair : Pair) → is_allowed c.relation row pair ≡ true → (setting_of c).fits row ≡ true
  unfolding setting_of
  fits-setting row pair h = (and_parts (fits_lines c.relation.inputs row) (all_hold c.relation.environment (loaded c.relation.inputs row pair)) h).0

  pub after-setting : (row : Row) (pair : Pair) → after_row c.old c.new c.relation row pair ≡ (setting_of c).after row pair
  unfolding setting_of
  after-setting row pair = refl

  pub related-setting : (pair : Pair) (b : Bool) → is_related c.relation pair ≡ b → (setting_of c).related pair ≡ b
  unfolding setting_of
  related-setting pair b h = h

  pub start-setting : start c.old c.new ≡ (setting_of c).start
  unfolding setting_of
  start-setting = refl

  length-ranges : (cells : List CellData) → length (ranges_of cells) ≡ length cells
  length-ranges cells = length-map cells (λ (cell : CellData). cell.range)

  old_length : (pair : Pair) → IsInRange (ranges_of c.old.cells) pair.old → length pair.old ≡ (setting_of c).old_cells
  unfolding setting_of
  old_length pair h = sym (IsInRange-length (ranges_of c.old.cells) pair.old h) ∙ length-ranges c.old.cells

  new_length : (pair : Pair) → IsInRange (ranges_of c.new.cells) pair.new → length pair.new ≡ (setting_of c).new_cells
  unfolding setting_of
  new_length pair h = sym (IsInRange-length (ranges_of c.new.cells) pair.new h) ∙ length-ranges c.new.cells

-- a pair and a row as numbers, and back
front_back : (n : ℕ) (xs ys : List ℤ) → length xs ≡ n → take n (xs ++ ys) ≡ xs
front_back n xs ys e = subst (λ k. take k (xs ++ ys) ≡ xs) e (take-append_seam xs ys)

rest_back : (n : ℕ) (xs ys : List ℤ) → length xs ≡ n → drop n (xs ++ ys) ≡ ys
rest_back n xs ys e = subst (λ k. drop k (xs ++ ys) ≡ ys) e (drop-append_seam xs ys)

pub same_pair : (p q : Pair) → p.old ≡ q.old → p.new ≡ q.new → p ≡ q
same_pair p q old new =
    ap (λ (x : List ℤ). let r : Pair = record { old = x; new = p.new } in r) old ∙ ap (λ (x : List ℤ). let r : Pair = record { old = q.old; new = x } in r) new

pub pair_back : (s : Setting) (pair : Pair) (row : Row) → length pair.old ≡ s.old_cells → length pair.new ≡ s.new_cells → pair_in s (numbers_of pair row) ≡ pair
pair_back s pair row old new =
    same_pair (pair_in s (numbers_of pair row)) pair (front_back s.old_cells pair.old (pair.new ++ row) old)
    (ap (λ xs. take s.new_cells xs) (rest_back s.old_cells pair.old (pair.new ++ row) old) ∙ front_back s.new_cells pair.new row new)

pub row_back : (s : Setting) (pair : Pair) (row : Row) → length pair.old ≡ s.old_cells → length pair.new ≡ s.new_cells → row_in s (numbers_of pair row) ≡ row
row_back s pair row old new =
    ap (λ xs. drop s.new_cells xs) (rest_back s.old_cells pair.old (pair.new ++ row) old) ∙ rest_back s.new_cells pair.new row new

-- the set is not met behind a row that leads out of it
pub fails_after : (c : Comparison) → IsComparison c → (set : CandidateSet) (pair : Pair) (row : Row) → LeavesSet c.old c.new c.relation set pair row
    → meets (setting_of c) set ((setting_of c).after row pair) ≡ false
fails_after c is set pair row leaves =
    let after = after_row c.old c.new c.relation row pair in
    let n = leaves.fails.0 in
    let below : n < (setting_of c).candidates = rw (candidates-setting c is) leaves.fails.1 in
    subst (λ p. meets (setting_of c) set p ≡ false) (after-setting c row pair)
    (meets-fails_at (setting_of c) set after n below leaves.fails.2 (holds-setting c is n after ∙ leaves.fails.3))

module _ (c : Comparison) (formula : QueryData → Formula) (is : IsComparison c) where
  -- a first row
  pub seen_passes : (row : Row) → is_allowed c.relation row (start c.old c.new) ≡ true
      → Passes (setting_of c) formula (at_header Unwalked) (lines.Seen row) (at_walks 0 (setting_of c).start)
  seen_passes row ok = record {
    form = tt;
    moves = (
      true,
      (λ _. (λ _. tt, λ _. refl)),
      when-true _ B2 _ _ (fits-setting c row (start c.old c.new) ok) (when-true _ B3 _ _ (subst (λ p. (setting_of c).allowed row p ≡ true) (start-setting c) (allowed-setting c row (start c.old c.new) ok)) refl),
    );
    tight = tt;
  }

  not-false : (b : Bool) → b ≡ false → not b ≡ true
  not-false b e = ap not e

  -- a row that drops candidates
  pub drop_passes : (reach : Reach) (set : CandidateSet) (pair : Pair) (row : Row) → LeavesSet c.old c.new c.relation set pair row
      → Passes (setting_of c) formula (at_drops reach set) (lines.Dropping (numbers_of pair row)) (at_drops reach (left_of (setting_of c) set ((setting_of c).after row pair)))
  drop_passes reach set pair row leaves =
      let s = setting_of c in
      let old = old_length c pair leaves.in_range.0 in
      let new = new_length c pair leaves.in_range.1 in
      let passes : goes (at_drops reach (left_of (setting_of c) set ((setting_of c).after row pair))) ≡ drop_row (setting_of c) reach set pair row =
      when-true _ B2 _ _ (and_from ((setting_of c).in_range pair) ((setting_of c).fits row) (test-IsPairInRange c pair leaves.in_range) (fits-setting c row pair leaves.allowed))
      (when-true _ B3 _ _ (allowed-setting c row pair leaves.allowed) (when-true _ B4 _ _ (test-Meets c is set pair leaves.meets)
      (when-true _ B5 _ _ (not-false (meets (setting_of c) set ((setting_of c).after row pair)) (fails_after c is set pair row leaves)) refl)))
      in
      record {
        form = tt;
        moves = (
          true,
          (λ _. (λ _. tt, λ _. refl)),
          when-true _ B1 _ _ (either_version (is_first_version reach)) (passes ∙ ap (λ p. drop_row (setting_of c) reach set p row) (sym (pair_back (setting_of c) pair row old new))
              ∙ ap (λ r. drop_row (setting_of c) reach set (pair_in (setting_of c) (numbers_of pair row)) r) (sym (row_back (setting_of c) pair row old new))),
        );
        tight = tt;
      }

  -- a row that leads out of the relation
  pub pair_passes : (reach : Reach) (set : CandidateSet) (pair : Pair) (row : Row) → LeavesRelation c.old c.new c.relation set pair row
      → Passes (setting_of c) formula (at_kept reach set) (lines.Pair (numbers_of pair row)) (at_deep reach set 0)
  pair_passes reach set pair row leaves =
      let old = old_length c pair leaves.in_range.0 in
      let new = new_length c pair leaves.in_range.1 in
      let apart : (setting_of c).related ((setting_of c).after row pair) ≡ false =
      subst (λ p. (setting_of c).related p ≡ false) (after-setting c row pair) (related-setting c (after_row c.old c.new c.relation row pair) false leaves.unrelated)
      in
      let passes : goes (at_deep reach set 0) ≡ pair_row (setting_of c) reach set pair row =
      when-true _ B2 _ _ (and_from ((setting_of c).in_range pair) ((setting_of c).fits row) (test-IsPairInRange c pair leaves.in_range) (fits-setting c row pair leaves.allowed))
      (when-true _ B3 _ _ (allowed-setting c row pair leaves.allowed) (when-true _ B4 _ _ (test-Meets c is set pair leaves.meets)
      (when-true _ B8 _ _ (not-false ((setting_of c).related ((setting_of c).after row pair)) apart) refl)))
      in
      record {
        form = tt;
        moves = (
          true,
          (λ _. (λ _. tt, λ _. refl)),
          when-true _ B1 _ _ (either_version (is_first_version reach)) (passes ∙ ap (λ p. pair_row (setting_of c) reach set p row) (sym (pair_back (setting_of c) pair row old new))
              ∙ ap (λ r. pair_row (setting_of c) reach set (pair_in (setting_of c) (numbers_of pair row)) r) (sym (row_back (setting_of c) pair row old new))),
        );
        tight = tt;
      }

  scan_last : (reach : Reach) (scans : ℕ) (pair : Pair) (row : Row) → IsBreakFrom c.old c.new c.relation pair (row ∷ [])
      → goes (at_end reach (Different (pos scans))) ≡ scan_row (setting_of c) reach scans 0 pair row
  scan_last reach scans pair row b =
      let apart : (setting_of c).related ((setting_of c).after row pair) ≡ false =
      subst (λ p. (setting_of c).related p ≡ false) (after-setting c row pair) (related-setting c (after_row c.old c.new c.relation row pair) false b.1)
      in
      when-true _ B2 _ _ (fits-setting c row pair b.0) (when-true _ B3 _ _ (allowed-setting c row pair b.0) (when-true _ B8 _ _ (not-false _ apart) refl))

  scan_more : (reach : Reach) (scans more : ℕ) (pair : Pair) (row : Row) → is_allowed c.relation row pair ≡ true → is_related c.relation (after_row c.old c.new c.relation row pair) ≡ true
      → goes (at_scans reach scans more (after_row c.old c.new c.relation row pair)) ≡ scan_row (setting_of c) reach scans (suc more) pair row
  scan_more reach scans more pair row ok related =
      let same : (setting_of c).related ((setting_of c).after row pair) ≡ true =
      subst (λ p. (setting_of c).related p ≡ true) (after-setting c row pair) (related-setting c (after_row c.old c.new c.relation row pair) true related)
      in
      when-true _ B2 _ _ (fits-setting c row pair ok) (when-true _ B3 _ _ (allowed-setting c row pair ok)
      (when-true _ B8 _ _ same (ap (λ p. goes (at_scans reach scans more p)) (after-setting c row pair))))

  -- rows that are a break, from a place where the next is tested so
  scans_run : (reach : Reach) (scans more : ℕ) (pair : Pair) (place : Place)
      → ((row : Row) (after : Place) → goes after ≡ scan_row (setting_of c) reach scans more pair row → Passes (setting_of c) formula place (lines.Scan row) after)
      → (rows : List Row) → length rows ≡ more + 1 → IsBreakFrom c.old c.new c.relation pair rows
      → Runs (setting_of c) formula place (scans_of rows) (at_end reach (Different (pos scans)))
  scans_run reach scans more pair place passes [] long b = absurd b
  scans_run reach scans zero pair place passes (row ∷ []) long b = (at_end reach (Different (pos scans)), passes row _ (scan_last reach scans pair row b), refl)
  scans_run reach scans (suc more) pair place passes (row ∷ []) long b = absurd (omega (arith, long))
  scans_run reach scans zero pair place passes (row ∷ next ∷ rows) long b = absurd (omega (arith, long))
  scans_run reach scans (suc more) pair place passes (row ∷ next ∷ rows) long b =
      let after = after_row c.old c.new c.relation row pair in (
        at_scans reach scans more after,
        passes row _ (scan_more reach scans more pair row b.0 b.1),
        scans_run reach scans more after (at_scans reach scans more after)
            (λ r place e. record { form = tt; moves = (true, (λ _. (λ _. tt, λ _. refl)), when-true _ B1 _ _ (either_version (is_first_version reach)) e); tight = tt })
            (next ∷ rows) (omega (arith, long)) b.2,
      )

  -- a break of one scan more than searched so far
  pub break_runs : (reach : Reach) (set : CandidateSet) (none : ℕ) (rows : List Row) → length rows ≡ none + 1 → IsBreakFrom c.old c.new c.relation (start c.old c.new) rows
      → Runs (setting_of c) formula (at_deep reach set none) (scans_of rows) (at_end reach (Different (pos (none + 1))))
  break_runs reach set none rows long b =
      scans_run reach (none + 1) none (start c.old c.new) (at_deep reach set none)
      (λ row place e. record {
        form = tt;
        moves = (
          true,
          (λ _. (λ _. tt, λ _. refl)),
          when-true _ B1 _ _ (either_version (is_first_version reach)) (e ∙ ap (λ p. scan_row (setting_of c) reach (none + 1) none p row) (start-setting c)),
        );
        tight = tt;
      })
      rows long b

-- a set that a row leads out of loses a candidate
fewer_or_same : (a b : Bool) → (if a && b then 1 else 0) ≤ (if a then 1 else 0)
fewer_or_same true true = omega arith
fewer_or_same true false = omega arith
fewer_or_same false b = omega arith

size-left_of : (s : Setting) (set : CandidateSet) (pair : Pair) (bound : ℕ) → size_below bound (left_of s set pair) ≤ size_below bound set
size-left_of s set pair zero = omega arith
size-left_of s set pair (suc m) =
    let here : (if set m && s.holds m pair then 1 else 0) ≤ (if set m then 1 else 0) = fewer_or_same (set m) (s.holds m pair) in
    let below : size_below m (left_of s set pair) ≤ size_below m set = size-left_of s set pair m in
    omega (arith, here, below)

one_fewer : (a b : Bool) → a ≡ true → b ≡ false → (if a && b then 1 else 0) < (if a then 1 else 0)
one_fewer true true i f = absurd (false≢true (sym f))
one_fewer true false i f = omega arith
one_fewer false b i f = absurd (false≢true i)

pub size_falls : (s : Setting) (set : CandidateSet) (pair : Pair) (bound n : ℕ) → n < bound → set n ≡ true → s.holds n pair ≡ false
    → size_below bound (left_of s set pair) < size_below bound set
size_falls s set pair zero n lt inside fails = absurd (omega (arith, lt))
size_falls s set pair (suc m) n lt inside fails =
    elim (cases_lt n m) [
      | inl less ↦
          let here : (if set m && s.holds m pair then 1 else 0) ≤ (if set m then 1 else 0) = fewer_or_same (set m) (s.holds m pair) in
          let below : size_below m (left_of s set pair) < size_below m set = size_falls s set pair m n less inside fails in
          omega (arith, here, below)
      | inr more ↦
          let same : n ≡ m = omega arith in
          let here : (if set m && s.holds m pair then 1 else 0) < (if set m then 1 else 0) =
          one_fewer (set m) (s.holds m pair) (subst (λ k. set k ≡ true) same inside) (subst (λ k. s.holds k pair ≡ false) same fails)
          in
          let below : size_below m (left_of s set pair) ≤ size_below m set = size-left_of s set pair m in
          omega (arith, here, below)
    ]

pub leaves_fewer : (c : Comparison) → IsComparison c → (set : CandidateSet) (pair : Pair) (row : Row) → LeavesSet c.old c.new c.relation set pair row
    → size_below (setting_of c).candidates (left_of (setting_of c) set ((setting_of c).after row pair)) < size_below (setting_of c).candidates set
leaves_fewer c is set pair row leaves =
    let n = leaves.fails.0 in
    let after = after_row c.old c.new c.relation row pair in
    let below : n < (setting_of c).candidates = rw (candidates-setting c is) leaves.fails.1 in
    subst (λ p. size_below (setting_of c).candidates (left_of (setting_of c) set p) < size_below (setting_of c).candidates set) (after-setting c row pair)
    (size_falls (setting_of c) set after (setting_of c).candidates n below leaves.fails.2 (holds-setting c is n after ∙ leaves.fails.3))

only_row : (rows : List Row) (a b : Row) → rows ≡ a ∷ [] → rows ≡ b ∷ [] → a ≡ b
only_row rows a b e f = let same : a ∷ [] ≡ b ∷ [] = sym e ∙ f in cc

-- what was found, from answers to queries
pub drop_found : (c : Comparison) (set : CandidateSet) (pair : Pair) (rows : List Row) → Answers c (step set) pair rows → (row : Row) → rows ≡ row ∷ []
    → LeavesSet c.old c.new c.relation set pair row
drop_found c set pair rows a row e = subst (λ r. LeavesSet c.old c.new c.relation set pair r) (only_row rows a.0 row a.1 e) a.2

module _ (c : Comparison) (formula : QueryData → Formula) (is : IsComparison c) where
  pub seen_found : (pair : Pair) (rows : List Row) → Answers c first pair rows → (row : Row) → rows ≡ row ∷ []
      → Passes (setting_of c) formula (at_header Unwalked) (lines.Seen row) (at_walks 0 (setting_of c).start)
  seen_found pair rows a row e = seen_passes c formula is row (subst (λ r. is_allowed c.relation r (start c.old c.new) ≡ true) (only_row rows a.0 row a.1 e) a.2)

  pub seen_allowed : (pair : Pair) (rows : List Row) → Answers c first pair rows → (row : Row) → rows ≡ row ∷ [] → (setting_of c).allowed row (setting_of c).start ≡ true
  seen_allowed pair rows a row e =
      subst (λ p. (setting_of c).allowed row p ≡ true) (start-setting c)
      (allowed-setting c row (start c.old c.new) (subst (λ r. is_allowed c.relation r (start c.old c.new) ≡ true) (only_row rows a.0 row a.1 e) a.2))

  pub pair_found : (reach : Reach) (set : CandidateSet) (pair : Pair) (rows : List Row) → Answers c (goal set) pair rows → (row : Row) → rows ≡ row ∷ []
      → Passes (setting_of c) formula (at_kept reach set) (lines.Pair (numbers_of pair row)) (at_deep reach set 0)
  pair_found reach set pair rows a row e =
      pair_passes c formula is reach set pair row (subst (λ r. LeavesRelation c.old c.new c.relation set pair r) (only_row rows a.0 row a.1 e) a.2)

-- the row that is read where there is one
pub read_row : (rows : List Row) (r : Row) → length rows ≡ 1 → r ≡ get_or rows 0 r → rows ≡ r ∷ []
read_row [] r one is = absurd (omega (arith, one))
read_row (row ∷ []) r one is = ap (λ x. x ∷ []) (sym is)
read_row (row ∷ (next ∷ rows)) r one is = absurd (omega (arith, one))

pub some_depth : (c : Comparison) → IsComparison c → 0 < (setting_of c).depth
unfolding setting_of
some_depth c is = is.some_depth

pub most_depth : (c : Comparison) → IsComparison c → (setting_of c).depth ≤ 64
unfolding setting_of
most_depth c is = is.depth
