-- Lists of allowed rows that grow by one row, and lists that are run.
use Rattle.std.proofs.Common.{◌≡◌, ℕ, suc, ◌+◌, ◌<◌, true, List, [], ◌∷◌, ◌++◌, length, drop, get_or, refl, sym, ap, ◌∙◌, subst, arith, length-append}
use Rattle.std.proofs.Math.Seq.{drop-cons}
use Rattle.scan_model.specs.InRange.{Row}
use Rattle.scan_model.specs.Pairs.{Pair, start, is_allowed, after_row}
use Rattle.scan_model.specs.Runs.{after_rows}
use Rattle.scan_model.specs.Verdicts.{AreAllowedFrom}
use Rattle.scan_replay.specs.Duos.{Compared, with_pair}
use Rattle.queries.specs.Comparisons.{Comparison, IsComparison}
use Rattle.queries.specs.Settings.{setting_of}
use Rattle.queries.specs.Questions.{walk, IsQueryOf}
use Rattle.queries.specs.Meaning.{Answers}
use Rattle.pair_trial.specs.Trials.{comparison_of, setting_in}
use Rattle.reach_search.specs.Walks.{AreAllowed, behind, IsReached}

module _ (c : Comparison) where
  allowed_more : (rows : List Row) (row : Row) (from : Pair) → AreAllowedFrom c.old c.new c.relation from rows
      → is_allowed c.relation row (after_rows c.old c.new c.relation rows from) ≡ true → AreAllowedFrom c.old c.new c.relation from (rows ++ row ∷ [])
  allowed_more [] row from all ok = (ok, tt)
  allowed_more (r ∷ rows) row from all ok = (all.0, allowed_more rows row (after_row c.old c.new c.relation r from) all.1 ok)

  after_more : (rows : List Row) (row : Row) (from : Pair)
      → after_rows c.old c.new c.relation (rows ++ row ∷ []) from ≡ after_row c.old c.new c.relation row (after_rows c.old c.new c.relation rows from)
  after_more [] row from = refl
  after_more (r ∷ rows) row from = after_more rows row (after_row c.old c.new c.relation r from)

  -- one row more
  pub reached_more : (rows : List Row) (pair : Pair) (row : Row) → IsReached c rows pair → length rows < (setting_of c).depth → (setting_of c).allowed row pair ≡ true
      → IsReached c (rows ++ row ∷ []) ((setting_of c).after row pair)
  unfolding setting_of
  reached_more rows pair row r below ok =
      let long : length (rows ++ row ∷ []) ≡ length rows + 1 = length-append rows (row ∷ []) in
      record {
        allowed = allowed_more rows row (start c.old c.new) r.allowed (subst (λ (p : Pair). is_allowed c.relation row p ≡ true) r.leads ok);
        some = omega (arith, long);
        most = omega (arith, long, below);
        leads = ap (λ (p : Pair). after_row c.old c.new c.relation row p) r.leads ∙ sym (after_more rows row (start c.old c.new));
      }

  -- one row alone
  pub reached_first : (row : Row) → IsComparison c → (setting_of c).allowed row (setting_of c).start ≡ true → IsReached c (row ∷ []) ((setting_of c).after row (setting_of c).start)
  unfolding setting_of
  reached_first row is ok = record { allowed = (ok, tt); some = omega arith; most = is.some_depth; leads = refl }

  -- a row that is allowed, in the words of the setting
  pub allowed-setting : (row : Row) (pair : Pair) → is_allowed c.relation row pair ≡ true → (setting_of c).allowed row pair ≡ true
  unfolding setting_of
  allowed-setting row pair ok = ok

  -- how far rows are run from a pair on: the rest is allowed, and leads where all lead
  pub record RunsOn (rows rest : List Row) (pair : Pair) : Type 0 where
    pub allowed : AreAllowedFrom c.old c.new c.relation pair rest
    pub leads : after_rows c.old c.new c.relation rest pair ≡ behind c rows

  pub runs_from_start : (rows : List Row) → AreAllowed c rows → RunsOn rows rows (setting_of c).start
  unfolding setting_of
  runs_from_start rows all = record { allowed = all; leads = refl }

  next_row : (rows : List Row) (i : ℕ) (row : Row) → i < length rows → row ≡ get_or rows i row → drop i rows ≡ row ∷ drop (i + 1) rows
  next_row rows i row below is =
      drop-cons rows i row below ∙ ap (λ (r : Row). r ∷ drop (suc i) rows) (sym is) ∙ (let e : suc i ≡ i + 1 = omega arith in ap (λ n. row ∷ drop n rows) e)

  module _ (rows : List Row) (i : ℕ) (row : Row) (pair : Pair) (below : i < length rows) (is : row ≡ get_or rows i row) (runs : RunsOn rows (drop i rows) pair) where
    cut : RunsOn rows (row ∷ drop (i + 1) rows) pair
    cut = subst (λ (rest : List Row). RunsOn rows rest pair) (next_row rows i row below is) runs

    -- the next row is allowed
    pub next_allowed : (setting_of c).allowed row pair ≡ true
    next_allowed = allowed-setting row pair cut.allowed.0

    -- and the rest behind it
    pub runs_next : RunsOn rows (drop (i + 1) rows) ((setting_of c).after row pair)
    unfolding setting_of
    runs_next = record { allowed = cut.allowed.1; leads = cut.leads }

  -- where fewer than DEPTH rows are allowed a query asks for one more
  pub asks_more : (count : ℕ) → count < (setting_of c).depth → IsQueryOf c (walk (count + 1))
  unfolding setting_of
  asks_more count below = ((omega arith), (omega arith))

  depth-setting : (setting_of c).depth ≡ c.relation.depth
  unfolding setting_of
  depth-setting = refl

  -- a list that a query gave, and that was run
  pub reached_found : (count : ℕ) (at : Pair) (rows found : List Row) (pair : Pair) → Answers c (walk (count + 1)) at found → count < c.relation.depth
      → rows ≡ found → pair ≡ behind c found → IsReached c rows pair
  reached_found count at rows found pair a below same led =
      subst (λ (rs : List Row). IsReached c rs pair) (sym same)
      (let long = a.0 in record { allowed = a.1; some = omega (arith, long); most = omega (arith, long, below); leads = led })

-- only the pair on trial is another
pub still : (first mid last : Compared) → mid ≡ with_pair mid.pair first → last ≡ with_pair last.pair mid → last ≡ with_pair last.pair first
still first mid last one two = two ∙ ap (with_pair last.pair) one

-- so where a pair is put
pub put : (pair : Pair) (mid last : Compared) → last ≡ with_pair pair mid → last ≡ with_pair last.pair mid
put pair mid last e = e ∙ ap (λ (p : Pair). with_pair p mid) (sym (ap (λ (d : Compared). d.pair) e))

-- then DEPTH is the same
pub depth_of : (first last : Compared) → last ≡ with_pair last.pair first → (setting_in last).depth ≡ (comparison_of first).relation.depth
depth_of first last e = ap (λ (d : Compared). (setting_in d).depth) e ∙ depth-setting (comparison_of first)

-- and so is what was reached
pub reached_in : (first last : Compared) (rows : List Row) (pair : Pair) → last ≡ with_pair last.pair first → IsReached (comparison_of last) rows pair → IsReached (comparison_of first) rows pair
reached_in first last rows pair e r = subst (λ (d : Compared). IsReached (comparison_of d) rows pair) e r
