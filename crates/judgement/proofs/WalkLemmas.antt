-- Rows that are allowed, one after the other from the start.
use Rattle.std.proofs.Common.{◌≡◌, ℕ, suc, true, List, [], ◌∷◌, ◌++◌, refl, sym, ap, ◌∙◌, subst, arith, length-append}
use Rattle.scan_model.specs.InRange.{Row}
use Rattle.scan_model.specs.Pairs.{Pair, start, is_allowed, after_row}
use Rattle.scan_model.specs.Runs.{after_rows}
use Rattle.scan_model.specs.Verdicts.{AreAllowedFrom}
use Rattle.verdict_laws.specs.Reach.{HasWalk}
use Rattle.queries.specs.Comparisons.{Comparison}
use Rattle.judgement.specs.Known.{Walks}

module _ (c : Comparison) where
  allowed-more : (pair : Pair) (rows : List Row) (row : Row) → AreAllowedFrom c.old c.new c.relation pair rows
      → is_allowed c.relation row (after_rows c.old c.new c.relation rows pair) ≡ true → AreAllowedFrom c.old c.new c.relation pair (rows ++ row ∷ [])
  allowed-more pair [] row all ok = (ok, tt)
  allowed-more pair (r ∷ rs) row all ok = (all.0, allowed-more (after_row c.old c.new c.relation r pair) rs row all.1 ok)

  after_rows-more : (pair : Pair) (rows : List Row) (row : Row)
      → after_rows c.old c.new c.relation (rows ++ row ∷ []) pair ≡ after_row c.old c.new c.relation row (after_rows c.old c.new c.relation rows pair)
  after_rows-more pair [] row = refl
  after_rows-more pair (r ∷ rs) row = after_rows-more (after_row c.old c.new c.relation r pair) rs row

  pub no_rows : Walks c 0 (start c.old c.new)
  no_rows = record { rows = []; counted = refl; allowed = tt; leads = refl }

  pub one_more : (count : ℕ) (pair : Pair) (row : Row) → Walks c count pair → is_allowed c.relation row pair ≡ true
      → Walks c (suc count) (after_row c.old c.new c.relation row pair)
  one_more count pair row w ok = record {
    rows = w.rows ++ row ∷ [];
    counted = (let few = w.counted in omega (arith, few, length-append w.rows (row ∷ [])));
    allowed = allowed-more (start c.old c.new) w.rows row w.allowed (subst (λ (p : Pair). is_allowed c.relation row p ≡ true) w.leads ok);
    leads = ap (λ (p : Pair). after_row c.old c.new c.relation row p) w.leads ∙ sym (after_rows-more (start c.old c.new) w.rows row);
  }

  pub walk_of : (count : ℕ) (pair : Pair) → Walks c count pair → HasWalk c.old c.new c.relation count
  walk_of count pair w = (w.rows, w.counted, w.allowed)
