-- What a judge of evidence, or a search for it, needs to know of what is compared: tests of pairs and rows, and numbers.
use Rattle.std.specs.Prelude.{ℕ, zero, suc, Bool, true, not, ◌&&◌, ◌||◌, nat_lt, length}
use Rattle.scan_model.specs.InRange.{Row}
use Rattle.scan_model.specs.Pairs.{Pair, start, fits_lines, is_allowed, is_related, after_row}
use Rattle.scan_model.specs.Candidates.{candidate_holds}
use Rattle.scan_model.specs.Verdicts.{CandidateSet}
use Rattle.queries.specs.Comparisons.{Comparison}
use Rattle.queries.specs.Ranges.{is_pair_in_range}

pub record Setting : Type 0 where
  pub start : Pair
  -- how many cells each program has
  pub old_cells : ℕ
  pub new_cells : ℕ
  -- each cell has one value, in its range
  pub in_range : Pair → Bool
  -- a row has one number for each input, in its range
  pub fits : Row → Bool
  -- it fits, and every ENV clause holds once it is loaded
  pub allowed : Row → Pair → Bool
  pub after : Row → Pair → Pair
  -- every RELATE clause holds
  pub related : Pair → Bool
  -- how many candidates there are, and whether one holds, by its number from 0
  pub candidates : ℕ
  pub holds : ℕ → Pair → Bool
  pub depth : ℕ
  pub conflicts : ℕ

unfoldable pub setting_of : Comparison → Setting
setting_of c = record {
  start = start c.old c.new;
  old_cells = length c.old.cells;
  new_cells = length c.new.cells;
  in_range = λ pair. is_pair_in_range c.old c.new pair;
  fits = λ row. fits_lines c.relation.inputs row;
  allowed = λ row pair. is_allowed c.relation row pair;
  after = λ row pair. after_row c.old c.new c.relation row pair;
  related = λ pair. is_related c.relation pair;
  candidates = length c.relation.candidates;
  holds = λ n pair. candidate_holds c.relation.candidates n pair;
  depth = c.relation.depth;
  conflicts = c.relation.conflicts;
}

-- each candidate of a set, by a number below a bound, holds on a pair
abbrev pub meets_below : Setting → ℕ → CandidateSet → Pair → Bool
meets_below s zero set pair = true
meets_below s (suc n) set pair = (not (set n) || s.holds n pair) && meets_below s n set pair

-- each candidate of a set holds on a pair
abbrev pub meets : Setting → CandidateSet → Pair → Bool
meets s set pair = meets_below s s.candidates set pair

-- the candidates that hold at the start
abbrev pub first_set : Setting → CandidateSet
first_set s n = nat_lt n s.candidates && s.holds n s.start

-- those of a set that hold on a pair
abbrev pub left_of : Setting → CandidateSet → Pair → CandidateSet
left_of s set pair n = set n && s.holds n pair
