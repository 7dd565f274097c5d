-- The numbers of lines that break nothing lie in their limits.
use Rattle.std.proofs.Common.{◌≡◌, ◌≤◌, ℕ, List, [], ◌∷◌, Bool, true, false, ◌&&◌, refl}
use Rattle.std.specs.Prelude.{nat_le}
use Rattle.std.proofs.lemmas.Bool.{and_parts, leb-true}
use Rattle.rules.specs.declared.rule.Rule.TheVariants.{LineOrder, NumberLimits}
use Rattle.program_tree.specs.Tree.{ProgramData}
use Rattle.relation_lines.specs.declared.line.Setting.{Setting}
use Rattle.relation_lines.specs.declared.line.Setting.TheVariants as settings
use Rattle.relation_lines.specs.declared.line.Condition.TheVariants as conditions
use Rattle.relation_lines.specs.Lines.{ContentData, setting, faults, paired, single, clause, LineData}
use Rattle.relation_file.specs.Order.{rank_of_setting, has_rank, has_needed, in_limits}
use Rattle.relation_file.specs.Broken.{broken_parts, broken_line, broken_behind, broken_lines, missing_ranks, missing_inputs}
use Rattle.relation_file.specs.Relations.{setting_in}
use Rattle.relation_file.proofs.BelongsLemmas.{or_nothing, nothing_of_both, holds}

needed-version : (a b c d e : Bool) → (a && b && c && d && e) ≡ true → a ≡ true
needed-version a b c d e h = (and_parts a b (and_parts (a && b) c (and_parts (a && b && c) d (and_parts (a && b && c && d) e h).0).0).0).0

needed-depth : (a b c d e : Bool) → (a && b && c && d && e) ≡ true → c ≡ true
needed-depth a b c d e h = (and_parts (a && b) c (and_parts (a && b && c) d (and_parts (a && b && c && d) e h).0).0).1

needed-conflicts : (a b c d e : Bool) → (a && b && c && d && e) ≡ true → d ≡ true
needed-conflicts a b c d e h = (and_parts (a && b && c) d (and_parts (a && b && c && d) e h).0).1

-- each setting is needed
needed : (s : Setting) (ls : List LineData) → has_needed ls ≡ true → has_rank (rank_of_setting s) ls ≡ true
needed settings.Version ls h = needed-version (has_rank 0 ls) (has_rank 1 ls) (has_rank 2 ls) (has_rank 3 ls) (has_rank 6 ls) h
needed settings.Depth ls h = needed-depth (has_rank 0 ls) (has_rank 1 ls) (has_rank 2 ls) (has_rank 3 ls) (has_rank 6 ls) h
needed settings.Conflicts ls h = needed-conflicts (has_rank 0 ls) (has_rank 1 ls) (has_rank 2 ls) (has_rank 3 ls) (has_rank 6 ls) h

module _ (old new : ProgramData) where
  -- what the line of a number says, and then the others
  first_of : (s : Setting) (at : ℕ) (above ls : List LineData) (c : ContentData) → broken_parts old new above c ≡ []
      → (has_rank (rank_of_setting s) (record { at = at; content = c } ∷ above) ≡ false → in_limits s (setting_in s ls) ≡ true)
      → has_rank (rank_of_setting s) above ≡ false → in_limits s (setting_in s (record { at = at; content = c } ∷ ls)) ≡ true
  first_of settings.Version at above ls (setting settings.Version v place) h later none = holds (in_limits settings.Version v) NumberLimits place h
  first_of settings.Version at above ls (setting settings.Depth v place) h later none = later none
  first_of settings.Version at above ls (setting settings.Conflicts v place) h later none = later none
  first_of settings.Depth at above ls (setting settings.Version v place) h later none = later none
  first_of settings.Depth at above ls (setting settings.Depth v place) h later none = holds (in_limits settings.Depth v) NumberLimits place h
  first_of settings.Depth at above ls (setting settings.Conflicts v place) h later none = later none
  first_of settings.Conflicts at above ls (setting settings.Version v place) h later none = later none
  first_of settings.Conflicts at above ls (setting settings.Depth v place) h later none = later none
  first_of settings.Conflicts at above ls (setting settings.Conflicts v place) h later none = holds (in_limits settings.Conflicts v) NumberLimits place h
  first_of settings.Version at above ls (faults equal place) h later none = later none
  first_of settings.Depth at above ls (faults equal place) h later none = later none
  first_of settings.Conflicts at above ls (faults equal place) h later none = later none
  first_of settings.Version at above ls (paired a place b) h later none = later none
  first_of settings.Depth at above ls (paired a place b) h later none = later none
  first_of settings.Conflicts at above ls (paired a place b) h later none = later none
  first_of settings.Version at above ls (single side place a) h later none = later none
  first_of settings.Depth at above ls (single side place a) h later none = later none
  first_of settings.Conflicts at above ls (single side place a) h later none = later none
  first_of settings.Version at above ls (clause conditions.Environment e) h later none = later none
  first_of settings.Version at above ls (clause conditions.Relate e) h later none = later none
  first_of settings.Version at above ls (clause conditions.Invariant e) h later none = later none
  first_of settings.Depth at above ls (clause conditions.Environment e) h later none = later none
  first_of settings.Depth at above ls (clause conditions.Relate e) h later none = later none
  first_of settings.Depth at above ls (clause conditions.Invariant e) h later none = later none
  first_of settings.Conflicts at above ls (clause conditions.Environment e) h later none = later none
  first_of settings.Conflicts at above ls (clause conditions.Relate e) h later none = later none
  first_of settings.Conflicts at above ls (clause conditions.Invariant e) h later none = later none

  limited_behind : (s : Setting) (end : ℕ) (above ls : List LineData) → broken_behind old new end above ls ≡ [] → has_rank (rank_of_setting s) above ≡ false
      → in_limits s (setting_in s ls) ≡ true
  limited_behind s end above [] h none =
      let ranks = nothing_of_both (missing_ranks old new end above) (missing_inputs old new end above) h in
      let there = needed s above (holds (has_needed above) LineOrder end ranks.0) in
      absurd (let e : ⊥ = cc in e)
  limited_behind s end above (l ∷ ls) h none =
      let e = nothing_of_both (broken_line old new above l) (broken_behind old new end (l ∷ above) ls) h in
      let parts = or_nothing (broken_parts old new above l.content) _ e.0 in
      first_of s l.at above ls l.content parts.0 (limited_behind s end (l ∷ above) ls e.1) none

  pub limited : (s : Setting) (end : ℕ) (ls : List LineData) → broken_lines old new end ls ≡ [] → in_limits s (setting_in s ls) ≡ true
  limited s end ls h = limited_behind s end [] ls h refl

pub limits : (v n : ℕ) → (nat_le 1 v && nat_le v n) ≡ true → (1 ≤ v) × (v ≤ n)
limits v n h = let e = and_parts (nat_le 1 v) (nat_le v n) h in (leb-true 1 v e.0, leb-true v n e.1)
