-- The order of lines, and the limits of their numbers.
use Rattle.std.specs.Prelude.{ℕ, ◌==◌, nat_lt, nat_le, List, [], ◌∷◌, Bool, false, ◌&&◌, ◌||◌}
use Rattle.std.specs.List.{list_any}
use Rattle.relation_lines.specs.declared.line.Setting.{Setting}
use Rattle.relation_lines.specs.declared.line.Setting.TheVariants as settings
use Rattle.relation_lines.specs.declared.line.Condition.{Condition}
use Rattle.relation_lines.specs.declared.line.Condition.TheVariants as conditions
use Rattle.relation_lines.specs.Lines.{ContentData, setting, faults, paired, single, clause, LineData}

-- The ranks of lines, in the order in which they stand: RELATION, FAULTS, DEPTH, CONFLICTS, INPUT, ENV, RELATE, INVARIANT.
abbrev pub rank_of_setting : Setting → ℕ
rank_of_setting settings.Version = 0
rank_of_setting settings.Depth = 2
rank_of_setting settings.Conflicts = 3

abbrev pub rank_of_condition : Condition → ℕ
rank_of_condition conditions.Environment = 5
rank_of_condition conditions.Relate = 6
rank_of_condition conditions.Invariant = 7

abbrev pub rank_of : ContentData → ℕ
rank_of (setting s value at) = rank_of_setting s
rank_of (faults equal at) = 1
rank_of (paired a at b) = 4
rank_of (single s at a) = 4
rank_of (clause c e) = rank_of_condition c

-- a line of this rank stands among lines
abbrev pub has_rank : ℕ → List LineData → Bool
has_rank rank ls = list_any (λ l. rank_of l.content == rank) ls

-- the first four ranks stand once
abbrev pub is_single : ℕ → Bool
is_single rank = nat_lt rank 4

-- a rank below that of the line directly above; lines before stand nearest first
abbrev pub is_late : ℕ → List LineData → Bool
is_late rank [] = false
is_late rank (above ∷ ls) = nat_lt rank (rank_of above.content)

-- a line has a rank below that of the line directly above, or repeats a rank that stands once
abbrev pub is_out_of_order : ContentData → List LineData → Bool
is_out_of_order c before = is_late (rank_of c) before || is_single (rank_of c) && has_rank (rank_of c) before

-- each rank is there but INPUT, ENV and INVARIANT, which may be missing
abbrev pub has_needed : List LineData → Bool
has_needed ls = has_rank 0 ls && has_rank 1 ls && has_rank 2 ls && has_rank 3 ls && has_rank 6 ls

-- the version is 1, DEPTH is from 1 to 64 scans, and CONFLICTS from 1 to 1,000,000 derivations
abbrev pub greatest_setting : Setting → ℕ
greatest_setting settings.Version = 1
greatest_setting settings.Depth = 64
greatest_setting settings.Conflicts = 1000000

abbrev pub in_limits : Setting → ℕ → Bool
in_limits s value = nat_le 1 value && nat_le value (greatest_setting s)
