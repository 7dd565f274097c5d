-- Which lines are levelled: their clauses are.
use Rattle.std.specs.Prelude.{List, [], ◌∷◌}
use Rattle.source_tree.specs.Levels.{IsLevelled}
use Rattle.relation_lines.specs.Lines.{ContentData, setting, faults, paired, single, clause, LineData}

abbrev pub IsContentLevelled : ContentData → Type 0
IsContentLevelled (setting s value at) = Unit {0}
IsContentLevelled (faults equal at) = Unit {0}
IsContentLevelled (paired a at b) = Unit {0}
IsContentLevelled (single s at a) = Unit {0}
IsContentLevelled (clause c e) = IsLevelled e

abbrev pub AreLinesLevelled : List LineData → Type 0
AreLinesLevelled [] = Unit {0}
AreLinesLevelled (l ∷ ls) = IsContentLevelled l.content × AreLinesLevelled ls
