-- Steps, deletions, scans and allowed rows as they are written.
use Rattle.std.specs.Prelude.{ℤ, pos, neg_ℤ, [], ◌∷◌, ◌++◌, List, map, if◌then◌else◌}
use Rattle.clause_core.specs.declared.literal.Lit.{Lit}
use Rattle.clause_core.specs.declared.log.Entry.{Entry}
use Rattle.clause_core.specs.declared.log.Entry.TheVariants.{Derived, Deleted}
use Rattle.finding_lines.specs.declared.line.Line.{Line}
use Rattle.finding_lines.specs.declared.line.Line.TheVariants as lines
use Rattle.scan_model.specs.InRange.{Row}
use Rattle.scan_model.specs.Pairs.{Pair}

-- a literal is written as its variable, negative for the negative one
abbrev pub number_of : Lit → ℤ
number_of l = if l.negative then neg_ℤ (pos l.variable) else pos l.variable

-- a deletion is a line of its own
abbrev pub line_of : Entry → Line
line_of (Derived step) = lines.Derived (map number_of step.clause) (map pos step.hints)
line_of (Deleted number) = lines.Deleted (pos number ∷ [])

abbrev pub lines_of : List Entry → List Line
lines_of entries = map line_of entries

-- the cells of OLD, those of NEW, and the inputs
abbrev pub numbers_of : Pair → Row → List ℤ
numbers_of pair row = pair.old ++ (pair.new ++ row)

abbrev pub scans_of : List Row → List Line
scans_of rows = map lines.Scan rows

abbrev pub walks_of : List Row → List Line
walks_of rows = map lines.Walk rows
