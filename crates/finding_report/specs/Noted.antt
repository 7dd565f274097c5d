-- What a report takes from the lines of a finding.
use Rattle.std.specs.Prelude.{ℤ, List, [], ◌∷◌, Option, Some, None}
use Rattle.finding_lines.specs.declared.line.Line.{Line}
use Rattle.finding_lines.specs.declared.line.Line.TheVariants.{Dropping, Pair, Scan}
use Rattle.scan_model.specs.InRange.{Row}
use Rattle.scan_model.specs.Verdicts.{CandidateSet}
use Rattle.queries.specs.Settings.{Setting, first_set, left_of}
use Rattle.judgement.specs.Steps.{pair_in, row_in}

-- those of a set that hold after the scan of a DROP line
abbrev pub left_by : Setting → CandidateSet → List ℤ → CandidateSet
left_by s set numbers = left_of s set (s.after (row_in s numbers) (pair_in s numbers))

-- those of a set that no DROP line drops
abbrev pub left_behind : Setting → CandidateSet → List Line → CandidateSet
left_behind s set [] = set
left_behind s set (Dropping numbers ∷ ls) = left_behind s (left_by s set numbers) ls
left_behind s set (l ∷ ls) = left_behind s set ls

-- the candidates that hold at the start and that no DROP line drops
abbrev pub kept_set : Setting → List Line → CandidateSet
kept_set s ls = left_behind s (first_set s) ls

-- the numbers of the PAIR line, where there is one
abbrev pub pair_numbers : List Line → Option (List ℤ)
pair_numbers [] = None
pair_numbers (Pair numbers ∷ ls) = Some numbers
pair_numbers (l ∷ ls) = pair_numbers ls

-- the rows of the SCAN lines
abbrev pub scan_rows : List Line → List Row
scan_rows [] = []
scan_rows (Scan row ∷ ls) = row ∷ scan_rows ls
scan_rows (l ∷ ls) = scan_rows ls
