-- How the lines of a finding are spelled: parts with one space between them.
use Rattle.std.specs.Prelude.{ℕ, ℤ, List, [], ◌∷◌, ◌++◌, codes}
use Rattle.std.specs.Fmt.{signed_decimal}
use Rattle.finding_lines.specs.declared.line.Asked.{Asked}
use Rattle.finding_lines.specs.declared.line.Asked.TheVariants as questions
use Rattle.finding_lines.specs.declared.line.Version.TheVariants.{One, Two}
use Rattle.finding_lines.specs.declared.line.Conclusion.{Conclusion}
use Rattle.finding_lines.specs.declared.line.Conclusion.TheVariants.{Vacuous, Related, Different, Open, Spent}
use Rattle.finding_lines.specs.declared.line.Line.{Line}
use Rattle.finding_lines.specs.declared.line.Line.TheVariants.{Header, Seen, Walk, Dropping, Pair, Scan, Log, Query, Derived, Deleted, End}

-- a number with the space before it
abbrev pub spaced : ℤ → List ℕ
spaced n = codes " " ++ signed_decimal n

-- numbers, each with the space before it
abbrev pub spaced_all : List ℤ → List ℕ
spaced_all [] = []
spaced_all (n ∷ ns) = spaced n ++ spaced_all ns

-- a query with the space before it
abbrev pub asked : Asked → List ℕ
asked questions.First = codes " FIRST"
asked questions.Step = codes " STEP"
asked questions.Goal = codes " GOAL"
asked (questions.Deep d) = codes " DEEP" ++ spaced d
asked (questions.Walk r) = codes " WALK" ++ spaced r

-- a verdict with the space before it
abbrev pub concluded : Conclusion → List ℕ
concluded Vacuous = codes " VACUOUS"
concluded (Related k c) = codes " RELATED kept" ++ (spaced k ++ (codes " of" ++ spaced c))
concluded (Different d) = codes " DIFFERENT scans" ++ spaced d
concluded (Open k c n) = codes " OPEN kept" ++ (spaced k ++ (codes " of" ++ (spaced c ++ (codes " depth" ++ spaced n))))
concluded (Spent q n) = codes " SPENT query" ++ (asked q ++ (codes " conflicts" ++ spaced n))

-- numbers and the 0 that ends them
abbrev pub ended : List ℤ → List ℕ
ended ns = spaced_all ns ++ codes " 0"

-- literals, then hints
abbrev pub derived : List ℤ → List ℤ → List ℕ
derived literals hints = ended literals ++ ended hints

-- the text of a line, without its line feed
abbrev pub spelled : Line → List ℕ
spelled (Header One) = codes "REGVER FINDING 1"
spelled (Header Two) = codes "REGVER FINDING 2"
spelled (Seen inputs) = codes "SEEN" ++ spaced_all inputs
spelled (Walk inputs) = codes "WALK" ++ spaced_all inputs
spelled (Dropping numbers) = codes "DROP" ++ spaced_all numbers
spelled (Pair numbers) = codes "PAIR" ++ spaced_all numbers
spelled (Scan inputs) = codes "SCAN" ++ spaced_all inputs
spelled (Log q) = codes "LOG" ++ asked q
spelled (Query q) = codes "QUERY" ++ asked q
spelled (Derived literals hints) = codes "D" ++ derived literals hints
spelled (Deleted ids) = codes "X" ++ ended ids
spelled (End v) = codes "END" ++ concluded v

-- a line as it stands in a finding, with its line feed
abbrev pub written : Line → List ℕ
written l = spelled l ++ codes "\n"
