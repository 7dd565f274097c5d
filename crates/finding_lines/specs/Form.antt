-- Which lines have the form of a finding's line.
use Rattle.std.specs.Prelude.{ℕ, ℤ, pos, Bool, true, false, ◌&&◌, nat_lt, int_lt, IsTrue, List, [], ◌∷◌}
use Rattle.std.specs.Int.RustNames.{unsigned_abs}
use Rattle.finding_lines.specs.Numbers.{IsNumber, AreNumbers}
use Rattle.finding_lines.specs.declared.line.Asked.{Asked}
use Rattle.finding_lines.specs.declared.line.Asked.TheVariants as questions
use Rattle.finding_lines.specs.declared.line.Conclusion.{Conclusion}
use Rattle.finding_lines.specs.declared.line.Conclusion.TheVariants.{Vacuous, Related, Different, Open, Spent}
use Rattle.finding_lines.specs.declared.line.Line.{Line}
use Rattle.finding_lines.specs.declared.line.Line.TheVariants.{Header, Seen, Walk, Dropping, Pair, Scan, Log, Query, Derived, Deleted, End}

abbrev pub AskedFits : Asked → Type 0
AskedFits questions.First = Unit {0}
AskedFits questions.Step = Unit {0}
AskedFits questions.Goal = Unit {0}
AskedFits (questions.Deep d) = IsNumber d
AskedFits (questions.Walk r) = IsNumber r

abbrev pub ConclusionFits : Conclusion → Type 0
ConclusionFits Vacuous = Unit {0}
ConclusionFits (Related k c) = IsNumber k × IsNumber c
ConclusionFits (Different d) = IsNumber d
ConclusionFits (Open k c n) = IsNumber k × IsNumber c × IsNumber n
ConclusionFits (Spent q n) = AskedFits q × IsNumber n

-- each number of the line is one of a finding
abbrev pub Fits : Line → Type 0
Fits (Header version) = Unit {0}
Fits (Seen inputs) = AreNumbers inputs
Fits (Walk inputs) = AreNumbers inputs
Fits (Dropping numbers) = AreNumbers numbers
Fits (Pair numbers) = AreNumbers numbers
Fits (Scan inputs) = AreNumbers inputs
Fits (Log q) = AskedFits q
Fits (Query q) = AskedFits q
Fits (Derived literals hints) = AreNumbers literals × AreNumbers hints
Fits (Deleted ids) = AreNumbers ids
Fits (End v) = ConclusionFits v

-- the variables of the literals rise from above `low`
abbrev pub rises_from : ℕ → List ℤ → Bool
rises_from low [] = true
rises_from low (l ∷ ls) = nat_lt low (unsigned_abs l) && rises_from (unsigned_abs l) ls

-- each number is above 0
abbrev pub all_positive : List ℤ → Bool
all_positive [] = true
all_positive (n ∷ ns) = int_lt (pos 0) n && all_positive ns

-- each number is above the one before it
abbrev pub rises_above : ℤ → List ℤ → Bool
rises_above low [] = true
rises_above low (n ∷ ns) = int_lt low n && rises_above n ns

-- at least one number; they are above 0 and rise
abbrev pub are_ids : List ℤ → Bool
are_ids [] = false
are_ids (n ∷ ns) = rises_above (pos 0) (n ∷ ns)

-- a verdict that can stand in an END line: a query for allowed rows gives none, where it is spent
abbrev pub IsEnding : Conclusion → Type 0
IsEnding (Spent (questions.Walk r) n) = ⊥
IsEnding conclusion = Unit {0}

-- the variables of literals are above 0 and rise, and hints are above 0; so are the numbers of clauses that are deleted
abbrev pub HasForm : Line → Type 0
HasForm (Header version) = Unit {0}
HasForm (Seen inputs) = Unit {0}
HasForm (Walk inputs) = Unit {0}
HasForm (Dropping numbers) = Unit {0}
HasForm (Pair numbers) = Unit {0}
HasForm (Scan inputs) = Unit {0}
HasForm (Log q) = Unit {0}
HasForm (Query q) = Unit {0}
HasForm (Derived literals hints) = IsTrue (rises_from 0 literals) × IsTrue (all_positive hints)
HasForm (Deleted ids) = IsTrue (are_ids ids)
HasForm (End v) = IsEnding v

-- a line that can stand in a finding
pub record IsLine (l : Line) : Type 0 where
  pub fits : Fits l
  pub form : HasForm l
