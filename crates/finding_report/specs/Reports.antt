-- The report on a valid finding, as a JSON value (RFC 8259). The members of an object stand in the order of their keys' bytes.
use Rattle.std.specs.Prelude.{ℕ, ◌+◌, ℤ, List, [], ◌∷◌, Option, Some, None, codes, drop, map, if◌then◌else◌}
use Rattle.serde_json.specs.Data.{Data, null, number, string, array, object, Members, no_members, member, put}
use Rattle.serde_json.specs.Find.{of_integer}
use Rattle.serde_json.specs.View.{items_of}
use Rattle.serde_json.specs.Written.{compact_text}
use Rattle.finding_lines.specs.declared.line.Conclusion.{Conclusion}
use Rattle.finding_lines.specs.declared.line.Conclusion.TheVariants.{Vacuous, Related, Different, Open, Spent}
use Rattle.finding_lines.specs.declared.line.Line.{Line}
use Rattle.finding_lines.specs.Spelling.{concluded}
use Rattle.scan_model.specs.InRange.{Row}
use Rattle.scan_model.specs.Pairs.{CandidateData}
use Rattle.scan_model.specs.Verdicts.{CandidateSet}
use Rattle.queries.specs.Comparisons.{Comparison}
use Rattle.queries.specs.Settings.{setting_of}
use Rattle.judgement.specs.Steps.{pair_in, row_in}
use Rattle.finding_report.specs.Names.{input_names, old_names, new_names}
use Rattle.finding_report.specs.Noted.{kept_set, pair_numbers, scan_rows}

-- members, and behind them each number at its name; of two numbers at one name the later stands
abbrev pub with_numbers : List (List ℕ) → List ℤ → Members → Members
with_numbers [] vs members = members
with_numbers (n ∷ ns) [] members = members
with_numbers (n ∷ ns) (v ∷ vs) members = with_numbers ns vs (put n (number (of_integer v)) members)

abbrev pub numbers_at : List (List ℕ) → List ℤ → Data
numbers_at names values = object (with_numbers names values no_members)

-- the inputs of a row
abbrev pub inputs_of : Comparison → Row → Data
inputs_of c row = numbers_at (input_names c) row

-- the row that leads out of the relation, and the states that it starts from; `null` where there is none
abbrev pub break_of : Comparison → Option (List ℤ) → Data
break_of c None = null
break_of c (Some numbers) = object
    (member (codes "inputs") (inputs_of c (row_in (setting_of c) numbers))
    (member (codes "new") (numbers_at (new_names c) (pair_in (setting_of c) numbers).new)
    (member (codes "old") (numbers_at (old_names c) (pair_in (setting_of c) numbers).old) no_members)))

-- the names of the candidates of a set, whose numbers begin at a number
abbrev pub names_among : CandidateSet → ℕ → List CandidateData → List (List ℕ)
names_among set n [] = []
names_among set n (c ∷ cs) = if set n then c.name ∷ names_among set (n + 1) cs else names_among set (n + 1) cs

-- texts, one behind the other
abbrev pub texts : List (List ℕ) → Data
texts names = array (items_of (map string names))

-- the candidates that a verdict keeps; one that keeps none, or that says nothing of the programs, names none
abbrev pub kept_of : Comparison → CandidateSet → Conclusion → Data
kept_of c set Vacuous = texts []
kept_of c set (Related kept candidates) = texts (names_among set 0 c.relation.candidates)
kept_of c set (Different scans) = texts (names_among set 0 c.relation.candidates)
kept_of c set (Open kept candidates depth) = texts (names_among set 0 c.relation.candidates)
kept_of c set (Spent asked conflicts) = texts []

-- the inputs of each row
abbrev pub scans_of : Comparison → List Row → Data
scans_of c rows = array (items_of (map (inputs_of c) rows))

-- a verdict as its END line has it, without the space before it
abbrev pub verdict_text : Conclusion → List ℕ
verdict_text verdict = drop 1 (concluded verdict)

-- a report by its parts
abbrev pub report_with : Comparison → CandidateSet → Option (List ℤ) → List Row → Conclusion → Data
report_with c set pair rows verdict = object
    (member (codes "break") (break_of c pair)
    (member (codes "kept") (kept_of c set verdict)
    (member (codes "scans") (scans_of c rows)
    (member (codes "verdict") (string (verdict_text verdict)) no_members))))

-- the report on the lines of a finding and its verdict
abbrev pub report : Comparison → List Line → Conclusion → Data
report c ls verdict = report_with c (kept_set (setting_of c) ls) (pair_numbers ls) (scan_rows ls) verdict

-- and its text, without a blank
abbrev pub report_text : Comparison → List Line → Conclusion → List ℕ
report_text c ls verdict = compact_text (report c ls verdict)
