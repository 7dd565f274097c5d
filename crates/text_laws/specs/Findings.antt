-- Laws of findings on three texts: what is shown by one that is judged valid, and what that says of the rows that may come.
use Rattle.std.specs.Prelude.{◌≡◌, ◌≤◌, ℕ, suc, ℤ, pos, List, [], length, true, Ok}
use Rattle.clause_core.specs.Formula.{Formula}
use Rattle.scan_model.specs.declared.verdict.Verdict.{Verdict}
use Rattle.scan_model.specs.InRange.{Row}
use Rattle.scan_model.specs.Pairs.{start, is_allowed}
use Rattle.scan_model.specs.Verdicts.{IsGreatest}
use Rattle.finding_lines.specs.declared.line.Asked.{Asked}
use Rattle.finding_lines.specs.declared.line.Conclusion.{Conclusion}
use Rattle.finding_lines.specs.declared.line.Conclusion.TheVariants.{Vacuous, Related, Different, Open, Spent}
use Rattle.finding_lines.specs.declared.line.Line.{Line}
use Rattle.finding_report.specs.Noted.{kept_set}
use Rattle.queries.specs.Comparisons.{Comparison}
use Rattle.queries.specs.Questions.{QueryData, walk}
use Rattle.queries.specs.Settings.{setting_of}
use Rattle.judgement.specs.Places.{finished}
use Rattle.judgement.specs.Findings.{Stands, IsJudged}
use Rattle.judgement.specs.Shown.{conclusion_of, asked_of, IsShown, IsReachShown}
use Rattle.judgement.specs.declared.answers.Reach.{Reach}
use Rattle.judgement.specs.declared.answers.Reach.TheVariants.{Untold, Unwalked, Greatest, AtLeast}
use Rattle.judgement.specs.declared.answers.Judged.TheVariants.{Valid}
use Rattle.judgement_laws.specs.Laws.{HoldsSpentLog}
use Rattle.comparison_files.specs.Texts.{Texts}
use Rattle.comparison_files.specs.Accepting.{AreStated}
use Rattle.comparison_files.specs.Comparing.{formulas_of}
use Rattle.text_laws.specs.Laws.{AreAllowed, AreRelated, HoldForEver, IsVerdictOn, IsLeastBreak, IsFarthest}

-- ---- verdicts

-- a verdict whose conclusion is shown is the model's
abbrev pub ConclusionIsVerdict : Type 0
ConclusionIsVerdict = (c : Comparison) (formula : QueryData → Formula) (v : Verdict) → IsShown c formula (conclusion_of v) → IsVerdictOn c v

-- the conclusion of a finding that is judged valid, by what texts state, is shown, and so is what the finding says of reach
abbrev pub FindingIsShown : Type 0
FindingIsShown =
    (t : Texts) (c : Comparison) (limit : ℕ) (file : List ℕ) (conclusion : Conclusion) (reach : Reach) → AreStated t c
    → IsJudged (setting_of c) (formulas_of c) limit file (Ok (Valid conclusion reach)) → IsShown c (formulas_of c) conclusion × IsReachShown c (formulas_of c) reach

-- where it is SPENT, the finding holds the log that spends its query
abbrev pub SpentIsLogged : Type 0
SpentIsLogged =
    (t : Texts) (c : Comparison) (limit : ℕ) (file : List ℕ) (asked : Asked) (count : ℤ) (reach : Reach) → AreStated t c
    → IsJudged (setting_of c) (formulas_of c) limit file (Ok (Valid (Spent asked count) reach))
    → (query : QueryData) × (asked ≡ asked_of query) × (count ≡ pos c.relation.conflicts) × HoldsSpentLog c (formulas_of c) file query

-- and where so many rows are allowed at least, that which spends the query for one row more
abbrev pub ReachSpentIsLogged : Type 0
ReachSpentIsLogged =
    (t : Texts) (c : Comparison) (limit : ℕ) (file : List ℕ) (conclusion : Conclusion) (rows : ℕ) → AreStated t c
    → IsJudged (setting_of c) (formulas_of c) limit file (Ok (Valid conclusion (AtLeast rows))) → HoldsSpentLog c (formulas_of c) file (walk (suc rows))

-- ---- rows

-- What a conclusion says of the rows that may come: none is allowed at the start; the pair is related after each row of every list of allowed rows; the least
-- allowed rows that lead out of the relation are so many; it is related after each of at most DEPTH allowed rows; nothing.
abbrev pub SaysOfRows : Comparison → Conclusion → Type 0
SaysOfRows c Vacuous = (row : Row) → ¬ (is_allowed c.relation row (start c.old c.new) ≡ true)
SaysOfRows c (Related kept candidates) = (rows : List Row) → AreAllowed c rows → AreRelated c rows
SaysOfRows c (Different scans) = (d : ℕ) × (scans ≡ pos d) × IsLeastBreak c d
SaysOfRows c (Open kept candidates depth) = (depth ≡ pos c.relation.depth) × ((rows : List Row) → length rows ≤ c.relation.depth → AreAllowed c rows → AreRelated c rows)
SaysOfRows c (Spent asked count) = Unit {0}

-- what is shown says so, where texts state the comparison
abbrev pub ShownSaysOfRows : Type 0
ShownSaysOfRows =
    (t : Texts) (c : Comparison) (formula : QueryData → Formula) (conclusion : Conclusion) → AreStated t c → IsShown c formula conclusion → SaysOfRows c conclusion

-- What is said of reach says of the rows that may come: nothing; that so many are allowed one after the other from the start, and no more up to
-- DEPTH; that so many are.
abbrev pub SaysOfReach : Comparison → Reach → Type 0
SaysOfReach c Untold = Unit {0}
SaysOfReach c Unwalked = Unit {0}
SaysOfReach c (Greatest count) = IsFarthest c count
SaysOfReach c (AtLeast count) = (rows : List Row) × (length rows ≡ count) × AreAllowed c rows

-- what is shown of reach says so
abbrev pub ReachSaysOfRows : Type 0
ReachSaysOfRows = (c : Comparison) (formula : QueryData → Formula) (reach : Reach) → IsReachShown c formula reach → SaysOfReach c reach

-- ---- candidates

-- where a conclusion has a set of candidates that are kept
abbrev pub IfKeeps : Conclusion → Type 0 → Type 0
IfKeeps Vacuous P = Unit {0}
IfKeeps (Related kept candidates) P = P
IfKeeps (Different scans) P = P
IfKeeps (Open kept candidates depth) P = P
IfKeeps (Spent asked count) P = Unit {0}

-- lines are a valid finding on what texts state, with this conclusion and what is said of reach
abbrev pub AreFinding : Texts → Comparison → ℕ → List ℕ → List Line → Conclusion → Reach → Type 0
AreFinding t c limit file lines conclusion reach = AreStated t c × Stands (setting_of c) (formulas_of c) limit file lines (finished reach conclusion) []

-- the candidates that the report on a valid finding lists as kept are the greatest inductive set
abbrev pub ListedIsGreatest : Type 0
ListedIsGreatest =
    (t : Texts) (c : Comparison) (limit : ℕ) (file : List ℕ) (lines : List Line) (conclusion : Conclusion) (reach : Reach) → AreFinding t c limit file lines conclusion reach
    → IfKeeps conclusion (IsGreatest c.old c.new c.relation (kept_set (setting_of c) lines))

-- and each of them holds at the start, and after each row of every list of allowed rows
abbrev pub ListedHoldsForEver : Type 0
ListedHoldsForEver =
    (t : Texts) (c : Comparison) (limit : ℕ) (file : List ℕ) (lines : List Line) (conclusion : Conclusion) (reach : Reach) → AreFinding t c limit file lines conclusion reach
    → IfKeeps conclusion (HoldForEver c (kept_set (setting_of c) lines))
