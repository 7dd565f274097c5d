-- There is one report of `explain` on four texts, the place of G1 apart.
use Rattle.std.proofs.Common.{◌≡◌, ℕ, List, [], ◌∷◌, Ok, Err, refl, sym, ap, ap₂, ◌∙◌}
use Rattle.clause_core.specs.Formula.{Formula}
use Rattle.finding_lines.specs.declared.line.Line.{Line}
use Rattle.finding_lines.specs.declared.line.Conclusion.{Conclusion}
use Rattle.finding_lines.specs.Spelling.{spelled}
use Rattle.finding_file.specs.Ahead.{nothing, ended, ahead}
use Rattle.finding_file.specs.Writing.{all_written}
use Rattle.finding_file.proofs.WritingLemmas.{ahead-written, first_line}
use Rattle.judgement.specs.Places.{finished}
use Rattle.judgement.specs.Findings.{Stands, IsJudged}
use Rattle.judgement.specs.declared.answers.Reason.{Reason}
use Rattle.judgement.specs.declared.answers.Reach.{Reach}
use Rattle.judgement.specs.declared.answers.Judged.{Judged}
use Rattle.judgement.specs.declared.answers.Judged.TheVariants as judgements
use Rattle.judgement.specs.declared.answers.JudgeErr.TheVariants.{M8}
use Rattle.judgement_laws.proofs.Judgements.{one_judgement_is}
use Rattle.queries.specs.Comparisons.{Comparison}
use Rattle.queries.specs.Questions.{QueryData}
use Rattle.queries.specs.Settings.{Setting, setting_of}
use Rattle.command_answers.specs.Reports.{Report}
use Rattle.command_answers.specs.Alike.{AreAlike}
use Rattle.comparison_files.specs.Texts.{Texts}
use Rattle.finding_explain.specs.Notable.{AreNotable}
use Rattle.finding_explain.proofs.LeadLemmas.{finding_lines}
use Rattle.finding_answers.specs.Lines.{most_bytes, judged_report}
use Rattle.finding_commands.proofs.Once as of_four
use Rattle.finding_commands.specs.Lines.{report_on}
use Rattle.finding_commands.specs.Explanations.{ExplainReports, ReportsExplained, explained, invalid, too_long}

-- lines are known from what is written of them
one_writing : (s : Setting) (ls ms : List Line) → AreNotable s ls → AreNotable s ms → all_written ls ≡ all_written ms → ls ≡ ms
one_writing s [] [] f g e = refl
one_writing s [] (m ∷ ms) f g e = absurd (let wrong : nothing ≡ ended (spelled m) (all_written ms) = ap ahead e ∙ ahead-written m (all_written ms) g.0 in cc)
one_writing s (l ∷ ls) [] f g e = absurd (let wrong : ended (spelled l) (all_written ls) ≡ nothing = sym (ahead-written l (all_written ls) f.0) ∙ ap ahead e in cc)
one_writing s (l ∷ ls) (m ∷ ms) f g e =
    let first = first_line l m (all_written ls) (all_written ms) f.0 g.0 e in
    ap₂ (λ (x : Line) (xs : List Line). x ∷ xs) first.0 (one_writing s ls ms f.2 g.2 first.1)

-- the report where a line fails a test; DEPTH is not told there
abbrev bad_report : Judged → Report
bad_report said = judged_report 0 said

module _ (c : Comparison) (formula : QueryData → Formula) (finding : List ℕ) where
  -- one judgement of a finding
  valid_once : (ls ms : List Line) (v w : Conclusion) (m n : Reach) → Stands (setting_of c) formula most_bytes finding ls (finished m v) [] → Stands (setting_of c) formula most_bytes finding ms (finished n w) []
      → (ls ≡ ms) × (v ≡ w)
  valid_once ls ms v w m n f g =
      let one = finding_lines (setting_of c) formula most_bytes finding ls (finished m v) f in
      let other = finding_lines (setting_of c) formula most_bytes finding ms (finished n w) g in
      let lines = one_writing (setting_of c) ls ms one.notable other.notable (sym one.whole ∙ other.whole) in
      let said = one_judgement_is (setting_of c) formula most_bytes finding (Ok (judgements.Valid v m)) (Ok (judgements.Valid w n)) (ls, f) (ms, g) tt tt in
      let verdict : v ≡ w = cc in
      (lines, verdict)

  never_invalid : (ls : List Line) (v : Conclusion) (m : Reach) (line : ℕ) (reason : Reason) → Stands (setting_of c) formula most_bytes finding ls (finished m v) []
      → IsJudged (setting_of c) formula most_bytes finding (Ok (judgements.Bad line reason)) → ⊥
  never_invalid ls v m line reason f g =
      let said = one_judgement_is (setting_of c) formula most_bytes finding (Ok (judgements.Valid v m)) (Ok (judgements.Bad line reason)) (ls, f) g tt tt in cc

  never_too_long : (said : Judged) → IsJudged (setting_of c) formula most_bytes finding (Ok said) → IsJudged (setting_of c) formula most_bytes finding (Err M8) → ⊥
  never_too_long said f g =
      let wrong = one_judgement_is (setting_of c) formula most_bytes finding (Ok said) (Err M8) f g tt tt in cc

  explained_once : (r s : Report) → ReportsExplained c formula finding r → ReportsExplained c formula finding s → r ≡ s
  explained_once r s (explained ls v m f shown e) (explained ms w n g shown' d) = let one = valid_once ls ms v w m n f g in e ∙ ap₂ (report_on c) one.0 one.1 ∙ sym d
  explained_once r s (explained ls v m f shown e) (invalid line reason g d) = absurd (never_invalid ls v m line reason f g)
  explained_once r s (explained ls v m f shown e) (too_long g d) = absurd (never_too_long (judgements.Valid v m) (ls, f) g)
  explained_once r s (invalid line reason f e) (explained ls v m g shown d) = absurd (never_invalid ls v m line reason g f)
  explained_once r s (invalid line reason f e) (invalid number test g d) =
      let said = one_judgement_is (setting_of c) formula most_bytes finding (Ok (judgements.Bad line reason)) (Ok (judgements.Bad number test)) f g tt tt in
      let one : judgements.Bad line reason ≡ judgements.Bad number test = cc in
      e ∙ ap bad_report one ∙ sym d
  explained_once r s (invalid line reason f e) (too_long g d) = absurd (never_too_long (judgements.Bad line reason) f g)
  explained_once r s (too_long f e) (explained ls v m g shown d) = absurd (never_too_long (judgements.Valid v m) (ls, g) f)
  explained_once r s (too_long f e) (invalid line reason g d) = absurd (never_too_long (judgements.Bad line reason) g f)
  explained_once r s (too_long f e) (too_long g d) = e ∙ sym d

pub reports_once : (t : Texts) (r s : Report) → ExplainReports t r → ExplainReports t s → AreAlike r s
reports_once t r s h k = of_four.reports_once ReportsExplained explained_once t r s h k
