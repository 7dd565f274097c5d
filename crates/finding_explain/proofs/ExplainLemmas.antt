-- A finding that is judged valid and read once more is explained.
use Rattle.std.proofs.Common.{◌≡◌, ℕ, List, refl}
use Rattle.std.specs.Prelude.{Option, Some, None, Result, Ok, Err, IfSome}
use Rattle.clause_core.specs.Formula.{Formula}
use Rattle.finding_lines.specs.declared.line.Line.{Line}
use Rattle.finding_lines.specs.declared.line.Conclusion.{Conclusion}
use Rattle.finding_file.specs.declared.errors.ReadErr.{ReadErr}
use Rattle.finding_file.specs.declared.errors.ReadErr.TheVariants as read
use Rattle.queries.specs.Comparisons.{Comparison}
use Rattle.queries.specs.Settings.{setting_of}
use Rattle.queries.specs.Questions.{QueryData}
use Rattle.judgement.specs.Places.{finished}
use Rattle.judgement.specs.Findings.{IsJudged}
use Rattle.judgement.specs.Shown.{IsShown}
use Rattle.judgement.specs.declared.answers.Reach.{Reach}
use Rattle.judgement.specs.declared.answers.Judged.TheVariants as judged
use Rattle.judgement.specs.declared.answers.JudgeErr.{JudgeErr}
use Rattle.judgement.specs.declared.answers.JudgeErr.TheVariants.{Fault, Memory, M8}
use Rattle.finding_explain.specs.declared.answers.Explained.{Explained}
use Rattle.finding_explain.specs.declared.answers.Explained.TheVariants.{Valid, Bad}
use Rattle.finding_explain.specs.Notable.{IsFileOf, IsCollected}
use Rattle.finding_explain.specs.Explaining.{IsExplained, IsReported, HasVerdict, ShowsReport, unread}
use Rattle.finding_explain.proofs.LeadLemmas.{finding_lines}

-- only a fault of the file is answered by a fault
pub unread-fault : (error : ReadErr) → unread error ≡ Err Fault → error ≡ read.Fault
unread-fault read.Fault e = refl
unread-fault read.Memory e = cc
unread-fault read.M8 e = cc
unread-fault (read.Spelling n) e = cc
unread-fault (read.Unended n) e = cc

module _ (c : Comparison) where
  reported_unread : (ls : List Line) (verdict : Conclusion) (error : ReadErr) → IsCollected (setting_of c) ls (Err error) → IsReported c ls verdict (unread error)
  reported_unread ls verdict read.Fault h = tt
  reported_unread ls verdict read.Memory h = tt
  reported_unread ls verdict read.M8 h = h
  reported_unread ls verdict (read.Spelling n) h = h
  reported_unread ls verdict (read.Unended n) h = h

  -- where the lines could not be read once more
  pub told_unread : (limit : ℕ) (told : Option (List ℕ)) (verdict : Conclusion) (error : ReadErr)
      → IfSome told (λ file. (ls : List Line) → IsFileOf (setting_of c) limit file ls → IsCollected (setting_of c) ls (Err error))
      → IfSome told (λ file. (ls : List Line) → IsFileOf (setting_of c) limit file ls → IsReported c ls verdict (unread error))
  told_unread limit None verdict error h = tt
  told_unread limit (Some file) verdict error h = λ ls f. reported_unread ls verdict error (h ls f)

  pub unread_has_verdict : (verdict : Conclusion) (error : ReadErr) → HasVerdict c verdict (unread error)
  unread_has_verdict verdict read.Fault = tt
  unread_has_verdict verdict read.Memory = tt
  unread_has_verdict verdict read.M8 = tt
  unread_has_verdict verdict (read.Spelling n) = tt
  unread_has_verdict verdict (read.Unended n) = tt

module _ (c : Comparison) (formula : QueryData → Formula) where
  explained_by : (limit : ℕ) (file : List ℕ) (verdict : Conclusion) (reach : Reach) (result : Result Explained JudgeErr) → IsJudged (setting_of c) formula limit file (Ok (judged.Valid verdict reach)) → IsShown c formula verdict
      → ((ls : List Line) → IsFileOf (setting_of c) limit file ls → IsReported c ls verdict result) → IsExplained c formula limit file result
  explained_by limit file verdict reach (Ok (Valid text)) j shown h = (j.0, verdict, reach, j.1, shown, h j.0 (finding_lines (setting_of c) formula limit file j.0 (finished reach verdict) j.1))
  explained_by limit file verdict reach (Ok (Bad line reason)) j shown h = absurd (h j.0 (finding_lines (setting_of c) formula limit file j.0 (finished reach verdict) j.1))
  explained_by limit file verdict reach (Err Fault) j shown h = tt
  explained_by limit file verdict reach (Err Memory) j shown h = tt
  explained_by limit file verdict reach (Err M8) j shown h = absurd (h j.0 (finding_lines (setting_of c) formula limit file j.0 (finished reach verdict) j.1))

  -- a valid finding, and the report on its lines
  pub told_explained : (limit : ℕ) (told : Option (List ℕ)) (verdict : Conclusion) (reach : Reach) (result : Result Explained JudgeErr)
      → IfSome told (λ file. IsJudged (setting_of c) formula limit file (Ok (judged.Valid verdict reach)))
      → IsShown c formula verdict
      → IfSome told (λ file. (ls : List Line) → IsFileOf (setting_of c) limit file ls → IsReported c ls verdict result)
      → IfSome told (λ file. IsExplained c formula limit file result)
  told_explained limit None verdict reach result j shown h = tt
  told_explained limit (Some file) verdict reach result j shown h = explained_by limit file verdict reach result j shown h

  pub shows_report : (verdict : Conclusion) (result : Result Explained JudgeErr) → HasVerdict c verdict result → IsShown c formula verdict → ShowsReport c formula result
  shows_report verdict (Ok (Valid text)) h shown = (verdict, h, shown)
  shows_report verdict (Ok (Bad line reason)) h shown = tt
  shows_report verdict (Err error) h shown = tt
