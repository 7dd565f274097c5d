-- A judgement ends in one way.
use Rattle.std.proofs.Common.{◌≡◌, ℕ, ◌+◌, ◌<◌, ◌≤◌, List, [], ◌++◌, length, refl, sym, ap, ◌∙◌, subst, arith, inl, inr, length-append}
use Rattle.std.specs.Prelude.{Result, Ok, Err, codes}
use Rattle.clause_core.specs.Formula.{Formula}
use Rattle.finding_lines.specs.declared.line.Conclusion.{Conclusion}
use Rattle.finding_lines.specs.declared.line.Line.{Line}
use Rattle.finding_lines.specs.Form.{IsLine}
use Rattle.finding_lines.specs.Spelling.{spelled, written}
use Rattle.finding_lines.proofs.LineLemmas.{one_spelling}
use Rattle.finding_file.specs.Ahead.{Ahead, nothing, ended, unended, ahead, size}
pub use Rattle.finding_file.proofs.WritingLemmas.{ahead-written}
use Rattle.queries.specs.Settings.{Setting}
use Rattle.queries.specs.Questions.{QueryData}
use Rattle.judgement.specs.Places.{Place, finished, goes, fails}
use Rattle.judgement.specs.Tests.{Moves}
use Rattle.judgement.specs.Findings.{Fails, FailsAhead}
use Rattle.judgement.specs.declared.answers.Reach.{Reach}
use Rattle.judgement.specs.declared.answers.Reason.{Reason}
use Rattle.judgement.specs.declared.answers.Judged.{Judged}
use Rattle.judgement.specs.declared.answers.Judged.TheVariants.{Valid, Bad}
use Rattle.judgement.specs.declared.answers.JudgeErr.{JudgeErr}
use Rattle.judgement.specs.declared.answers.JudgeErr.TheVariants.{Fault, Memory, M8}
use Rattle.judgement_laws.specs.Endings.{Ends}
use Rattle.judgement_laws.proofs.MoveLemmas.{moves_same, nothing_behind}

module _ (s : Setting) (formula : QueryData → Formula) where
  one_reason_ahead : (place : Place) (a : Ahead) (r t : Reason) → FailsAhead s formula place a r → FailsAhead s formula place a t → r ≡ t
  one_reason_ahead place nothing r t p q = p ∙ sym q
  one_reason_ahead place (unended text) r t p q = p ∙ sym q
  one_reason_ahead place (ended text rest) r t (inl p) (inl q) = p.1 ∙ sym q.1
  one_reason_ahead place (ended text rest) r t (inl p) (inr q) = absurd (p.0 q.0 q.1 q.2)
  one_reason_ahead place (ended text rest) r t (inr p) (inl q) = absurd (q.0 p.0 p.1 p.2)
  one_reason_ahead place (ended text rest) r t (inr p) (inr q) =
      let line : q.0 ≡ p.0 = one_spelling q.0 p.0 q.1 p.1 (sym q.2 ∙ p.2) in
      let same : fails r ≡ fails t = moves_same s formula place p.0 (fails r) (fails t) p.3 (subst (λ l. Moves s formula place l (fails t)) line q.3) in
      cc

  one_reason : (place : Place) (rest : List ℕ) (r t : Reason) → Fails s formula place rest r → Fails s formula place rest t → r ≡ t
  one_reason (finished reach verdict) rest r t p q = p.1 ∙ sym q.1
  one_reason place rest r t p q = one_reason_ahead place (ahead rest) r t p q

  behind_end : (verdict : Conclusion) (reach : Reach) (rest : List ℕ) (reason : Reason) → Fails s formula (finished reach verdict) rest reason → rest ≡ [] → ⊥
  behind_end verdict reach rest reason f none = f.0 none

  pub one_end : (limit : ℕ) (place : Place) (at count : ℕ) (rest : List ℕ) (a b : Result Judged JudgeErr) → at ≤ limit
      → Ends s formula limit place at count rest a → Ends s formula limit place at count rest b → a ≡ b
  one_end limit place at count rest (Ok (Valid v x)) (Ok (Valid w y)) within p q = let same : finished x v ≡ finished y w = sym p.0 ∙ q.0 in cc
  one_end limit place at count rest (Ok (Valid v r)) (Ok (Bad line reason)) within p q = absurd (behind_end v r rest reason (subst (λ x. Fails s formula x rest reason) p.0 q.2) p.1)
  one_end limit place at count rest (Ok (Valid v r)) (Err M8) within p q = absurd (let long : limit < at + size (ahead []) = subst (λ bytes. limit < at + size (ahead bytes)) p.1 q in omega (arith, long))
  one_end limit place at count rest (Ok (Bad line reason)) (Ok (Valid w r)) within p q = absurd (behind_end w r rest reason (subst (λ x. Fails s formula x rest reason) q.0 p.2) q.1)
  one_end limit place at count rest (Ok (Bad line reason)) (Ok (Bad other test)) within p q =
      let numbers : line ≡ other = p.0 ∙ sym q.0 in
      let reasons : reason ≡ test = one_reason place rest reason test p.2 q.2 in
      cc
  one_end limit place at count rest (Ok (Bad line reason)) (Err M8) within p q = absurd (p.1 q)
  one_end limit place at count rest (Err M8) (Ok (Valid w r)) within p q = absurd (let long : limit < at + size (ahead []) = subst (λ bytes. limit < at + size (ahead bytes)) q.1 p in omega (arith, long))
  one_end limit place at count rest (Err M8) (Ok (Bad other test)) within p q = absurd (q.1 p)
  one_end limit place at count rest (Err M8) (Err M8) within p q = refl
  one_end limit place at count rest (Err Fault) b within p q = absurd p
  one_end limit place at count rest (Err Memory) b within p q = absurd p
  one_end limit place at count rest a (Err Fault) within p q = absurd q
  one_end limit place at count rest a (Err Memory) within p q = absurd q

  passes_or_fails : (place after : Place) (rest more : List ℕ) (line : Line) (reason : Reason) → IsLine line → Moves s formula place line (goes after) → ahead rest ≡ ended (spelled line) more
      → FailsAhead s formula place (ahead rest) reason → ⊥
  passes_or_fails place after rest more line reason form moves e f = at (subst (λ a. FailsAhead s formula place a reason) e f) where
    at : FailsAhead s formula place (ended (spelled line) more) reason → ⊥
    at (inl p) = p.0 line form refl
    at (inr p) =
        let same_line : p.0 ≡ line = one_spelling p.0 line p.1 form (sym p.2) in
        let wrong : goes after ≡ fails reason = moves_same s formula place line (goes after) (fails reason) moves (subst (λ l. Moves s formula place l (fails reason)) same_line p.3) in
        cc

  fails_here : (place after : Place) (rest more : List ℕ) (line : Line) (reason : Reason) → IsLine line → Moves s formula place line (goes after) → ahead rest ≡ ended (spelled line) more
      → Fails s formula place rest reason → ⊥
  fails_here (finished reach verdict) after rest more line reason form moves e f = nothing_behind s formula (finished reach verdict) after verdict line refl moves
  fails_here place after rest more line reason form moves e f = passes_or_fails place after rest more line reason form moves e f

  -- a judgement does not end where a line passes
  pub no_end : (limit : ℕ) (place after : Place) (at count : ℕ) (rest more : List ℕ) (line : Line) (a : Result Judged JudgeErr) → IsLine line → Moves s formula place line (goes after)
      → rest ≡ written line ++ more → at + length (written line) ≤ limit → Ends s formula limit place at count rest a → ⊥
  no_end limit place after at count rest more line (Ok (Valid v r)) form moves is within p = nothing_behind s formula place after v line p.0 moves
  no_end limit place after at count rest more line (Ok (Bad number reason)) form moves is within p =
      fails_here place after rest more line reason form moves (ap ahead is ∙ ahead-written line more form) p.2
  no_end limit place after at count rest more line (Err M8) form moves is within p =
      let there : limit < at + size (ended (spelled line) more) = subst (λ a. limit < at + size a) (ap ahead is ∙ ahead-written line more form) p in
      omega (arith, there, within, length-append (spelled line) (codes "\n"))
  no_end limit place after at count rest more line (Err Fault) form moves is within p = p
  no_end limit place after at count rest more line (Err Memory) form moves is within p = p
