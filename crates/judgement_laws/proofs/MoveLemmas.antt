-- A line leads to one place, or fails one test.
use Rattle.std.proofs.Common.{◌≡◌, Bool, true, false, refl, sym, ap, ◌∙◌, subst}
use Rattle.std.proofs.lemmas.Bool.{false≢true}
use Rattle.std.proofs.lemmas.Bool.Decides.{same_from_decides}
use Rattle.clause_core.specs.Formula.{Formula}
use Rattle.clause_core.specs.Clauses.{rises}
use Rattle.finding_lines.specs.declared.line.Conclusion.{Conclusion}
use Rattle.finding_lines.specs.declared.line.Line.{Line}
use Rattle.finding_lines.specs.declared.line.Line.TheVariants as lines
use Rattle.queries.specs.Settings.{Setting}
use Rattle.queries.specs.Questions.{QueryData}
use Rattle.judgement.specs.Steps.{clause_of}
use Rattle.judgement.specs.Places.{Place, at_end, finished, in_walk, in_query, Moved, goes, fails}
use Rattle.judgement.specs.Tests.{when, has_form_at, next, IsAsked, IsTold, Moves}
use Rattle.judgement.specs.declared.answers.Reach.{Reach}
use Rattle.judgement.specs.declared.answers.Reason.TheVariants.{B1, B2, B12}

fails_either : (b : Bool) (m n : Moved) → b ≡ false → when b B2 m ≡ when b B2 n
fails_either true m n e = absurd (false≢true (sym e))
fails_either false m n e = refl

module _ (s : Setting) (formula : QueryData → Formula) where
  told_same : (place : Place) (line : Line) (t u : Bool) → IsAsked place line → IsTold s place line t → IsTold s place line u → t ≡ u
  told_same place line t u asked p q = same_from_decides t u (p asked) (q asked)

  told_or_unasked : (place : Place) (line : Line) (t u b : Bool) → (b ≡ true → IsAsked place line) → IsTold s place line t → IsTold s place line u
      → (b ≡ false → next s formula place t line ≡ next s formula place u line) → next s formula place t line ≡ next s formula place u line
  told_or_unasked place line t u true asked p q otherwise = ap (λ told. next s formula place told line) (told_same place line t u (asked refl) p q)
  told_or_unasked place line t u false asked p q otherwise = otherwise refl

  next_same : (place : Place) (line : Line) (t u : Bool) → IsTold s place line t → IsTold s place line u → next s formula place t line ≡ next s formula place u line
  next_same (in_query reach asked d left) (lines.Derived literals hints) t u p q =
      told_or_unasked (in_query reach asked d left) (lines.Derived literals hints) t u (rises d.formula.variables (clause_of literals)) (λ e. e) p q
      (λ e. ap (λ m. when (has_form_at s formula (in_query reach asked d left) (lines.Derived literals hints)) B1 m) (fails_either (rises d.formula.variables (clause_of literals)) _ _ e))
  next_same (in_walk count d left) (lines.Derived literals hints) t u p q =
      told_or_unasked (in_walk count d left) (lines.Derived literals hints) t u (rises d.formula.variables (clause_of literals)) (λ e. e) p q
      (λ e. ap (λ m. when (has_form_at s formula (in_walk count d left) (lines.Derived literals hints)) B1 m) (fails_either (rises d.formula.variables (clause_of literals)) _ _ e))
  next_same (in_query reach asked d left) (lines.End conclusion) t u p q =
      ap (λ told. next s formula (in_query reach asked d left) told (lines.End conclusion)) (told_same (in_query reach asked d left) (lines.End conclusion) t u tt p q)
  next_same (at_end reach verdict) (lines.End conclusion) t u p q =
      ap (λ told. next s formula (at_end reach verdict) told (lines.End conclusion)) (told_same (at_end reach verdict) (lines.End conclusion) t u tt p q)
  next_same place line t u p q = refl

  pub moves_same : (place : Place) (line : Line) (m n : Moved) → Moves s formula place line m → Moves s formula place line n → m ≡ n
  moves_same place line m n a b = a.2 ∙ next_same place line a.0 b.0 a.1 b.1 ∙ sym b.2

  -- nothing passes behind the END line
  pub nothing_behind : {reach : Reach} → (place after : Place) (verdict : Conclusion) (line : Line) → place ≡ finished reach verdict → Moves s formula place line (goes after) → ⊥
  nothing_behind {reach} place after verdict line e moves =
      let there : Moves s formula (finished reach verdict) line (goes after) = subst (λ p. Moves s formula p line (goes after)) e moves in
      let wrong : goes after ≡ fails B12 = there.2 in
      cc
