-- Lines that the version of a finding has no form for ask nothing.
use Rattle.std.proofs.Common.{◌≡◌, Bool, true, false, refl, sym, ap, ◌∙◌}
use Rattle.std.specs.Prelude.{not, ◌&&◌, ◌||◌}
use Rattle.std.proofs.lemmas.Bool.{false≢true}
use Rattle.clause_core.specs.Formula.{Formula}
use Rattle.finding_lines.specs.declared.line.Line.{Line}
use Rattle.finding_lines.specs.declared.line.Line.TheVariants as lines
use Rattle.queries.specs.Settings.{Setting}
use Rattle.queries.specs.Questions.{QueryData}
use Rattle.judgement.specs.Places.{Place, in_walk, at_end, in_query, reach_at, Moved, fails}
use Rattle.judgement.specs.Tests.{is_of_second, is_first_version, is_outside, has_form_at, when, next, next_by, IsTold, Moves}
use Rattle.judgement.specs.declared.answers.Reason.TheVariants.{B1}
use Rattle.finding_check.specs.StepMoves.{MovesBy}

second-by : (out first second : Bool) → (out || not (first && second)) ≡ false → second ≡ true
second-by true first second e = absurd (false≢true (sym e))
second-by false true true e = refl
second-by false true false e = absurd (false≢true (sym e))
second-by false false second e = absurd (false≢true (sym e))

told-second : (s : Setting) (place : Place) (line : Line) → is_of_second line ≡ true → IsTold s place line true
told-second s (in_walk rows d left) (lines.Derived literals hints) e = absurd (false≢true e)
told-second s (in_query reach asked d left) (lines.Derived literals hints) e = absurd (false≢true e)
told-second s (in_query reach asked d left) (lines.End conclusion) e = absurd (false≢true e)
told-second s (at_end reach verdict) (lines.End conclusion) e = absurd (false≢true e)
told-second s place line e = λ asked. ((λ t. tt), (λ t. refl))

module _ (s : Setting) (formula : QueryData → Formula) (place : Place) (line : Line) where
  -- in a version that has a form for the line
  pub moves_by : (moved : Moved) → has_form_at s formula place line ≡ true → MovesBy s formula place line moved → Moves s formula place line moved
  moves_by moved e m = (m.0, m.1, m.2 ∙ ap (λ b. when b B1 (next_by s formula place m.0 line)) (sym e))

  -- and in one that has none
  pub moves_not : has_form_at s formula place line ≡ false → Moves s formula place line (fails B1)
  moves_not e = (true, told-second s place line (second-by (is_outside s formula place) (is_first_version (reach_at place)) (is_of_second line) e), ap (λ b. when b B1 (next_by s formula place true line)) (sym e))
