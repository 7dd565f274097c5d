-- Lines that pass, the first of them first.
use Rattle.std.proofs.Common.{◌≡◌, List, [], ◌∷◌, ◌++◌, refl, sym, subst}
use Rattle.clause_core.specs.Formula.{Formula}
use Rattle.finding_lines.specs.declared.line.Line.{Line}
use Rattle.finding_lines.specs.Form.{IsLine}
use Rattle.queries.specs.Settings.{Setting}
use Rattle.queries.specs.Questions.{QueryData}
use Rattle.judgement.specs.Places.{Place, at_top, goes}
use Rattle.judgement.specs.Tests.{Moves}
use Rattle.judgement.specs.Findings.{Leads, nowhere, on}

module _ (s : Setting) (formula : QueryData → Formula) where
  abbrev pub Runs : Place → List Line → Place → Type 0
  Runs p [] q = p ≡ q
  Runs p (line ∷ lines) q = (between : Place) × IsLine line × Moves s formula p line (goes between) × Runs between lines q

  Runs-more : (p : Place) (some : List Line) (line : Line) (q r : Place) → Runs p some q → IsLine line → Moves s formula q line (goes r) → Runs p (some ++ line ∷ []) r
  Runs-more p [] line q r same form moves = (r, form, subst (λ x. Moves s formula x line (goes r)) (sym same) moves, refl)
  Runs-more p (first ∷ some) line q r runs form moves = (runs.0, runs.1, runs.2, Runs-more runs.0 some line q r runs.3 form moves)

  pub Leads-Runs : (all : List Line) (place : Place) → Leads s formula all place → Runs at_top all place
  Leads-Runs all place nowhere = refl
  Leads-Runs all place (on some line before after leads form moves) = Runs-more at_top some line before after (Leads-Runs some before leads) form moves
