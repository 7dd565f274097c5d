-- Places from where lines go on alike.
use Rattle.std.proofs.Common.{◌≡◌, ℕ, refl, subst, sym, inl, inr}
use Rattle.finding_lines.specs.declared.line.Conclusion.{Conclusion}
use Rattle.finding_lines.specs.declared.line.Line.{Line}
use Rattle.finding_lines.specs.declared.line.Line.TheVariants as lines
use Rattle.clause_core.specs.Formula.{Formula}
use Rattle.derivation_check.specs.Checks.{Derivation}
use Rattle.scan_model.specs.Verdicts.{CandidateSet}
use Rattle.queries.specs.Settings.{Setting, first_set}
use Rattle.queries.specs.Questions.{QueryData}
use Rattle.judgement.specs.Places.{Place, at_drops, at_kept, in_walk, finished, Moved, goes, fails}
use Rattle.judgement.specs.Tests.{when_spent}
use Rattle.judgement.specs.declared.answers.Reason.TheVariants.{B9}
use Rattle.judgement.specs.declared.answers.Reach.{Reach}
use Rattle.judgement.specs.declared.answers.Reach.TheVariants.{AtLeast}
use Rattle.finding_search.specs.Passing.{Passes}
use Rattle.finding_search.specs.Writes.{GoesOnAs}

goes_spent : (to : Place) (moved : Moved) → goes to ≡ moved → goes to ≡ when_spent 0 moved
goes_spent to moved e = subst (λ (m : Moved). goes to ≡ when_spent 0 m) e refl

module _ (s : Setting) (formula : QueryData → Formula) where
  goes_or_fails : (to : Place) → goes to ≡ fails B9 → ⊥
  goes_or_fails to e = absurd cc

  -- what passes where candidates are dropped passes behind a spent log for allowed rows
  passes_behind : (rows : ℕ) (d : Derivation) (line : Line) (to : Place) → Passes s formula (at_drops (AtLeast rows) (first_set s)) line to
      → Passes s formula (in_walk rows d 0) line to
  passes_behind rows d (lines.Derived literals hints) to p = absurd (goes_or_fails to p.moves.2)
  passes_behind rows d (lines.Deleted ids) to p = absurd (goes_or_fails to p.moves.2)
  passes_behind rows d line to p = record { form = p.form; moves = (p.moves.0, p.moves.1, goes_spent to _ p.moves.2); tight = tt }

  pub passes_alike : (there place : Place) (line : Line) (to : Place) → GoesOnAs s there place → Passes s formula place line to → Passes s formula there line to
  passes_alike there place line to (inl e) p = subst (λ (at : Place). Passes s formula at line to) (sym e) p
  passes_alike there place line to (inr x) p =
      subst (λ (at : Place). Passes s formula at line to) (sym x.2)
      (passes_behind x.0 x.1 line to (subst (λ (at : Place). Passes s formula at line to) x.3 p))

module _ (s : Setting) where
  -- nowhere else is there another place
  pub in_walk_alike : (there : Place) (rows : ℕ) (d : Derivation) → GoesOnAs s there (in_walk rows d 0) → there ≡ in_walk rows d 0
  in_walk_alike there rows d (inl e) = e
  in_walk_alike there rows d (inr x) = let e : in_walk rows d 0 ≡ at_drops (AtLeast x.0) (first_set s) = x.3 in absurd cc

  pub kept_alike : (there : Place) (reach : Reach) (set : CandidateSet) → GoesOnAs s there (at_kept reach set) → there ≡ at_kept reach set
  kept_alike there reach set (inl e) = e
  kept_alike there reach set (inr x) = let e : at_kept reach set ≡ at_drops (AtLeast x.0) (first_set s) = x.3 in absurd cc

  pub finished_alike : (there : Place) (reach : Reach) (verdict : Conclusion) → GoesOnAs s there (finished reach verdict) → there ≡ finished reach verdict
  finished_alike there reach verdict (inl e) = e
  finished_alike there reach verdict (inr x) = let e : finished reach verdict ≡ at_drops (AtLeast x.0) (first_set s) = x.3 in absurd cc
