-- A text whose program's outline is too long has no flat form.
use Rattle.std.proofs.Common.{◌≡◌, ℕ, List, Bool, true, false, not, ⊎_elim, refl, sym, ap, ◌∙◌}
use Rattle.std.specs.Prelude.{IsTrue}
use Rattle.std.proofs.lemmas.Bool.{cases_Bool, false≢true}
use Rattle.rules.specs.declared.rule.Rule.TheVariants.{TooManyStatements}
use Rattle.source_tree.specs.Syntax.{FileData}
use Rattle.program_tree.specs.Tree.{ProgramData}
use Rattle.flat_form.specs.FlatPrograms.{is_short}
use Rattle.running_pous.specs.Stated.{stated_program}
use Rattle.running_counts.proofs.StatedCounts.{short_alike}
use Rattle.st_types.specs.Outlines.{IsOutline}
use Rattle.outline_laws.proofs.Outlines.{program_long}
use Rattle.st_types.specs.LargePous.{runs_large}
use Rattle.front_end.specs.Texts.{HasFile, AreNamesSound, HasProgram, by_large}
use Rattle.flat_end.specs.FlatTexts.{HasNoFlatForm, by_program, by_size}

pub outline_long : (f : FileData) (o : ProgramData) → AreNamesSound f → IsOutline f o → is_short o ≡ false → (text : List ℕ) → HasFile text f → HasNoFlatForm text (record { rule = TooManyStatements; at = 0 })
outline_long f o names h long text file =
    let one : HasProgram f h.number h.pou = record { is = h.is; there = h.there } in
    ⊎_elim (λ (large : runs_large f h.number h.pou ≡ true). by_program (by_large f h.number h.pou file names one h.typing h.room large refl))
    (λ (few : runs_large f h.number h.pou ≡ false).
    by_size (stated_program f h.number h.pou) (record { file = f; number = h.number; pou = h.pou; states = file; names = names; one = one; typing = h.typing; room = h.room; few = few; program = refl })
    (short_alike f h.number h.pou ∙ program_long f names h.number h.pou (sym (ap is_short h.outline) ∙ long)) refl)
    (cases_Bool (runs_large f h.number h.pou))

-- what is not short
pub not_short : (b c : Bool) → b ≡ c → IsTrue (not b) → c ≡ false
not_short true c same h = absurd (false≢true h)
not_short false c same h = sym same
