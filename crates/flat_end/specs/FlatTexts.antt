-- The texts of programs that have a flat form, and which rule each other text breaks first.
use Rattle.std.specs.Prelude.{◌≡◌, ℕ, List, false}
use Rattle.rules.specs.declared.rule.Rule.TheVariants.{TooManyStatements}
use Rattle.rules.specs.declared.rule.Refusal.{Refusal}
use Rattle.program_tree.specs.Tree.{ProgramData}
use Rattle.flat_form.specs.FlatPrograms.{is_short}
use Rattle.front_end.specs.Texts.{StatesProgram, StatesNoProgram}

-- A text has no flat form: it states no program, or one whose flat form has more than 200,000 statements (M5).
pub data HasNoFlatForm (text : List ℕ) (r : Refusal) : Type 0 where
  by_program : StatesNoProgram text r → HasNoFlatForm text r
  by_size : (p : ProgramData) → StatesProgram text p → is_short p ≡ false → r ≡ record { rule = TooManyStatements; at = 0 } → HasNoFlatForm text r
