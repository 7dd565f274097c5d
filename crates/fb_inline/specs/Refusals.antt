-- Which programs have no flat form.
use Rattle.std.specs.Prelude.{◌≡◌, false}
use Rattle.program_tree.specs.Tree.{ProgramData}
use Rattle.rules.specs.declared.rule.Rule.TheVariants.{TooManyStatements}
use Rattle.rules.specs.declared.rule.Refusal.{Refusal}
use Rattle.flat_form.specs.FlatPrograms.{is_short}

-- its flat form has too many statements (M5, at byte 0)
abbrev pub IsTooLong : ProgramData → Refusal → Type 0
IsTooLong p r = (is_short p ≡ false) × (r ≡ record { rule = TooManyStatements; at = 0 })
