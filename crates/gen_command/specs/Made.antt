-- What is made from a number.
use Rattle.std.specs.Prelude.{ℕ, []}
use Rattle.verify_command.specs.comparison_files.Texts.{Texts}
use Rattle.verify_command.specs.comparison_files.KeptTexts.{AreKept}
use Rattle.generated_texts.specs.Names.{AreFileNames}
use Rattle.generated_texts.specs.Texts.{old_text, new_text, relation_text, AreGenerated}
use Rattle.gen_command.specs.declared.made.Made.{Made}

-- the texts as those of files
abbrev pub texts_of : ℕ → Texts
texts_of count = record { old = old_text count; new = new_text count; rel = relation_text count; trace = []; finding = [] }

pub record IsMade (count : ℕ) (made : Made) : Type 0 where
  pub names : AreFileNames count made.names
  pub texts : AreGenerated count made.texts
  pub kept : AreKept made.kept (texts_of count)
