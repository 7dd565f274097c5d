-- What is kept of the texts of OLD, NEW and REL.
use Rattle.command_files.specs.declared.texts.KeptTexts.{KeptTexts}
use Rattle.command_files.specs.Kept.{IsKept}
use Rattle.command_files.specs.Texts.{Texts}

-- all three texts, but for those that are too long
pub record AreKept (kept : KeptTexts) (t : Texts) : Type 0 where
  pub old : IsKept kept.old t.old
  pub new : IsKept kept.new t.new
  pub rel : IsKept kept.relation t.rel
