use Rattle.std.proofs.Common.{◌∙◌}
use Rattle.std.proofs.lemmas.Bool.Decides.{same_from_decides}
use Rattle.std.proofs.lemmas.Slice.Eq.{bytes_eq-Decides}
use Rattle.st_lexer.proofs.Cases.{same_word}
use Rattle.st_lexer.proofs.words.is_same.Goals as goal

pub returns : goal.returns
returns c = same_from_decides _ _ c.eq_ignore_ascii_case.ensures.test (bytes_eq-Decides _ _) ∙ same_word c.args.text.now c.args.word.now
