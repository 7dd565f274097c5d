use Rattle.st_lexer.proofs.Cuts.{cut_of, cut_once}
use Rattle.st_lexer.proofs.lexer.one_cut.Goals as goal

pub returns : goal.returns
returns c = record { some = cut_of c.args.text.now; once = λ ps qs h k. cut_once c.args.text.now ps qs h k }
