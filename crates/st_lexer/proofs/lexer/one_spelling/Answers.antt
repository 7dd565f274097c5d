use Rattle.st_lexer.proofs.Spellings.{spells_once}
use Rattle.st_lexer.proofs.lexer.one_spelling.Goals as goal

pub returns : goal.returns
returns c = λ ts us s t. spells_once c.args.text.now ts us s t
